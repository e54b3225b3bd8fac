-- The plain bodies by number, and that each is as large as the intermediate body at least. Assumes nothing.
use Prim.Native.Nat.{ℕ, zero, suc, ◌+◌, ◌-◌, ◌≤◌, ◌<◌}
use Rattle.std.specs.Prelude.{◌≡◌, Bool, not, ◌&&◌, length, get_or}
use Rattle.std.proofs.Math.Path.{refl, ap}
use Rattle.std.proofs.Common.{sym, ap₂, ◌∙◌, subst}
use Rattle.std.proofs.Math.Bool.{true, false}
use mathlib.Core.List.{List, [], ◌∷◌, ◌++◌}
use Rattle.std.proofs.Math.Option.{Option, none, some}
use native.Mathlib.Omega.{arith}
use Rattle.read_tokens.specs.Token.{Symbol, Leaf, name, any}
use Rattle.grammar.specs.Exp.{Exp, sym as uses, ter, size}
use Rattle.grammar.specs.Lakes.{skip_of, step_two}
use Rattle.grammar.specs.Numbers.{Grammar, is_lake}
use Rattle.base_words.specs.Set.{member_of}
use Rattle.grammar_table.specs.Holds.{present}
use Rattle.lake_step_one.specs.Intermediate.{intermediate}
use Rattle.lake_rules.specs.Analysis.{Analysis, lake_alt}
use Rattle.grammar_table.specs.laws.Parts.{total}
use Rattle.lake_plain.specs.Plain.{nonterminals_in, terminals_in, alternatives, plain_by, plain_from, plain_bodies, sizes}
use Rattle.lake_step_two.specs.steps.Skips.{only_if, each}
use Rattle.lake_step_two.proofs.laws.Skips.{append_assoc}

-- ---- the alternatives
each-front : (f : ℕ → List (Exp ℕ)) (n : ℕ) → each f (suc n) ≡ f 0 ++ each (λ i. f (suc i)) n
unfolding each
each-front f zero = only (f 0)
  where
    only : (l : List (Exp ℕ)) → l ≡ l ++ []
    only [] = refl
    only (x ∷ l) = ap (λ (r : List (Exp ℕ)). x ∷ r) (only l)
each-front f (suc n) = ap (λ (l : List (Exp ℕ)). l ++ f (suc n)) (each-front f n) ∙ append_assoc (f 0) (each (λ i. f (suc i)) n) (f (suc n))

only-front : (b : Bool) (e : Exp ℕ) (l : List (Exp ℕ)) → only_if b e ++ l ≡ elim b [ true ↦ e ∷ l | false ↦ l ]
only-front true e l = refl
only-front false e l = refl

pub nonterminals-each : (s : List ℕ) (f : ℕ → List (Exp ℕ)) (hs : List Symbol) (o : ℕ)
    → ((i : ℕ) → i < length hs → f i ≡ only_if (member_of s (o + i) && not (is_lake (get_or hs i (name [])))) (uses (o + i))) → each f (length hs) ≡ nonterminals_in s o hs
unfolding nonterminals_in each
nonterminals-each s f [] o h = refl
nonterminals-each s f (y ∷ hs) o h =
    each-front f (length hs)
    ∙ ap₂ ◌++◌ (h 0 (omega arith) ∙ ap (λ (i : ℕ). only_if (member_of s i && not (is_lake y)) (uses i)) (let q : o + 0 ≡ o = omega arith in q))
    (nonterminals-each s (λ i. f (suc i)) hs (suc o) (λ i l. h (suc i) (omega arith) ∙ ap (λ (j : ℕ). only_if (member_of s j && not (is_lake (get_or hs i (name [])))) (uses j))
    (let q : o + suc i ≡ suc o + i = omega arith in q)))
    ∙ only-front (member_of s o && not (is_lake y)) (uses o) (nonterminals_in s (suc o) hs)

pub terminals-each : (s : List ℕ) (f : ℕ → List (Exp ℕ)) (xs : List Leaf) (o : ℕ) → ((i : ℕ) → i < length xs → f i ≡ only_if (member_of s (64 + (o + i))) (ter (get_or xs i any))) → each f
    (length xs) ≡ terminals_in s o xs
unfolding terminals_in each
terminals-each s f [] o h = refl
terminals-each s f (y ∷ xs) o h =
    each-front f (length xs)
    ∙ ap₂ ◌++◌ (h 0 (omega arith) ∙ ap (λ (i : ℕ). only_if (member_of s (64 + i)) (ter y)) (let q : o + 0 ≡ o = omega arith in q))
    (terminals-each s (λ i. f (suc i)) xs (suc o) (λ i l. h (suc i) (omega arith) ∙ ap (λ (j : ℕ). only_if (member_of s (64 + j)) (ter (get_or xs i any)))
    (let q : o + suc i ≡ suc o + i = omega arith in q)))
    ∙ only-front (member_of s (64 + o)) (ter y) (terminals_in s (suc o) xs)

-- ---- the bodies
module _ (g : Grammar) (a : Analysis) where
  pub plain_at : (hs : List Symbol) (os : List (Option (Exp ℕ))) (o s : ℕ) → s < length hs → s < length os
      → get_or (plain_from g a o hs os) s (ter any) ≡ plain_by (is_lake (get_or hs s (name []))) (get_or os s none) (alternatives g (lake_alt a (o + s)))
  unfolding plain_from
  plain_at [] os o s h l = let z : ⊥ = omega arith in absurd z
  plain_at (x ∷ hs) [] o s h l = let z : ⊥ = omega arith in absurd z
  plain_at (x ∷ hs) (b ∷ os) o zero h l = ap (λ (i : ℕ). plain_by (is_lake x) b (alternatives g (lake_alt a i))) (let q : o ≡ o + 0 = omega arith in q)
  plain_at (x ∷ hs) (b ∷ os) o (suc s) h l =
      plain_at hs os (suc o) s (omega arith) (omega arith)
      ∙ ap (λ (i : ℕ). plain_by (is_lake (get_or hs s (name []))) (get_or os s none) (alternatives g (lake_alt a i))) (let q : suc o + s ≡ o + suc s = omega arith in q)

  pub plain-long : (hs : List Symbol) (os : List (Option (Exp ℕ))) (o : ℕ) → length hs ≡ length os → length (plain_from g a o hs os) ≡ length os
  unfolding plain_from
  plain-long [] [] o h = refl
  plain-long [] (b ∷ os) o h = let z : ⊥ = omega arith in absurd z
  plain-long (x ∷ hs) [] o h = refl
  plain-long (x ∷ hs) (b ∷ os) o h = ap suc (plain-long hs os (suc o) (omega arith))

  no-smaller : (l : Bool) (b : Exp ℕ) (ss : List (Exp ℕ)) → size b ≤ size (plain_by l (some b) ss)
  unfolding step_two size
  no-smaller true b ss = omega arith
  no-smaller false b ss = omega arith

  from-larger : (hs : List Symbol) (os : List (Option (Exp ℕ))) (r : ℕ) → length hs ≡ length os → total (present os) ≤ total (plain_from g a r hs os)
  unfolding plain_from present total
  from-larger hs [] r e = omega arith
  from-larger [] (o ∷ os) r e = let z : ⊥ = omega arith in absurd z
  from-larger (h ∷ hs) (none ∷ os) r e = omega (arith, from-larger hs os (suc r) (omega arith))
  from-larger (h ∷ hs) (some b ∷ os) r e = omega (arith, no-smaller (is_lake h) b (alternatives g (lake_alt a r)), from-larger hs os (suc r) (omega arith))

  -- a grammar whose intermediate form is too large is too large
  pub plain-larger : length g.names ≡ length (intermediate g) → total (present (intermediate g)) ≤ total (plain_bodies g a)
  unfolding plain_bodies
  plain-larger e = from-larger g.names (intermediate g) 0 e

-- refusal 7 counts the same
pub sizes-total : (es : List (Exp ℕ)) → sizes es ≡ total es
unfolding sizes total
sizes-total [] = refl
sizes-total (e ∷ es) = ap (λ (n : ℕ). size e + n) (sizes-total es)
