-- Rules made of sound bodies, each symbol called by its number: what their names and terminals have, the rules have. Assumes nothing.
use Rattle.std.specs.Prelude.{ℕ, suc, ◌+◌, ◌≤◌, ◌<◌, ◌≡◌, refl, Bool, true, false, length, get_or}
use Rattle.std.proofs.Common.{ap, ap₂, ◌∙◌, arith}
use mathlib.Core.List.{List, [], ◌∷◌, ◌++◌, map}
use Rattle.read_tokens.specs.declared.Mode.{Mode}
use Rattle.read_tokens.specs.Token.{Symbol, name, Leaf, query, asterisk, cross, Tok, suf, slash}
use Rattle.grammar.specs.Exp.{Exp, Rule, sym as uses, ter, seq, alt, opt, star, plus, ahead, never, rename, symbols_in, leaves_in}
use Rattle.grammar.specs.Lakes.{plain_name}
use Rattle.grammar.specs.Same.{same_symbol, new_in}
use Rattle.grammar.specs.Numbers.{is_lake, left_sides, uses_of, only_lakes, loose_lakes, leaves_of}
use Rattle.read_syntax.specs.Machine.{over}
use Rattle.lake_step_one.specs.Proper.{Sound, SoundAll}
use Rattle.lake_plain.specs.Plain.{rules_by}
use Rattle.grammar_table.specs.laws.Rows.{All}
use Rattle.write_rules.proofs.laws.Trip.{FineExpr, FineRules}
use Rattle.write_rules.proofs.laws.Kept.{yield, yields}
use Rattle.write_rules.proofs.laws.Within.{Narrow}
use Rattle.write_text.specs.laws.Fit.{FitName, FitLeaf, join}

narrow-join : (m : Mode) (l r : List Tok) → Narrow m l → Narrow m r → Narrow m (l ++ r)
narrow-join m [] r h k = k
narrow-join m (t ∷ l) r h k = (h.0, narrow-join m l r h.1 k)

module _ (number : Leaf → ℕ) (n x : ℕ) (k : ℕ → Symbol) where
  -- ── of names ──
  module _ (P : Symbol → Type 0) (names : (r : ℕ) → r < n → P (k r)) where
    in-uses : (e : Exp ℕ) → Sound number n x e → All P (symbols_in (rename k e))
    unfolding rename symbols_in
    in-uses (uses r) h = (names r h, tt)
    in-uses (ter y) h = tt
    in-uses (seq a b) h = join P (symbols_in (rename k a)) (symbols_in (rename k b)) (in-uses a h.0) (in-uses b h.1)
    in-uses (alt a b) h = join P (symbols_in (rename k a)) (symbols_in (rename k b)) (in-uses a h.0) (in-uses b h.1)
    in-uses (opt a) h = in-uses a h
    in-uses (star a) h = in-uses a h
    in-uses (plus a) h = in-uses a h
    in-uses (ahead a) h = in-uses a h
    in-uses (never a) h = in-uses a h

    pub uses-all : (es : List (Exp ℕ)) (r : ℕ) → SoundAll number n x es → All P (uses_of (rules_by k r es))
    unfolding rules_by uses_of
    uses-all [] r h = tt
    uses-all (e ∷ es) r h = join P (symbols_in (rename k e)) (uses_of (rules_by k (suc r) es)) (in-uses e h.0) (uses-all es (suc r) h.1)

  -- ── of terminals ──
  module _ (P : Leaf → Type 0) (terminals : (y : Leaf) → number y < x → P y) where
    in-leaves : (e : Exp ℕ) → Sound number n x e → All P (leaves_in (rename k e))
    unfolding rename leaves_in
    in-leaves (uses r) h = tt
    in-leaves (ter y) h = (terminals y h.0, tt)
    in-leaves (seq a b) h = join P (leaves_in (rename k a)) (leaves_in (rename k b)) (in-leaves a h.0) (in-leaves b h.1)
    in-leaves (alt a b) h = join P (leaves_in (rename k a)) (leaves_in (rename k b)) (in-leaves a h.0) (in-leaves b h.1)
    in-leaves (opt a) h = in-leaves a h
    in-leaves (star a) h = in-leaves a h
    in-leaves (plus a) h = in-leaves a h
    in-leaves (ahead a) h = in-leaves a h
    in-leaves (never a) h = in-leaves a h

    pub leaves_all : (es : List (Exp ℕ)) (r : ℕ) → SoundAll number n x es → All P (leaves_of (rules_by k r es))
    unfolding rules_by leaves_of
    leaves_all [] r h = tt
    leaves_all (e ∷ es) r h = join P (leaves_in (rename k e)) (leaves_of (rules_by k (suc r) es)) (in-leaves e h.0) (leaves_all es (suc r) h.1)

  -- ── can be written, and within bounds ──
  module _ (m : Mode) (names : (r : ℕ) → r < n → FitName m (k r)) (terminals : (y : Leaf) → number y < x → FitLeaf m y) where
    fine-by : (e : Exp ℕ) → Sound number n x e → FineExpr m (rename k e)
    unfolding rename
    fine-by (uses r) h = (names r h).0
    fine-by (ter y) h = (terminals y h.0).0
    fine-by (seq a b) h = (fine-by a h.0, fine-by b h.1)
    fine-by (alt a b) h = (fine-by a h.0, fine-by b h.1)
    fine-by (opt a) h = fine-by a h
    fine-by (star a) h = fine-by a h
    fine-by (plus a) h = fine-by a h
    fine-by (ahead a) h = fine-by a h
    fine-by (never a) h = fine-by a h

    narrow-by : (e : Exp ℕ) → Sound number n x e → Narrow m (yield (rename k e))
    unfolding rename yield over
    narrow-by (uses r) h = ((names r h).1, tt)
    narrow-by (ter y) h = ((terminals y h.0).1, tt)
    narrow-by (seq a b) h = narrow-join m (yield (rename k a)) (yield (rename k b)) (narrow-by a h.0) (narrow-by b h.1)
    narrow-by (alt a b) h = narrow-join m (yield (rename k a)) (slash ∷ yield (rename k b)) (narrow-by a h.0) (refl, narrow-by b h.1)
    narrow-by (opt a) h = narrow-join m (yield (rename k a)) (suf query ∷ []) (narrow-by a h) (refl, tt)
    narrow-by (star a) h = narrow-join m (yield (rename k a)) (suf asterisk ∷ []) (narrow-by a h) (refl, tt)
    narrow-by (plus a) h = narrow-join m (yield (rename k a)) (suf cross ∷ []) (narrow-by a h) (refl, tt)
    narrow-by (ahead a) h = (refl, narrow-by a h)
    narrow-by (never a) h = (refl, narrow-by a h)

    pub fine-all : (es : List (Exp ℕ)) (r : ℕ) → SoundAll number n x es → r + length es ≤ n → FineRules m (rules_by k r es)
    unfolding rules_by
    fine-all [] r h l = tt
    fine-all (e ∷ es) r h l = ((names r (omega arith)).0, fine-by e h.0, fine-all es (suc r) h.1 (omega arith))

    pub narrow-all : (es : List (Exp ℕ)) (r : ℕ) → SoundAll number n x es → r + length es ≤ n → Narrow m (yields (rules_by k r es))
    unfolding rules_by yields over
    narrow-all [] r h l = tt
    narrow-all (e ∷ es) r h l =
        ((names r (omega arith)).1, (refl, narrow-join m (yield (rename k e)) (yields (rules_by k (suc r) es)) (narrow-by e h.0) (narrow-all es (suc r) h.1 (omega arith))))

-- ── left sides ──
pub lefts-by : (k : ℕ → Symbol) (hs : List Symbol) (es : List (Exp ℕ)) (r : ℕ) → length es ≡ length hs → ((i : ℕ) → i < length hs → k (r + i) ≡ plain_name (get_or hs i (name []))) → left_sides (rules_by k r es) ≡ map plain_name hs
unfolding rules_by left_sides
lefts-by k [] [] r l f = refl
lefts-by k [] (e ∷ es) r l f = absurd (omega (arith, l))
lefts-by k (h ∷ hs) [] r l f = absurd (omega (arith, l))
lefts-by k (h ∷ hs) (e ∷ es) r l f =
    ap₂ ◌∷◌ (ap k (let z : r ≡ r + 0 = omega arith in z) ∙ f 0 (omega arith))
    (lefts-by k hs es (suc r) (omega (arith, l)) (λ i p. ap k (let z : suc r + i ≡ r + suc i = omega arith in z) ∙ f (suc i) (omega arith)))

-- ── without lakes no symbol is loose ──
abbrev pub Dry : Symbol → Type 0
Dry h = is_lake h ≡ false

no-lakes : (l : List Symbol) → All Dry l → only_lakes l ≡ []
unfolding only_lakes
no-lakes [] a = refl
no-lakes (h ∷ l) a = ap (λ (b : Bool). elim b as (λ c. List Symbol) [ true ↦ h ∷ only_lakes l | false ↦ only_lakes l ]) a.0 ∙ no-lakes l a.1

pub none-loose : (rs : List Rule) → All Dry (uses_of rs) → loose_lakes rs ≡ []
unfolding loose_lakes new_in
none-loose rs a = ap (new_in same_symbol (left_sides rs)) (no-lakes (uses_of rs) a)
