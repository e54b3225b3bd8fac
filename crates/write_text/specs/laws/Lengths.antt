-- No text of a table that holds an accepted grammar, or its translation, is longer than plain mode reads; so no count stops early. Assumes nothing.
use Rattle.std.specs.Prelude.{ℕ, zero, suc, ◌+◌, ◌≤◌, ◌<◌, ◌≡◌, refl, length, get_or, replicate}
use Rattle.std.proofs.Common.{ap, ap₂, subst, arith, ltb-false}
use mathlib.Core.List.{List, [], ◌∷◌, ◌++◌, map}
use Rattle.std.proofs.Math.Option.{none}
use Rattle.std.proofs.Math.ListN.{length-append}
use Rattle.read_tokens.specs.declared.Mode.{Mode}
use Rattle.read_tokens.specs.declared.Mode.TheVariants.{Lake, Plain}
use Rattle.read_tokens.specs.Token.{Symbol, Leaf, name, lake, any, literal, class}
use Rattle.read_tokens.specs.Bounds.{text_bound, name_bound, literal_bound, expression_bound, symbol_bound}
use Rattle.read_tokens.specs.laws.Bytes.{Bytes}
use Rattle.grammar.specs.Exp.{Exp, Rule, sym as uses, ter, seq, alt, opt, star, plus, ahead, never, size, rename}
use Rattle.grammar.specs.Lakes.{plain_name}
use Rattle.grammar.specs.Syntax.{Rules}
use Rattle.grammar.specs.Trees.{trees}
use Rattle.grammar.specs.Numbers.{Grammar, left_sides, loose_lakes, symbols_of, expressions_of, right_by, numbered}
use Rattle.grammar_table.specs.Holds.{Holds, present}
use Rattle.read_syntax.specs.Machine.{over}
use Rattle.lake_rules.specs.Analysis.{analysis}
use Rattle.grammar.specs.Numbers.{terminal_in}
use Rattle.lake_step_one.specs.Proper.{Sound as SoundExp, SoundAll}
use Rattle.grammar_table.specs.laws.Parts.{total, present-some}
use Rattle.lake_step_one.specs.steps.Made.{with_bodies}
use Rattle.lake_calls.specs.laws.Trees.{leaf-at}
use Rattle.lake_plain.specs.Plain.{rules_by, plain_rules}
use Rattle.lake_step_two.specs.steps.Stepped.{plain_of}
use Rattle.read_grammar.specs.steps.Promises.{Sound}
use Rattle.write_rules.specs.Writing.{text}
use Rattle.write_rules.proofs.laws.Terminals.{FineLeaf}
use Rattle.write_rules.proofs.laws.Lengths.{Short, Brief, Bounded, BoundedAll, not-too-long}
use Rattle.write_rules.proofs.laws.Within.{bounded}
use Rattle.lake_step_one.proofs.laws.Held.{names-are, expressions-are}
use Rattle.write_text.specs.laws.Fit.{FitName, FitLeaf, fit-name, fit-leaf, fine-rules, narrow-rules}
use Rattle.write_text.specs.laws.Own.{lefts-long}
use Rattle.write_text.specs.laws.Plain.{plain_names, plain-sound, bodies-long}

-- ── names and terminals of the plain grammar ──
pub name-brief : (m : Mode) (h : Symbol) → FitName m h → Brief (plain_name h)
unfolding over name_bound plain_name
name-brief Lake (name w) f = omega (arith, ltb-false 32 (length w) f.1)
name-brief Plain (name w) f = omega (arith, ltb-false 38 (length w) f.1)
name-brief Lake (lake w) f = omega (arith, ltb-false 32 (length w) f.1)
name-brief Plain (lake w) f = absurd f.0

leaf-short : (m : Mode) (x : Leaf) → FitLeaf m x → Short x
unfolding over
leaf-short m any f = tt
leaf-short m (literal l) f = ltb-false literal_bound (length l) f.1
leaf-short m (class l) f = tt

renamed-size : {A C : Type 0} (k : A → C) (e : Exp A) → size (rename k e) ≡ size e
unfolding rename size
renamed-size k (uses h) = refl
renamed-size k (ter x) = refl
renamed-size k (seq a b) = ap₂ (λ (i j : ℕ). suc (i + j)) (renamed-size k a) (renamed-size k b)
renamed-size k (alt a b) = ap₂ (λ (i j : ℕ). suc (i + j)) (renamed-size k a) (renamed-size k b)
renamed-size k (opt a) = ap suc (renamed-size k a)
renamed-size k (star a) = ap suc (renamed-size k a)
renamed-size k (plus a) = ap suc (renamed-size k a)
renamed-size k (ahead a) = ap suc (renamed-size k a)
renamed-size k (never a) = ap suc (renamed-size k a)

-- ── rules with a body for each symbol ──
module _ (number : Leaf → ℕ) (n x : ℕ) (k : ℕ → Symbol) (brief : (r : ℕ) → r < n → Brief (k r)) (leaves : (y : Leaf) → number y < x → FineLeaf y × Short y) where
  bounded-by : (e : Exp ℕ) → SoundExp number n x e → Bounded (rename k e)
  unfolding rename
  bounded-by (uses r) h = brief r h
  bounded-by (ter y) h = leaves y h.0
  bounded-by (seq a b) h = (bounded-by a h.0, bounded-by b h.1)
  bounded-by (alt a b) h = (bounded-by a h.0, bounded-by b h.1)
  bounded-by (opt a) h = bounded-by a h
  bounded-by (star a) h = bounded-by a h
  bounded-by (plus a) h = bounded-by a h
  bounded-by (ahead a) h = bounded-by a h
  bounded-by (never a) h = bounded-by a h

  bounded-all : (es : List (Exp ℕ)) (r : ℕ) → SoundAll number n x es → r + length es ≤ n → BoundedAll (rules_by k r es)
  unfolding rules_by
  bounded-all [] r h l = tt
  bounded-all (e ∷ es) r h l = (brief r (omega arith), bounded-by e h.0, bounded-all es (suc r) h.1 (omega arith))

pub by-long : (k : ℕ → Symbol) (es : List (Exp ℕ)) (r : ℕ) → length (rules_by k r es) ≡ length es
unfolding rules_by
by-long k [] r = refl
by-long k (e ∷ es) r = ap suc (by-long k es (suc r))

pub by_total : (k : ℕ → Symbol) (es : List (Exp ℕ)) (r : ℕ) → expressions_of (rules_by k r es) ≡ total es
unfolding rules_by expressions_of total
by_total k [] r = refl
by_total k (e ∷ es) r = ap₂ ◌+◌ (renamed-size k e) (by_total k es (suc r))

own-total : (names : List Symbol) (rs : List Rule) (j : ℕ) → total (present (map (right_by names) rs ++ replicate j none)) ≡ expressions_of rs
unfolding expressions_of total present
own-total names [] zero = refl
own-total names [] (suc j) = own-total names [] j
own-total names (r ∷ rs) j = ap₂ ◌+◌ (renamed-size _ r.right) (own-total names rs j)

module _ (m : Mode) (s : List ℕ) (g : Rules) (b : Bytes s) (sound : Sound m s g) where
  abbrev n : Grammar
  n = numbered (trees g)

  pub fit-leaves : (y : Leaf) → terminal_in n y < length n.terminals → FitLeaf m y
  fit-leaves y l = subst (FitLeaf m) (leaf-at y n.terminals l) (fit-leaf m s g b sound (terminal_in n y) l)

  -- ── the grammar's own text ──
  module _ (t : List ℕ) (h : Holds t n) where
    own-expressions : expressions_of (trees g) ≤ 1024
    unfolding numbered
    own-expressions = omega (arith, own-total (symbols_of (trees g)) (trees g) (length (loose_lakes (trees g))), expressions-are t n h, h.few-expressions)

    own-few : length (trees g) ≤ 64
    unfolding numbered symbols_of
    own-few = omega (arith, lefts-long (trees g), length-append (left_sides (trees g)) (loose_lakes (trees g)), names-are t n h, h.few-symbols)

    pub own-short : length (text (trees g)) ≤ 1048576
    unfolding expression_bound symbol_bound text_bound
    own-short = not-too-long (trees g) (bounded m (trees g) (fine-rules m s g b sound) (narrow-rules m s g b sound)) own-expressions own-few

  -- ── the plain text ──
  pub plain-bounded : BoundedAll (plain_rules n (analysis n))
  unfolding plain_rules
  plain-bounded =
      bounded-all (terminal_in n) (length n.names) (length n.terminals) (plain_names n)
      (λ r l. name-brief m (get_or n.names r (name [])) (fit-name m s g b sound r l))
      (λ y l. ((fit-leaves y l).0, leaf-short m y (fit-leaves y l)))
      (plain_of n) 0 (plain-sound m s g sound) (omega (arith, bodies-long (trees g)))

  pub plain-length : length n.names ≤ 64 → total (plain_of n) ≤ 1024 → length (text (plain_rules n (analysis n))) ≤ 1048576
  unfolding expression_bound symbol_bound text_bound plain_rules
  plain-length few small =
      not-too-long (plain_rules n (analysis n)) plain-bounded (omega (arith, by_total (plain_names n) (plain_of n) 0, small)) (omega (arith, by-long (plain_names n) (plain_of n) 0, bodies-long (trees g), few))

  pub plain-short : (t : List ℕ) → Holds t (with_bodies n (plain_of n)) → length (text (plain_rules n (analysis n))) ≤ 1048576
  plain-short t h =
      plain-length (omega (arith, names-are t (with_bodies n (plain_of n)) h, h.few-symbols))
      (omega (arith, expressions-are t (with_bodies n (plain_of n)) h, h.few-expressions, ap total (present-some (plain_of n))))
