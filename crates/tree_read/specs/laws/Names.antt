-- A symbol by its name, as code looks for it. Assumes nothing.
use Rattle.std.specs.Prelude.{ℕ, zero, suc, ◌+◌, ◌-◌, ◌≤◌, ◌<◌, ◌≡◌, refl, Bool, leb, length, get_or}
use Rattle.std.proofs.Math.Path.{sym, ap}
use Rattle.std.proofs.Common.{◌∙◌, arith, add-one, le-leb}
use Rattle.std.proofs.Math.Bool.{true, false}
use mathlib.Core.List.{List, [], ◌∷◌, ◌++◌, map, append_assoc}
use Rattle.std.proofs.lemmas.Bool.{lt-leb}
use Rattle.read_tokens.specs.Token.{Symbol}
use Rattle.grammar_table.specs.Table.{words_from, symbol_word}
use Rattle.grammar_table.specs.Table.{name_at as place}
use Rattle.write_rules.specs.Writing.{symbol_text}
use Rattle.write_leaves.specs.steps.Printed.{low, called}
use Rattle.write_leaves.specs.laws.Leaves.{name-more, name-end, words-start}
use Rattle.write_leaves.specs.laws.Names.{name-text, lake-text}
use Rattle.tree_json.specs.Json.{quote}
use Rattle.tree_json.specs.Reading.{ate, Took, took, named_at}
use Rattle.tree_read.specs.laws.Eaten.{gone}

-- ── c symbols from r on ──
module _ (f : ℕ → Symbol) (js : List ℕ) (at c r : ℕ) where
  pub name-none : c ≡ 0 → named_at f c r js at ≡ took r (suc (length js))
  unfolding named_at
  name-none e = ap (λ (n : ℕ). named_at f n r js at) e

  module _ (a : ℕ) (e : a ≡ ate (symbol_text (f r) ++ quote) js at) where
    by-test : (n : ℕ) (t : Bool) → leb a (length js) ≡ t → named_at f (suc n) r js at ≡ elim t as (λ x. Took) [ true ↦ took r a | false ↦ named_at f n (suc r) js at ]
    unfolding named_at
    by-test n t h =
        sym (ap (λ (b : ℕ). elim (leb b (length js)) as (λ x. Took) [ true ↦ took r b | false ↦ named_at f n (suc r) js at ]) e)
        ∙ ap (λ (u : Bool). elim u as (λ x. Took) [ true ↦ took r a | false ↦ named_at f n (suc r) js at ]) h

    one_less : 0 < c → c ≡ suc (c - 1)
    one_less l = omega arith

    pub name-here : 0 < c → a ≤ length js → named_at f c r js at ≡ took r a
    name-here l h = ap (λ (n : ℕ). named_at f n r js at) (one_less l) ∙ by-test (c - 1) true (le-leb a (length js) h)

    pub name-next : 0 < c → length js < a → named_at f c r js at ≡ named_at f (c - 1) (r + 1) js at
    name-next l h = ap (λ (n : ℕ). named_at f n r js at) (one_less l) ∙ by-test (c - 1) false (lt-leb a (length js) h) ∙ ap (λ (n : ℕ). named_at f (c - 1) n js at) (sym (add-one r))

-- where the search stands before symbol r of R
module _ (f : ℕ → Symbol) (js : List ℕ) (at R r : ℕ) (w : named_at f R 0 js at ≡ named_at f (R - r) r js at) where
  module _ (a : ℕ) (e : a ≡ ate (symbol_text (f r) ++ quote) js at) (l : r < R) where
    pub find-here : a ≤ length js → (r ≡ (named_at f R 0 js at).value) × (a ≡ (named_at f R 0 js at).place) × (r ≤ R)
    find-here h =
        let g : named_at f R 0 js at ≡ took r a = w ∙ name-here f js at (R - r) r a e (omega arith) h in
        (sym (ap (λ (t : Took). t.value) g), sym (ap (λ (t : Took). t.place) g), omega arith)

    pub find-next : length js < a → named_at f R 0 js at ≡ named_at f (R - (r + 1)) (r + 1) js at
    find-next h =
        let g : R - r - 1 ≡ R - (r + 1) = omega arith in
        w ∙ name-next f js at (R - r) r a e (omega arith) h ∙ ap (λ (n : ℕ). named_at f n (r + 1) js at) g

  pub find_none : R ≤ r → length js < (named_at f R 0 js at).place
  find_none l = omega (arith, ap (λ (t : Took). t.place) (w ∙ name-none f js at (R - r) r (omega arith)))

-- from past the end on no name stands there
pub named-gone : (f : ℕ → Symbol) (js : List ℕ) (at c r : ℕ) → length js < at → length js < (named_at f c r js at).place
named-gone f js at zero r h = omega (arith, ap (λ (t : Took). t.place) (name-none f js at 0 r refl))
named-gone f js at (suc c) r h =
    let g : length js < ate (symbol_text (f r) ++ quote) js at = gone js (symbol_text (f r) ++ quote) at h in
    let e : suc c - 1 ≡ c = omega arith in
    omega (
      arith,
      ap (λ (t : Took). t.place) (name-next f js at (suc c) r (ate (symbol_text (f r) ++ quote) js at) refl (omega arith) g ∙ ap (λ (n : ℕ). named_at f n (r + 1) js at) e),
      named-gone f js at c (r + 1) h,
    )

pub find-start : (f : ℕ → Symbol) (js : List ℕ) (at R : ℕ) → named_at f R 0 js at ≡ named_at f (R - 0) 0 js at
find-start f js at R = let g : R ≡ R - 0 = omega arith in ap (λ (n : ℕ). named_at f n 0 js at) g

-- ── the name of symbol r by the words of its record ──
module _ (t : List ℕ) (r i k n : ℕ) (x : i ≡ place r) (e : k ≡ symbol_word t r 0) (g : n ≡ symbol_word t r 3) where
  abbrev words : List ℕ
  words = map low (words_from t i n)

  from-record : words ≡ map low (words_from t (place r) n)
  from-record = ap (λ (j : ℕ). map low (words_from t j n)) x

  pub a_name : k ≡ 0 → words ++ quote ≡ symbol_text (called false t r) ++ quote
  a_name z = ap (λ (w : List ℕ). w ++ quote) (from-record ∙ name-text t r k n e g false z)

  pub a_lake : (k ≡ 0 → ⊥) → (60 ∷ []) ++ (words ++ (62 ∷ 34 ∷ [])) ≡ symbol_text (called false t r) ++ quote
  a_lake z =
      ap (λ (w : List ℕ). 60 ∷ (w ++ (62 ∷ 34 ∷ []))) from-record
      ∙ ap (λ (w : List ℕ). 60 ∷ w) (sym (append_assoc (map low (words_from t (place r) n)) (62 ∷ []) (34 ∷ [])))
      ∙ ap (λ (w : List ℕ). w ++ quote) (lake-text t r k n e g false refl z)
