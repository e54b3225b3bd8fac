-- The finished table holds the intermediate grammar. Assumes nothing.
use Prim.Native.Nat.{ℕ, zero, suc, ◌+◌, ◌-◌, ◌*◌, ◌≤◌, ◌<◌, min}
use Rattle.std.specs.Prelude.{◌≡◌, Bool, true, false, not, length, set, take, eqb, ◌⊎◌}
use Rattle.std.proofs.Math.Path.{refl, sym, ap, ap₂, subst}
use Rattle.std.proofs.Common.{◌∙◌, get_or-set_same, take_all, ⊎_elim}
use mathlib.Core.List.{List, [], ◌∷◌, ◌++◌}
use Rattle.std.proofs.Math.Option.{Option, none, some}
use native.Mathlib.Omega.{arith}
use Rattle.std.proofs.Math.ListN.{get_or, length-set}
use Rattle.std.proofs.Math.Seq.{get_or-set_other}
use Rattle.base_facts.specs.laws.Numbers.{same?}
use Rattle.read_tokens.specs.Token.{Symbol, Leaf, name, lake, any, literal, class}
use Rattle.grammar.specs.Exp.{Exp}
use Rattle.grammar.specs.Numbers.{Grammar}
use Rattle.grammar.specs.Parts.{Part, last, parts_of, parts_all}
use Rattle.grammar_table.specs.Table.{table_words, expressions_at, symbols_at, symbol_words, terminals_at, terminal_words, symbol_count, terminal_count, expression_count, symbol_word}
use Rattle.grammar_table.specs.Table.{terminal_word, symbol_by, words_from, marks_from, name_in, leaf_by, leaf_in, part_by, part_in, parts_in, roots_in, up_to}
use Rattle.grammar_table.specs.Holds.{Holds, present, roots_from}
use Rattle.lake_step_one.specs.Intermediate.{intermediate}
use Rattle.grammar.specs.Numbers.{terminal_in}
use Rattle.lake_step_one.specs.Proper.{with_rights, middle}
use Rattle.grammar_table.specs.laws.Places.{up_to-at, is-up_to, up_to-same}
use Rattle.grammar_table.specs.laws.Parts.{total, all-long, from-long}
use Rattle.lake_step_one.specs.steps.Runs.{nil}
use Rattle.lake_step_one.specs.steps.Made.{Made, MadeOf, Short, name_size, leaf_size, WaterAt, BuiltAll, SteppedOne}
use Rattle.lake_step_one.proofs.laws.Held.{names-are, terminals-are}
use Rattle.lake_step_one.proofs.laws.Next.{middle-long, name-at}

pub made-start : (t : List ℕ) (g : Grammar) (rights : List (Option (Exp ℕ))) (mid : List ℕ) → length mid ≡ table_words → ((i : ℕ) → i < expressions_at → get_or mid i 0 ≡ get_or t i 0) → MadeOf t g
    rights 0 0 0 mid
unfolding total present
made-start t g rights mid long low = record {
  long = long;
  from_is = refl;
  count = refl;
  parts = λ j p s. let z : ⊥ = omega arith in absurd z;
  roots = λ s p f. let z : ⊥ = omega arith in absurd z;
  low = λ i l a. low i l;
}

-- ---- what reads equal words is equal
words_same : (t u : List ℕ) (n i : ℕ) → ((j : ℕ) → j < n → get_or u (i + j) 0 ≡ get_or t (i + j) 0) → words_from u i n ≡ words_from t i n
unfolding words_from
words_same t u zero i h = refl
words_same t u (suc n) i h =
    ap₂ (λ (x : ℕ) (l : List ℕ). x ∷ l) (let q : i ≡ i + 0 = omega arith in ap (λ (k : ℕ). get_or u k 0) q ∙ h 0 (omega arith) ∙ ap (λ (k : ℕ). get_or t k 0) (sym q))
    (words_same t u n (suc i) (λ j l. let q : suc i + j ≡ i + suc j = omega arith in ap (λ (k : ℕ). get_or u k 0) q ∙ h (suc j) (omega arith) ∙ ap (λ (k : ℕ). get_or t k 0) (sym q)))

marks-same : (t u : List ℕ) (n i : ℕ) → ((j : ℕ) → j < n → get_or u (i + j) 0 ≡ get_or t (i + j) 0) → marks_from u i n ≡ marks_from t i n
unfolding marks_from
marks-same t u zero i h = refl
marks-same t u (suc n) i h =
    ap₂ (λ (x : ℕ) (l : List Bool). not (eqb x 0) ∷ l) (let q : i ≡ i + 0 = omega arith in ap (λ (k : ℕ). get_or u k 0) q ∙ h 0 (omega arith) ∙ ap (λ (k : ℕ). get_or t k 0) (sym q))
    (marks-same t u n (suc i) (λ j l. let q : suc i + j ≡ i + suc j = omega arith in ap (λ (k : ℕ). get_or u k 0) q ∙ h (suc j) (omega arith) ∙ ap (λ (k : ℕ). get_or t k 0) (sym q)))

words_long : (t : List ℕ) (n i : ℕ) → length (words_from t i n) ≡ n
unfolding words_from
words_long t zero i = refl
words_long t (suc n) i = ap suc (words_long t n (suc i))

size-by : (k : ℕ) (w : List ℕ) → name_size (symbol_by k w) ≡ length w
size-by zero w = refl
size-by (suc k) w = refl

total-le : (os : List (Option (Exp ℕ))) (s : ℕ) → total (present (take s os)) ≤ total (present os)
unfolding total present
total-le [] zero = omega arith
total-le [] (suc s) = omega arith
total-le (o ∷ os) zero = omega arith
total-le (none ∷ os) (suc s) = total-le os s
total-le (some e ∷ os) (suc s) = omega (arith, total-le os s)

module _ (t : List ℕ) (g : Grammar) (rights : List (Option (Exp ℕ))) (h : Holds t g) (long : length rights ≡ symbol_count t) (short : Short g) (from m v : ℕ) (mid : List ℕ)
    (made : MadeOf t g rights (symbol_count t) from m mid) (ev : m < 4294967296 → v ≡ m) where
  abbrev out : List ℕ
  out = set mid 2 v

  rights-all : take (symbol_count t) rights ≡ rights
  rights-all = take_all (symbol_count t) rights (omega (arith, long))

  pub count-is : m ≡ total (present rights)
  count-is = made.count ∙ ap (λ (os : List (Option (Exp ℕ))). total (present os)) rights-all

  kept : (i : ℕ) → i < expressions_at → (i ≡ 2 → ⊥) → ((s : ℕ) → s < symbol_count t → i ≡ symbols_at + symbol_words * s + 1 → ⊥) → get_or out i 0 ≡ get_or t i 0
  kept i l n a = get_or-set_other mid 2 i v 0 n ∙ made.low i l a

  symbols : symbol_count out ≡ symbol_count t
  symbols = kept 0 (omega arith) (λ e. let z : ⊥ = omega arith in z) (λ s l e. let z : ⊥ = omega arith in z)

  terminals : terminal_count out ≡ terminal_count t
  terminals = kept 1 (omega arith) (λ e. let z : ⊥ = omega arith in z) (λ s l e. let z : ⊥ = omega arith in z)

  -- a symbol's record but for its body
  symbol-word : (r j : ℕ) → r < symbol_count t → j < symbol_words → (j ≡ 1 → ⊥) → get_or out (symbols_at + symbol_words * r + j) 0 ≡ get_or t (symbols_at + symbol_words * r + j) 0
  symbol-word r j l k n =
      kept (symbols_at + symbol_words * r + j) (omega (arith, h.few-symbols)) (λ e. let z : ⊥ = omega arith in z) (λ s p e. n (omega arith))

  name-same : (r : ℕ) → r < symbol_count t → name_in out r ≡ name_in t r
  unfolding name_in
  name-same r l =
      let n : name_size (name_in t r) ≤ 38 = subst (λ (y : Symbol). name_size y ≤ 38) (name-at t g h r l) (short.names r (omega (arith, names-are t g h))) in
      let k : symbol_word t r 3 ≤ 38 = omega (
        arith,
        n,
        size-by (symbol_word t r 0) (words_from t (symbols_at + symbol_words * r + 4) (symbol_word t r 3)),
        words_long t (symbol_word t r 3)
            (symbols_at + symbol_words * r + 4),
      ) in
      ap₂ symbol_by (symbol-word r 0 l (omega arith) (λ e. let z : ⊥ = omega arith in z))
      (ap (words_from out (symbols_at + symbol_words * r + 4)) (symbol-word r 3 l (omega arith) (λ e. let z : ⊥ = omega arith in z))
      ∙ words_same t out (symbol_word t r 3) (symbols_at + symbol_words * r + 4)
      (λ j p. let q : symbols_at + symbol_words * r + 4 + j ≡ symbols_at + symbol_words * r + (4 + j) = omega arith in
      ap (λ (i : ℕ). get_or out i 0) q ∙ symbol-word r (4 + j) l (omega arith) (λ e. let z : ⊥ = omega arith in z) ∙ ap (λ (i : ℕ). get_or t i 0) (sym q)))

  -- a terminal's record
  terminal-word : (x j : ℕ) → x < terminal_count t → j < terminal_words → get_or out (terminals_at + terminal_words * x + j) 0 ≡ get_or t (terminals_at + terminal_words * x + j) 0
  terminal-word x j l k =
      kept (terminals_at + terminal_words * x + j) (omega (arith, h.few-terminals)) (λ e. let z : ⊥ = omega arith in z) (λ s p e. let z : ⊥ = omega (arith, h.few-symbols) in z)

  leaf-by : (k x : ℕ) → x < terminal_count t → leaf_size (leaf_by k t x) ≤ 256 → leaf_by k out x ≡ leaf_by k t x
  unfolding leaf_by
  leaf-by zero x l s = refl
  leaf-by (suc zero) x l s =
      let k : terminal_word t x 1 ≤ 256 = omega (arith, s, words_long t (terminal_word t x 1) (terminals_at + terminal_words * x + 2)) in
      ap literal (ap (words_from out (terminals_at + terminal_words * x + 2)) (terminal-word x 1 l (omega arith))
      ∙ words_same t out (terminal_word t x 1) (terminals_at + terminal_words * x + 2)
      (λ j p. let q : terminals_at + terminal_words * x + 2 + j ≡ terminals_at + terminal_words * x + (2 + j) = omega arith in
      ap (λ (i : ℕ). get_or out i 0) q ∙ terminal-word x (2 + j) l (omega arith) ∙ ap (λ (i : ℕ). get_or t i 0) (sym q)))
  leaf-by (suc (suc k)) x l s =
      ap class (marks-same t out 256 (terminals_at + terminal_words * x + 2)
      (λ j p. let q : terminals_at + terminal_words * x + 2 + j ≡ terminals_at + terminal_words * x + (2 + j) = omega arith in
      ap (λ (i : ℕ). get_or out i 0) q ∙ terminal-word x (2 + j) l (omega arith) ∙ ap (λ (i : ℕ). get_or t i 0) (sym q)))

  leaf-same : (x : ℕ) → x < terminal_count t → leaf_in out x ≡ leaf_in t x
  unfolding leaf_in
  leaf-same x l =
      let e : get_or g.terminals x any ≡ leaf_in t x = ap (λ (ls : List Leaf). get_or ls x any) (sym h.terminals) ∙ up_to-at (leaf_in t) (terminal_count t) x any l in
      ap (λ (k : ℕ). leaf_by k out x) (terminal-word x 0 l (omega arith))
      ∙ leaf-by (terminal_word t x 0) x l (subst (λ (y : Leaf). leaf_size y ≤ 256) e (short.literals x (omega (arith, terminals-are t g h))))

  part_same : (j : ℕ) → part_in out j ≡ part_in mid j
  unfolding part_in
  part_same j = ap₂ (λ (f : ℕ → Part) (x : ℕ). f x) (ap₂ part_by (word 0 (omega arith)) (word 1 (omega arith))) (word 2 (omega arith))
    where
      word : (w : ℕ) → w < 3 → get_or out (expressions_at + 3 * j + w) 0 ≡ get_or mid (expressions_at + 3 * j + w) 0
      word w k = get_or-set_other mid 2 (expressions_at + 3 * j + w) v 0 (λ e. let z : ⊥ = omega arith in z)

  module _ (fits : total (present rights) ≤ 1024) where
    expressions : expression_count out ≡ m
    expressions = get_or-set_same mid 2 v 0 (omega (arith, made.long)) ∙ ev (omega (arith, count-is))

    pub finished : Holds out (with_rights g rights)
    unfolding parts_in roots_in
    finished = record {
      long = length-set mid 2 v ∙ made.long;
      few-symbols = omega (arith, symbols, h.few-symbols);
      few-terminals = omega (arith, terminals, h.few-terminals);
      few-expressions = omega (arith, expressions, count-is);
      names = ap (up_to (name_in out)) symbols ∙ up_to-same (name []) (name_in out) (name_in t) (symbol_count t) name-same ∙ h.names;
      terminals = ap (up_to (leaf_in out)) terminals ∙ up_to-same any (leaf_in out) (leaf_in t) (terminal_count t) leaf-same ∙ h.terminals;
      parts = ap (up_to (part_in out)) (expressions ∙ count-is)
          ∙ sym (is-up_to nil (part_in out) (parts_all (terminal_in g) 0 (present rights)) (total (present rights)) (all-long (terminal_in g) (present rights) 0)
          (λ i l. sym (part_same i ∙ made.parts i (omega (arith, count-is)) (omega arith))));
      roots = ap (up_to (λ r. symbol_word out r 1)) symbols
          ∙ sym (is-up_to 0 (λ r. symbol_word out r 1) (roots_from 0 rights) (symbol_count t) (from-long rights 0 ∙ long)
          (λ s l. let f : total (present (take (suc s) rights)) ≤ total (present rights) = total-le rights (suc s) in
          sym (get_or-set_other mid 2 (symbols_at + symbol_words * s + 1) v 0 (λ e. let z : ⊥ = omega arith in z) ∙ made.roots s l (omega arith))));
    }

-- all together
pub stepped : (t mid low built out : List ℕ) (r a b m v k : ℕ) → r ≡ symbol_count t → length mid ≡ table_words → length low ≡ length mid
    → ((i : ℕ) → i < expressions_at → i < length mid → get_or low i 0 ≡ get_or t i 0)
    → WaterAt t r a b → BuiltAll t r a b low m built → (m < 4294967296 → v ≡ m) → out ≡ set built 2 v → k ≡ min 1025 m → SteppedOne t out k
stepped t mid low built out r a b m v k er long same copied wat all ev eo ek g h short =
    let start : Made t g 0 0 0 low = made-start t g (intermediate g) low (same ∙ long) (λ i l. copied i l (omega arith)) in
    let res = all g h er (wat g h er) start in
    let made : Made t g (symbol_count t) res.0 m built = subst (λ (y : ℕ). Made t g y res.0 m built) er res.1 in (
      ek ∙ ap (min 1025) (count-is t g (intermediate g) h (middle-long t g h) short res.0 m v built made ev),
      λ fits. subst (λ (x : List ℕ). Holds x (middle g)) (sym eo) (finished t g (intermediate g) h (middle-long t g h) short res.0 m v built made ev fits),
    )

pub copied_more : (t mid : List ℕ) (i j n : ℕ) → length mid ≡ n → ((k : ℕ) → k < i → k < n → get_or mid k 0 ≡ get_or t k 0) → j < i + 1 → j < n → get_or (set mid i (get_or t i 0)) j 0 ≡ get_or t j 0
copied_more t mid i j n e h p l =
    ⊎_elim (λ (q : j ≡ i). subst (λ (k : ℕ). get_or (set mid i (get_or t i 0)) k 0 ≡ get_or t k 0) (sym q) (get_or-set_same mid i (get_or t i 0) 0 (omega arith)))
    (λ (q : j ≡ i → ⊥). get_or-set_other mid i j (get_or t i 0) 0 q ∙ h j (omega arith) l) (same? j i)
