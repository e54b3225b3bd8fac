-- The symbol called `water`, and the run of its right side. Assumes nothing.
use Rattle.std.specs.Prelude.{ℕ, zero, suc, ◌+◌, ◌-◌, ◌*◌, ◌≤◌, ◌<◌, ◌≡◌, Bool, true, false, not, cond, ◌&&◌, List, [], ◌∷◌, ◌⊎◌, take, eqb}
use Rattle.std.proofs.Math.Path.{refl, ap, subst}
use Rattle.std.proofs.Common.{sym, ap₂, ◌∙◌, ⊎_elim, arith, add-one, ne_eqb}
use Rattle.std.proofs.Math.Bool.{and-false, and-true}
use Rattle.std.proofs.Math.Option.{Option, none, some}
use Rattle.std.proofs.Math.ListN.{length, get_or, get_or-eq_default}
use Rattle.std.specs.Bool.{MatchBool}
use Rattle.std.specs.List.{range_with_len, AllWithin, HoldsAt}
use Rattle.base_facts.specs.laws.Numbers.{lt-or-ge}
use Rattle.read_tokens.specs.Token.{Symbol, Leaf, name, lake}
use Rattle.grammar.specs.Exp.{Exp}
use Rattle.grammar.specs.Same.{same_bytes, same_symbol, index_of}
use Rattle.grammar.specs.Numbers.{Grammar}
use Rattle.grammar_table.specs.Table.{name_at, symbol_count, symbol_word, symbol_by, name_in, words_from}
use Rattle.grammar_table.specs.Holds.{Holds, present}
use Rattle.lake_step_one.specs.Intermediate.{water_name, water_in}
use Rattle.grammar.specs.Numbers.{terminal_in}
use Rattle.grammar_table.specs.laws.Parts.{total}
use Rattle.lake_step_one.specs.steps.Runs.{BodyAt}
use Rattle.lake_step_one.specs.steps.Made.{next_by}
use Rattle.lake_step_one.proofs.laws.Held.{names-are, rights-long}
use Rattle.lake_step_one.proofs.laws.Next.{name-at, body_at, next-from}

-- the five bytes, word by word
abbrev pub five : ℕ → ℕ → ℕ → ℕ → ℕ → Bool
five a b c d e = eqb 119 a && (eqb 97 b && (eqb 116 c && (eqb 101 d && eqb 114 e)))

abbrev pub water_test : ℕ → ℕ → Bool → Bool
water_test k n b = eqb 0 k && (eqb 5 n && b)

bytes-five : (t : List ℕ) (i n : ℕ)
    → same_bytes (119 ∷ 97 ∷ 116 ∷ 101 ∷ 114 ∷ []) (words_from t i n) ≡ (eqb 5 n && five (get_or t i 0) (get_or t (suc i) 0) (get_or t (suc (suc i)) 0) (get_or t (suc (suc (suc i))) 0) (get_or t (suc (suc (suc (suc i)))) 0))
unfolding same_bytes words_from
bytes-five t i zero = refl
bytes-five t i (suc zero) = and-false (eqb 119 (get_or t i 0))
bytes-five t i (suc (suc zero)) = ap (λ (b : Bool). eqb 119 (get_or t i 0) && b) (and-false (eqb 97 (get_or t (suc i) 0))) ∙ and-false (eqb 119 (get_or t i 0))
bytes-five t i (suc (suc (suc zero))) =
    ap (λ (b : Bool). eqb 119 (get_or t i 0) && b) (ap (λ (b : Bool). eqb 97 (get_or t (suc i) 0) && b) (and-false (eqb 116 (get_or t (suc (suc i)) 0))) ∙ and-false (eqb 97 (get_or t (suc i) 0)))
    ∙ and-false (eqb 119 (get_or t i 0))
bytes-five t i (suc (suc (suc (suc zero)))) =
    ap (λ (b : Bool). eqb 119 (get_or t i 0) && b)
    (ap (λ (b : Bool). eqb 97 (get_or t (suc i) 0) && b) (ap (λ (b : Bool). eqb 116 (get_or t (suc (suc i)) 0) && b) (and-false (eqb 101 (get_or t (suc (suc (suc i))) 0))) ∙ and-false (eqb 116 (get_or t (suc (suc i)) 0)))
    ∙ and-false (eqb 97 (get_or t (suc i) 0)))
    ∙ and-false (eqb 119 (get_or t i 0))
bytes-five t i (suc (suc (suc (suc (suc zero))))) =
    ap (λ (b : Bool). eqb 119 (get_or t i 0) && (eqb 97 (get_or t (suc i) 0) && (eqb 116 (get_or t (suc (suc i)) 0) && (eqb 101 (get_or t (suc (suc (suc i))) 0) && b)))) (and-true (eqb 114 (get_or t (suc (suc (suc (suc i)))) 0)))
bytes-five t i (suc (suc (suc (suc (suc (suc n)))))) =
    ap (λ (b : Bool). eqb 119 (get_or t i 0) && b)
    (ap (λ (b : Bool). eqb 97 (get_or t (suc i) 0) && b)
    (ap (λ (b : Bool). eqb 116 (get_or t (suc (suc i)) 0) && b) (ap (λ (b : Bool). eqb 101 (get_or t (suc (suc (suc i))) 0) && b) (and-false (eqb 114 (get_or t (suc (suc (suc (suc i)))) 0))) ∙ and-false (eqb 101 (get_or t (suc (suc (suc i))) 0)))
    ∙ and-false (eqb 116 (get_or t (suc (suc i)) 0)))
    ∙ and-false (eqb 97 (get_or t (suc i) 0)))
    ∙ and-false (eqb 119 (get_or t i 0))
    ∙ sym (ap (λ (b : Bool). b && five (get_or t i 0) (get_or t (suc i) 0) (get_or t (suc (suc i)) 0) (get_or t (suc (suc (suc i))) 0) (get_or t (suc (suc (suc (suc i)))) 0)) (ne_eqb 5 (suc (suc (suc (suc (suc (suc n)))))) (λ e. let z : ⊥ = omega arith in z)))

by_kind : (k : ℕ) (v w : List ℕ) → same_symbol (name v) (symbol_by k w) ≡ (eqb 0 k && same_bytes v w)
unfolding same_symbol
by_kind zero v w = refl
by_kind (suc k) v w = sym (ap (λ (b : Bool). b && same_bytes v w) (ne_eqb 0 (suc k) (λ e. let z : ⊥ = omega arith in z)))

pub water-is : (t : List ℕ) (s : ℕ) → water_test (symbol_word t s 0) (symbol_word t s 3)
    (five (get_or t (name_at s + 0) 0) (get_or t (name_at s + 1) 0) (get_or t (name_at s + 2) 0) (get_or t (name_at s + 3) 0) (get_or t (name_at s + 4) 0)) ≡ same_symbol water_name (name_in t s)
unfolding name_in
water-is t s =
    let i = name_at s in
    let p0 : i + 0 ≡ i = omega arith in
    let p1 : i + 1 ≡ suc i = omega arith in
    let p2 : i + 2 ≡ suc (suc i) = omega arith in
    let p3 : i + 3 ≡ suc (suc (suc i)) = omega arith in
    let p4 : i + 4 ≡ suc (suc (suc (suc i))) = omega arith in
    let word : ℕ → ℕ = λ j. get_or t j 0 in
    let test : ℕ → ℕ → ℕ → ℕ → ℕ → Bool = λ a b c d e. water_test (symbol_word t s 0) (symbol_word t s 3) (five (word a) (word b) (word c) (word d) (word e)) in
    ap (λ (j : ℕ). test j (i + 1) (i + 2) (i + 3) (i + 4)) p0
    ∙ ap (λ (j : ℕ). test i j (i + 2) (i + 3) (i + 4)) p1
    ∙ ap (λ (j : ℕ). test i (suc i) j (i + 3) (i + 4)) p2
    ∙ ap (λ (j : ℕ). test i (suc i) (suc (suc i)) j (i + 4)) p3
    ∙ ap (λ (j : ℕ). test i (suc i) (suc (suc i)) (suc (suc (suc i))) j) p4
    ∙ sym (by_kind (symbol_word t s 0) (119 ∷ 97 ∷ 116 ∷ 101 ∷ 114 ∷ []) (words_from t i (symbol_word t s 3)) ∙ ap (λ (b : Bool). eqb 0 (symbol_word t s 0) && b) (bytes-five t i (symbol_word t s 3)))

-- ---- the five words, one by one
none_right : (a b : Bool) → b ≡ false → (a && b) ≡ false
none_right a b e = ap (λ (x : Bool). a && x) e ∙ and-false a

none_left : (a b : Bool) → a ≡ false → (a && b) ≡ false
none_left a b e = ap (λ (x : Bool). x && b) e

module _ (t : List ℕ) (s : ℕ) where
  word : ℕ → ℕ
  word j = get_or t (name_at s + j) 0

  abbrev pub Said : ℕ → Type 0
  Said j = get_or t (name_at s + j) 0 ≡ get_or (119 ∷ 97 ∷ 116 ∷ 101 ∷ 114 ∷ []) j 0

  differs : (j v : ℕ) → (word j ≡ v → ⊥) → eqb v (word j) ≡ false
  differs j v f = ne_eqb v (word j) (λ e. f (sym e))

  spelled : (r : Bool) → MatchBool r (AllWithin Said (range_with_len 0 5) 0 5) ((j : ℕ) × (j < 5) × HoldsAt (λ x. Said x → ⊥) (range_with_len 0 5) j)
      → r ≡ five (word 0) (word 1) (word 2) (word 3) (word 4)
  unfolding word
  spelled true h = rw (h 0 0 (omega arith) (omega arith), h 1 0 (omega arith) (omega arith), h 2 0 (omega arith) (omega arith), h 3 0 (omega arith) (omega arith), h 4 0 (omega arith) (omega arith)) refl
  spelled false (zero, l, f) = sym (none_left (eqb 119 (word 0)) _ (differs 0 119 (f 0)))
  spelled false (suc zero, l, f) = sym (none_right (eqb 119 (word 0)) _ (none_left (eqb 97 (word 1)) _ (differs 1 97 (f 0))))
  spelled false (suc (suc zero), l, f) = sym (none_right (eqb 119 (word 0)) _ (none_right (eqb 97 (word 1)) _ (none_left (eqb 116 (word 2)) _ (differs 2 116 (f 0)))))
  spelled false (suc (suc (suc zero)), l, f) = sym (none_right (eqb 119 (word 0)) _ (none_right (eqb 97 (word 1)) _ (none_right (eqb 116 (word 2)) _ (none_left (eqb 101 (word 3)) _ (differs 3 101 (f 0))))))
  spelled false (suc (suc (suc (suc zero))), l, f) = sym (none_right (eqb 119 (word 0)) _ (none_right (eqb 97 (word 1)) _ (none_right (eqb 116 (word 2)) _ (none_right (eqb 101 (word 3)) _ (differs 4 114 (f 0))))))
  spelled false (suc (suc (suc (suc (suc j)))), l, f) = let z : ⊥ = omega arith in absurd z

  pub called : (k n : ℕ) (r : Bool) → k ≡ symbol_word t s 0 → n ≡ symbol_word t s 3 → k ≡ 0 → n ≡ 5
      → MatchBool r (AllWithin Said (range_with_len 0 5) 0 5) ((j : ℕ) × (j < 5) × HoldsAt (λ x. Said x → ⊥) (range_with_len 0 5) j)
      → r ≡ same_symbol water_name (name_in t s)
  unfolding word
  called k n r p q e f h = rw (← water-is t s, ← p, e, ← q, f) (spelled r h)

  pub other_kind : (k : ℕ) → k ≡ symbol_word t s 0 → (k ≡ 0 → ⊥) → false ≡ same_symbol water_name (name_in t s)
  other_kind k p e = rw (← water-is t s, ← p, ne_eqb 0 k (λ z. e (sym z))) refl

  pub other_length : (k n : ℕ) → k ≡ symbol_word t s 0 → n ≡ symbol_word t s 3 → k ≡ 0 → (n ≡ 5 → ⊥) → false ≡ same_symbol water_name (name_in t s)
  other_length k n p q e f = rw (← water-is t s, ← p, e, ← q, ne_eqb 5 n (λ z. f (sym z))) refl

-- ---- the first of a list
pub index_at : {A : Type 0} (same : A → A → Bool) (x d : A) (l : List A) (s : ℕ) → s < length l → ((j : ℕ) → j < s → same x (get_or l j d) ≡ false) → same x (get_or l s d) ≡ true → index_of same x l ≡ s
unfolding index_of
index_at same x d [] s h f e = let z : ⊥ = omega arith in absurd z
index_at same x d (y ∷ l) zero h f e = ap (λ (b : Bool). cond b 0 (suc (index_of same x l))) e
index_at same x d (y ∷ l) (suc s) h f e =
    ap (λ (b : Bool). cond b 0 (suc (index_of same x l))) (f 0 (omega arith)) ∙ ap suc (index_at same x d l s (omega arith) (λ j p. f (suc j) (omega arith)) e)

pub index-none : {A : Type 0} (same : A → A → Bool) (x d : A) (l : List A) → ((j : ℕ) → j < length l → same x (get_or l j d) ≡ false) → index_of same x l ≡ length l
unfolding index_of
index-none same x d [] f = refl
index-none same x d (y ∷ l) f = ap (λ (b : Bool). cond b 0 (suc (index_of same x l))) (f 0 (omega arith)) ∙ ap suc (index-none same x d l (λ j p. f (suc j) (omega arith)))

-- the search has come to s
pub record Sought (t : List ℕ) (g : Grammar) (s from : ℕ) : Type 0 where
  pub from_is : from ≡ total (present (take s g.rights))
  pub none_before : (j : ℕ) → j < s → same_symbol water_name (name_in t j) ≡ false

pub sought-start : (t : List ℕ) (g : Grammar) → Sought t g 0 0
unfolding total present
sought-start t g = record { from_is = refl; none_before = λ j p. let z : ⊥ = omega arith in absurd z }

module _ (t : List ℕ) (g : Grammar) (h : Holds t g) where
  pub sought-next : (s from f : ℕ) → s < symbol_count t → Sought t g s from → same_symbol water_name (name_in t s) ≡ false → f ≡ next_by from (symbol_word t s 1) → Sought t g (s + 1) f
  sought-next s from f l k e q = record {
    from_is = q ∙ next-from t g h s from (symbol_word t s 1) l k.from_is refl;
    none_before = λ j p.
        ⊎_elim (λ u. k.none_before j u) (λ (u : s ≤ j). let v : s ≡ j = omega arith in subst (λ (i : ℕ). same_symbol water_name (name_in t i) ≡ false) v e) (lt-or-ge j s);
  }

  pub sought-found : (s from b : ℕ) → s < symbol_count t → Sought t g s from → same_symbol water_name (name_in t s) ≡ true → b ≡ symbol_word t s 1 → BodyAt (terminal_in g) t from b (water_in g)
  unfolding water_in
  sought-found s from b l k e q =
      let i : index_of same_symbol water_name g.names ≡ s
      = index_at same_symbol water_name (name []) g.names s (omega (arith, names-are t g h)) (λ j p. ap (same_symbol water_name) (name-at t g h j (omega arith)) ∙ k.none_before j p) (ap (same_symbol water_name) (name-at t g h s l) ∙ e) in
      subst (λ (j : ℕ). BodyAt (terminal_in g) t from b (get_or g.rights j none)) (sym i)
      (subst (λ (a : ℕ). BodyAt (terminal_in g) t a b (get_or g.rights s none)) (sym k.from_is) (subst (λ (y : ℕ). BodyAt (terminal_in g) t (total (present (take s g.rights))) y (get_or g.rights s none)) (sym q) (body_at t g h s l)))

  pub sought-none : (s from : ℕ) → s ≡ symbol_count t → Sought t g s from → BodyAt (terminal_in g) t 0 0 (water_in g)
  unfolding water_in
  sought-none s from e k =
      let i : index_of same_symbol water_name g.names ≡ length g.names
      = index-none same_symbol water_name (name []) g.names (λ j p. ap (same_symbol water_name) (name-at t g h j (omega (arith, names-are t g h))) ∙ k.none_before j (omega (arith, names-are t g h))) in
      subst (λ (o : Option (Exp ℕ)). BodyAt (terminal_in g) t 0 0 o)
      (sym (ap (λ (j : ℕ). get_or g.rights j none) i ∙ get_or-eq_default g.rights none {n = length g.names} (omega (arith, names-are t g h, rights-long t g h)))) refl
