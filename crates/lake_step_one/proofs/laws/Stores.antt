-- What a stored record changes and what it leaves. Assumes nothing.
use Prim.Native.Nat.{ℕ, zero, suc, ◌+◌, ◌-◌, ◌*◌, ◌≤◌, ◌<◌}
use Rattle.std.specs.Prelude.{◌≡◌, refl, ◌⊎◌, List, [], ◌∷◌, ◌++◌, length, get_or, set}
use Rattle.std.proofs.Common.{sym, ap, ◌∙◌, subst, inl, inr, ⊎_elim, arith, length-set, length-append, get_or-set_same, get_or-set_other, get_or-append-add}
use Rattle.std.proofs.Math.Path.{ap₂}
use Rattle.std.proofs.Math.ListN.{get_or-append}
use Rattle.base_facts.specs.laws.Numbers.{lt-or-ge}
use Rattle.grammar.specs.Parts.{Part}
use Rattle.grammar_table.specs.Table.{table_words, expressions_at, part_by, part_in, op_of, left_of, right_of}
use Rattle.lake_step_one.specs.steps.Runs.{stored, Grew, nil}

module _ (mid : List ℕ) (m k l r : ℕ) where
  abbrev A : List ℕ
  A = set mid (expressions_at + 3 * m) k

  abbrev B : List ℕ
  B = set A (expressions_at + 3 * m + 1) l

  pub stored_other : (i : ℕ) → (i ≡ expressions_at + 3 * m → ⊥) → (i ≡ expressions_at + 3 * m + 1 → ⊥) → (i ≡ expressions_at + 3 * m + 2 → ⊥) → get_or (stored mid m k l r) i 0 ≡ get_or mid i 0
  stored_other i p q s =
      get_or-set_other B (expressions_at + 3 * m + 2) i r 0 s ∙ get_or-set_other A (expressions_at + 3 * m + 1) i l 0 q ∙ get_or-set_other mid (expressions_at + 3 * m) i k 0 p

  pub stored-long : length (stored mid m k l r) ≡ length mid
  stored-long = length-set B (expressions_at + 3 * m + 2) r ∙ length-set A (expressions_at + 3 * m + 1) l ∙ length-set mid (expressions_at + 3 * m) k

  word-apart : (j w : ℕ) → (j ≡ m → ⊥) → w < 3 → get_or (stored mid m k l r) (expressions_at + 3 * j + w) 0 ≡ get_or mid (expressions_at + 3 * j + w) 0
  word-apart j w n h =
      stored_other (expressions_at + 3 * j + w) (λ e. n (omega arith)) (λ e. n (omega arith)) (λ e. n (omega arith))

  pub part_apart : (j : ℕ) → (j ≡ m → ⊥) → part_in (stored mid m k l r) j ≡ part_in mid j
  unfolding part_in
  part_apart j n =
      ap₂ (λ (f : ℕ → Part) (x : ℕ). f x) (ap₂ part_by (word-apart j 0 n (omega arith)) (word-apart j 1 n (omega arith))) (word-apart j 2 n (omega arith))

  module _ (long : length mid ≡ table_words) (h : m < 1024) where
    word0 : op_of (stored mid m k l r) m ≡ k
    word0 =
        get_or-set_other B (expressions_at + 3 * m + 2) (expressions_at + 3 * m + 0) r 0 (λ e. let z : ⊥ = omega arith in z)
        ∙ get_or-set_other A (expressions_at + 3 * m + 1) (expressions_at + 3 * m + 0) l 0 (λ e. let z : ⊥ = omega arith in z)
        ∙ ap (λ (i : ℕ). get_or A i 0) (let q : expressions_at + 3 * m + 0 ≡ expressions_at + 3 * m = omega arith in q)
        ∙ get_or-set_same mid (expressions_at + 3 * m) k 0 (omega arith)

    word1 : left_of (stored mid m k l r) m ≡ l
    word1 =
        get_or-set_other B (expressions_at + 3 * m + 2) (expressions_at + 3 * m + 1) r 0 (λ e. let z : ⊥ = omega arith in z)
        ∙ get_or-set_same A (expressions_at + 3 * m + 1) l 0 (rw (length-set mid (expressions_at + 3 * m) k) (omega arith))

    word2 : right_of (stored mid m k l r) m ≡ r
    word2 = get_or-set_same B (expressions_at + 3 * m + 2) r 0 (rw (length-set A (expressions_at + 3 * m + 1) l, length-set mid (expressions_at + 3 * m) k) (omega arith))

    pub part-here : part_in (stored mid m k l r) m ≡ part_by k l r
    unfolding part_in
    part-here = ap₂ (λ (f : ℕ → Part) (x : ℕ). f x) (ap₂ part_by word0 word1) word2

-- one record more
pub grew-one : (mid : List ℕ) (m k l r : ℕ) (p : Part) → length mid ≡ table_words → (m < 1024 → part_by k l r ≡ p) → Grew mid m (p ∷ []) (stored mid m k l r) (m + 1)
grew-one mid m k l r p long h = record {
  long = stored-long mid m k l r;
  low = λ i q. stored_other mid m k l r i (λ e. let z : ⊥ = omega arith in z) (λ e. let z : ⊥ = omega arith in z) (λ e. let z : ⊥ = omega arith in z);
  before = λ j q. part_apart mid m k l r j (λ e. let z : ⊥ = omega arith in z);
  count = omega arith;
  new = new;
}
  where
    new : (j : ℕ) → j < 1 → m + j < 1024 → part_in (stored mid m k l r) (m + j) ≡ get_or (p ∷ []) j nil
    new zero q s = let e : m + 0 ≡ m = omega arith in ap (part_in (stored mid m k l r)) e ∙ part-here mid m k l r long (omega arith) ∙ h (omega arith)
    new (suc j) q s = let z : ⊥ = omega arith in absurd z

-- nothing more
pub grew_none : (mid : List ℕ) (m : ℕ) → Grew mid m [] mid m
grew_none mid m = record {
  long = refl;
  low = λ i q. refl;
  before = λ j q. refl;
  count = omega arith;
  new = λ j q s. let z : ⊥ = omega arith in absurd z;
}

-- one after the other
pub grew-two : (a b c : List ℕ) (m k n : ℕ) (ps qs : List Part) → Grew a m ps b k → Grew b k qs c n → Grew a m (ps ++ qs) c n
grew-two a b c m k n ps qs p q = record {
  long = q.long ∙ p.long;
  low = λ i l. q.low i l ∙ p.low i l;
  before = λ j l. q.before j (omega (arith, p.count)) ∙ p.before j l;
  count = rw (length-append ps qs) (omega (arith, p.count, q.count));
  new = λ j l s.
      ⊎_elim
      (λ h. q.before (m + j) (omega (arith, p.count)) ∙ p.new j h s ∙ sym (get_or-append ps qs nil j h))
      (λ (h : length ps ≤ j).
      let e : m + j ≡ k + (j - length ps) = omega (arith, p.count) in
      let f : j ≡ length ps + (j - length ps) = omega arith in
      ap (part_in c) e ∙ q.new (j - length ps) (let w : length (ps ++ qs) ≡ length ps + length qs = length-append ps qs in omega arith) (omega (arith, p.count))
      ∙ sym (ap (λ (i : ℕ). get_or (ps ++ qs) i nil) f ∙ get_or-append-add ps qs (j - length ps) nil))
      (lt-or-ge j (length ps));
}

pub grew-as : {a b : List ℕ} {m n k : ℕ} {ps qs : List Part} → Grew a m ps b n → ps ≡ qs → n ≡ k → Grew a m qs b k
grew-as {a} {b} {m} {n} {k} {ps} {qs} g e f = subst (λ (i : ℕ). Grew a m qs b i) f (subst (λ (l : List Part). Grew a m l b n) e g)
