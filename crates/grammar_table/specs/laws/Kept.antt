-- Words that hold a list of things as records, with their count: at most 64 are kept, 65 says that there are more. What `note` leaves holds the list
-- with the thing noted, and its answer is the thing's number. Assumes nothing.
use Prim.Native.Nat.{ℕ, zero, suc, ◌+◌, ◌-◌, ◌*◌, ◌≤◌, ◌<◌}
use Rattle.std.specs.Prelude.{◌≡◌, Bool, ◌⊎◌, ltb, length, get_or, set}
use Rattle.std.proofs.Math.Path.{refl, ap, subst}
use Rattle.std.proofs.Common.{sym, ◌∙◌, true≢false, inl, inr, ⊎_elim, mul-le-mul_left, eq-or-lt_of_le, ltb-true, ltb-false, length-append, length-set, get_or-set_same, get_or-set_other}
use Rattle.std.proofs.Math.Bool.{true, false, cond}
use Rattle.std.proofs.lemmas.Bool.{false≢true}
use mathlib.Core.List.{List, [], ◌∷◌, ◌++◌, append-nil}
use native.Mathlib.Omega.{arith}
use Rattle.std.proofs.Math.Nat.{mul-suc}
use Rattle.std.proofs.Math.ListN.{get_or-append}
use Rattle.std.proofs.lemmas.List.Edits.{sets}
use Rattle.std.proofs.Math.Seq.{get_or-append_seam, length-sets}
use Rattle.grammar.specs.Same.{is_in, index_of}
use Rattle.grammar_table.specs.Table.{words_from}
use Rattle.grammar_table.specs.steps.Rows.{cap, row_is, seek, kept, Noted}
use Rattle.grammar_table.specs.laws.Caps.{cap-low, cap-high, cap-le}
use Rattle.grammar_table.specs.laws.Words.{words-length, words-get, sets-out, sets-in, no_more}
use Rattle.grammar_table.specs.laws.Rows.{or_right, At, at_row, row_at, also, also-in, also-new, All, all_left, all-last, index_in, index-out, index_stays, index-new}

pub record Kept {A : Type 0} (d : A) (enc : A → List ℕ) (o w : ℕ) (t : List ℕ) (head base : ℕ) (l : List A) : Type 0 where
  pub count : get_or t head 0 ≡ cap 65 (length l)
  pub rows : (i : ℕ) → i < 64 → i < length l → At o w t (base + w * i) (enc (get_or l i d))

-- what `note` of x leaves of the list l: the list m, x's number in it, and all other words as they were
pub record With {A : Type 0} (d : A) (enc : A → List ℕ) (o w : ℕ) (same : A → A → Bool) (old new : List ℕ) (head base r : ℕ) (x : A) (l m : List A) : Type 0 where
  pub held : Kept d enc o w new head base m
  pub number : length m ≤ 64 → r ≡ index_of same x m
  pub frame : (j : ℕ) → (j ≡ head → ⊥) → (j < base) ⊎ (base + w * 64 ≤ j) → get_or new j 0 ≡ get_or old j 0
  pub long : length new ≡ length old
  -- the whole records: those that there were, and a new one
  pub before : (i j : ℕ) → i < 64 → i < length l → j < w → get_or new (base + w * i + j) 0 ≡ get_or old (base + w * i + j) 0
  pub fresh : (i j : ℕ) → i < 64 → length l ≤ i → i < length m → j < w → get_or new (base + w * i + j) 0 ≡ get_or (enc x) j 0

pub at_moved : (o w : ℕ) → 0 < w → (t t' : List ℕ) (b : ℕ) (rec : List ℕ) → At o w t b rec → ((j : ℕ) → b ≤ j → j < b + w → get_or t' j 0 ≡ get_or t j 0) → At o w t' b rec
at_moved o w z t t' b rec a h = record {
  first = h b (omega arith) (omega arith) ∙ a.first;
  others = λ j k l. h (b + j) (omega arith) (omega arith) ∙ a.others j k l;
}

-- how many records there are, where all are kept
pub kept-all : {A : Type 0} (d : A) (enc : A → List ℕ) (o w : ℕ) (t : List ℕ) (head base : ℕ) (l : List A) → Kept d enc o w t head base l → length l ≤ 64 → kept t head ≡ length l
kept-all d enc o w t head base l k h = ⊎_elim
    (λ (e : length l ≡ 64). ap (λ (y : ℕ). cap 64 y) (k.count ∙ sym (cap-low (length l) 65 (omega arith))) ∙ sym (cap-high (length l) 64 (omega arith)) ∙ sym e)
    (λ (p : length l < 64). ap (λ (y : ℕ). cap 64 y) (k.count ∙ sym (cap-low (length l) 65 (omega arith))) ∙ sym (cap-low (length l) 64 p))
    (eq-or-lt_of_le h)

-- other words may change
pub kept-moved : {A : Type 0} (d : A) (enc : A → List ℕ) (o w : ℕ) → 0 < w → (t t' : List ℕ) (head base : ℕ) (l : List A) → Kept d enc o w t head base l
    → get_or t' head 0 ≡ get_or t head 0 → ((j : ℕ) → base ≤ j → j < base + w * 64 → get_or t' j 0 ≡ get_or t j 0) → Kept d enc o w t' head base l
kept-moved d enc o w z t t' head base l k e h = record {
  count = e ∙ k.count;
  rows = λ i p q. at_moved o w z t t' (base + w * i) (enc (get_or l i d)) (k.rows i p q)
      (λ j u v. h j (omega arith) (omega (arith, mul-suc w i, mul-le-mul_left w (let g : suc i ≤ 64 = p in g))));
}

module _ {A : Type 0} (d : A) (enc : A → List ℕ) (o w : ℕ) (ow : o ≤ w) (wide : 0 < w) (same : A → A → Bool) (dec : List ℕ → ℕ → A) (Fit : A → Type 0)
    (read : (t : List ℕ) (b : ℕ) (x : A) → At o w t b (enc x) → Fit x → dec t b ≡ x)
    (sound : (x y : A) → same x y ≡ true → x ≡ y) (refls : (x : A) → same x x ≡ true) where
  row_same : (t : List ℕ) (b : ℕ) (x y : A) → At o w t b (enc y) → (At o w t b (enc x) → Fit x) → Fit y → row_is t b (enc x) o w ≡ same x y
  row_same t b x y a f g = by (row_is t b (enc x) o w) (same x y) refl refl
    where
      by : (p q : Bool) → row_is t b (enc x) o w ≡ p → same x y ≡ q → p ≡ q
      by true true u v = refl
      by false false u v = refl
      by true false u v =
          let e : x ≡ y = sym (read t b x (row_at o w ow t b (enc x) u) (f (row_at o w ow t b (enc x) u))) ∙ read t b y a g in
          absurd (true≢false (sym (refls x) ∙ ap (same x) e ∙ v))
      by false true u v = absurd (false≢true (sym u ∙ at_row o w ow t b (enc x) (subst (λ (z : A). At o w t b (enc z)) (sym (sound x y v)) a)))

  all_in : (x : A) (l : List A) → is_in same x l ≡ true → All Fit l → Fit x
  unfolding is_in
  all_in x [] e h = absurd (false≢true e)
  all_in x (y ∷ l) e h = by (same x y) refl e (λ k. all_in x l k h.1)
    where
      by : (p : Bool) → same x y ≡ p → is_in same x (y ∷ l) ≡ true → (is_in same x l ≡ true → Fit x) → Fit x
      by true u v g = subst Fit (sym (sound x y u)) h.0
      by false u v g = g (sym (or_right (same x y) (is_in same x l) u) ∙ v)

  -- x has to fit only where a record is it
  pub seek-index : (t : List ℕ) (x : A) (l : List A) (b : ℕ) → ((i : ℕ) → i < length l → At o w t (b + w * i) (enc (get_or l i d))) → All Fit l → ((c : ℕ) (y : A) → At o w t c (enc x) → At o w t c (enc y) → Fit y → Fit x) → seek t (enc x) o w b (length l) ≡ index_of same x l
  unfolding seek index_of
  seek-index t x [] b h f g = refl
  seek-index t x (y ∷ l) b h f g =
      let a : At o w t b (enc y) = subst (λ (k : ℕ). At o w t k (enc y)) (let e : b + w * 0 ≡ b = omega arith in e) (h 0 (omega arith)) in
      ap (λ (p : Bool). cond p 0 (suc (seek t (enc x) o w (b + w) (length l)))) (row_same t b x y a (λ u. g b y u a f.0) f.0)
      ∙ ap (λ (k : ℕ). cond (same x y) 0 (suc k))
      (seek-index t x l (b + w)
      (λ i k. subst (λ (z : ℕ). At o w t z (enc (get_or l i d))) (let e : b + w * suc i ≡ b + w + w * i = omega (arith, mul-suc w i) in e) (h (suc i) (omega arith))) f.1 g)

  pub fits-also : (x : A) (l : List A) → All Fit (also same x l) → Fit x
  fits-also x l h = by (is_in same x l) refl
    where
      by : (p : Bool) → is_in same x l ≡ p → Fit x
      by true e = all_in x l e (subst (All Fit) (also-in same x l e) h)
      by false e = all-last Fit l x (subst (All Fit) (also-new same x l e) h)

  module _ (head base : ℕ) (below : head < base) (old new : List ℕ) (r : ℕ) (x : A) (l : List A) (long : base + w * 64 ≤ length old)
      (k : Kept d enc o w old head base l) (fits : All Fit (also same x l)) (n : Noted old new (enc x) head o w base r) where
    abbrev Result : List A → Type 0
    Result m = With d enc o w same old new head base r x l m

    few : length l ≤ 64 → kept old head ≡ length l
    few h = kept-all d enc o w old head base l k h

    many : 64 < length l → kept old head ≡ 64
    many h = ap (λ (y : ℕ). cap 64 y) (k.count ∙ sym (cap-high (length l) 65 (omega arith))) ∙ sym (cap-high 65 64 (omega arith))

    index : length l ≤ 64 → Fit x → All Fit l → r ≡ index_of same x l
    index h f a =
        n.number ∙ ap (λ (y : ℕ). seek old (enc x) o w base y) (few h) ∙ seek-index old x l base (λ i p. k.rows i (omega arith) p) a (λ _ _ _ _ _. f)

    row-end : (i j : ℕ) → i < j → w * i + w ≤ w * j
    row-end i j h = omega (arith, mul-suc w i, mul-le-mul_left w (let p : suc i ≤ j = h in p))

    -- the count alone changes
    counted : (v : ℕ) → new ≡ set old head v → (i : ℕ) → i < 64 → (rec : List ℕ) → At o w old (base + w * i) rec → At o w new (base + w * i) rec
    counted v e i h rec a = at_moved o w wide old new (base + w * i) rec a (λ j p q. ap (λ (t : List ℕ). get_or t j 0) e ∙ get_or-set_other old head j v 0 (λ f. omega arith))

    stays : (v : ℕ) → new ≡ set old head v → (j : ℕ) → (j ≡ head → ⊥) → (j < base) ⊎ (base + w * 64 ≤ j) → get_or new j 0 ≡ get_or old j 0
    stays v e j h s = ap (λ (t : List ℕ). get_or t j 0) e ∙ get_or-set_other old head j v 0 h

    unchanged : new ≡ old → (length l ≤ 64 → r ≡ index_of same x l) → Result l
    unchanged e f = record { held = subst (λ (t : List ℕ). Kept d enc o w t head base l) (sym e) k; number = f; frame = λ j _ _. ap (λ (t : List ℕ). get_or t j 0) e; long = ap length e; before = λ i j _ _ _. ap (λ (t : List ℕ). get_or t (base + w * i + j) 0) e; fresh = λ i j _ p q _. absurd (omega arith) }

    -- only the count changes: there are more than 64
    more : (m : List A) → 64 < length m → (ys : List A) → m ≡ l ++ ys → 64 ≤ length l → new ≡ set old head 65 → Result m
    more m h ys a g e = record {
      held = record {
        count = ap (λ (t : List ℕ). get_or t head 0) e ∙ get_or-set_same old head 65 0 (omega arith) ∙ cap-high (length m) 65 (omega arith);
        rows = λ i p q.
            counted 65 e i p (enc (get_or m i d))
            (subst (λ (z : A). At o w old (base + w * i) (enc z)) (sym (ap (λ (z : List A). get_or z i d) a ∙ get_or-append l ys d i (omega arith))) (k.rows i p (omega arith)));
      };
      number = λ p. absurd (omega arith);
      frame = stays 65 e;
      long = ap length e ∙ length-set old head 65;
      before = λ i j _ _ _. ap (λ (t : List ℕ). get_or t (base + w * i + j) 0) e ∙ get_or-set_other old head (base + w * i + j) 65 0 (λ f. omega arith);
      fresh = λ i j p q _ _. absurd (omega arith);
    }

    -- the same, where nothing changes
    full : (m : List A) → 64 < length l → (ys : List A) → m ≡ l ++ ys → new ≡ old → Result m
    full m h ys a e =
        let big : length l ≤ length m = omega (arith, ap length a, length-append l ys) in
        record {
          held = record {
            count = ap (λ (t : List ℕ). get_or t head 0) e ∙ k.count ∙ sym (cap-high (length l) 65 (omega arith)) ∙ cap-high (length m) 65 (omega arith);
            rows = λ i p q.
                subst (λ (t : List ℕ). At o w t (base + w * i) (enc (get_or m i d))) (sym e)
                (subst (λ (z : A). At o w old (base + w * i) (enc z)) (sym (ap (λ (z : List A). get_or z i d) a ∙ get_or-append l ys d i (omega arith))) (k.rows i p (omega arith)));
          };
          number = λ p. absurd (omega arith);
          frame = λ j _ _. ap (λ (t : List ℕ). get_or t j 0) e;
          long = ap length e;
          before = λ i j _ _ _. ap (λ (t : List ℕ). get_or t (base + w * i + j) 0) e;
          fresh = λ i j p q _ _. absurd (omega arith);
        }

    -- x is added
    module _ (few-l : length l < 64) (e : new ≡ set (sets old (base + w * length l) (words_from (enc x) 0 w)) head (length l + 1)) where
      fits_in : base + w * length l + w ≤ length old
      fits_in = omega (arith, row-end (length l) 64 few-l)

      apart : (j : ℕ) → (j ≡ head → ⊥) → (j < base + w * length l) ⊎ (base + w * length l + w ≤ j) → get_or new j 0 ≡ get_or old j 0
      apart j h s =
          ap (λ (t : List ℕ). get_or t j 0) e
          ∙ get_or-set_other (sets old (base + w * length l) (words_from (enc x) 0 w)) head j (length l + 1) 0 h
          ∙ sets-out (words_from (enc x) 0 w) old (base + w * length l) j (⊎_elim (λ (p : j < base + w * length l). inl p) (λ (p : base + w * length l + w ≤ j). inr (omega (arith, words-length (enc x) 0 w))) s)

      inside : (j : ℕ) → j < w → get_or new (base + w * length l + j) 0 ≡ get_or (enc x) j 0
      inside j h =
          ap (λ (t : List ℕ). get_or t (base + w * length l + j) 0) e
          ∙ get_or-set_other (sets old (base + w * length l) (words_from (enc x) 0 w)) head (base + w * length l + j) (length l + 1) 0 (λ f. omega arith)
          ∙ sets-in (words_from (enc x) 0 w) old (base + w * length l) j (omega (arith, words-length (enc x) 0 w)) (omega (arith, words-length (enc x) 0 w, fits_in))
          ∙ words-get (enc x) 0 w j h
          ∙ ap (λ (i : ℕ). get_or (enc x) i 0) (let f : 0 + j ≡ j = omega arith in f)

      the-new : At o w new (base + w * length l) (enc (get_or (l ++ (x ∷ [])) (length l) d))
      the-new = subst (λ (z : A). At o w new (base + w * length l) (enc z)) (sym (get_or-append_seam l x [] d)) (record {
        first = sym (no_more new (base + w * length l)) ∙ inside 0 wide;
        others = λ j p q. inside j q;
      })

      the-old : (i : ℕ) → i < length l → At o w new (base + w * i) (enc (get_or (l ++ (x ∷ [])) i d))
      the-old i h =
          subst (λ (z : A). At o w new (base + w * i) (enc z)) (sym (get_or-append l (x ∷ []) d i h))
          (at_moved o w wide old new (base + w * i) (enc (get_or l i d)) (k.rows i (omega arith) h)
          (λ j p q. apart j (λ f. omega arith) (inl (omega (arith, row-end i (length l) h)))))

      added : is_in same x l ≡ false → Result (l ++ (x ∷ []))
      added out = record {
        held = record {
          count =
              ap (λ (t : List ℕ). get_or t head 0) e
              ∙ get_or-set_same (sets old (base + w * length l) (words_from (enc x) 0 w)) head (length l + 1) 0 (omega (arith, length-sets old (base + w * length l) (words_from (enc x) 0 w)))
              ∙ (let f : length l + 1 ≡ length (l ++ (x ∷ [])) = omega (arith, length-append l (x ∷ [])) in f)
              ∙ cap-low (length (l ++ (x ∷ []))) 65 (omega (arith, length-append l (x ∷ [])));
          rows = λ i p q. ⊎_elim
              (λ (f : i ≡ length l). subst (λ (z : ℕ). At o w new (base + w * z) (enc (get_or (l ++ (x ∷ [])) z d))) (sym f) the-new)
              (λ (f : i < length l). the-old i f)
              (eq-or-lt_of_le (let f : i ≤ length l = omega (arith, length-append l (x ∷ [])) in f));
        };
        number = λ h.
            index (omega arith) (all-last Fit l x (subst (All Fit) (also-new same x l out) fits)) (all_left Fit l (x ∷ []) (subst (All Fit) (also-new same x l out) fits))
            ∙ index-out same x l out ∙ sym (index-new same x l (refls x) out);
        frame = λ j h s. apart j h (⊎_elim (λ (p : j < base). inl (omega arith)) (λ (p : base + w * 64 ≤ j). inr (omega (arith, row-end (length l) 64 few-l))) s);
        long = ap length e ∙ length-set (sets old (base + w * length l) (words_from (enc x) 0 w)) head (length l + 1) ∙ length-sets old (base + w * length l) (words_from (enc x) 0 w);
        before = λ i j _ p q. apart (base + w * i + j) (λ f. omega arith) (inl (omega (arith, row-end i (length l) p)));
        fresh = λ i j _ p q z.
            let f : i ≡ length l = omega (arith, length-append l (x ∷ [])) in
            ap (λ (k : ℕ). get_or new (base + w * k + j) 0) f ∙ inside j z;
      }

    known-one : is_in same x l ≡ true → length l ≤ 64 → Result l
    known-one i h =
        let a : All Fit l = subst (All Fit) (also-in same x l i) fits in
        let e : r ≡ index_of same x l = index h (all_in x l i a) a in
        unchanged (n.known (omega (arith, few h, index_in same x l i))) (λ _. e)

    new-one : is_in same x l ≡ false → length l ≤ 64 → Result (l ++ (x ∷ []))
    new-one i h =
        let a : All Fit (l ++ (x ∷ [])) = subst (All Fit) (also-new same x l i) fits in
        let e : r ≡ length l = index h (all-last Fit l x a) (all_left Fit l (x ∷ []) a) ∙ index-out same x l i in
        ⊎_elim
        (λ (f : length l ≡ 64). more (l ++ (x ∷ [])) (omega (arith, length-append l (x ∷ []))) (x ∷ []) refl (omega arith) (n.over (omega (arith, few h)) (omega (arith, few h))))
        (λ (f : length l < 64). added f (n.added (omega (arith, few h)) (omega (arith, few h)) ∙ ap (λ (y : ℕ). set (sets old (base + w * y) (words_from (enc x) 0 w)) head (y + 1)) (few h)) i)
        (eq-or-lt_of_le h)

    beyond : (m ys : List A) → 64 < length l → m ≡ l ++ ys → Result m
    beyond m ys h e = by (ltb r 64) refl
      where
        by : (b : Bool) → ltb r 64 ≡ b → Result m
        by true u = full m h ys e (n.known (omega (arith, many h, ltb-true r 64 u)))
        by false u = more m (omega (arith, ap length e, length-append l ys)) ys e (omega arith) (n.over (omega (arith, many h, ltb-false r 64 u)) (omega (arith, many h)))

    pub noted : Result (also same x l)
    noted = by (is_in same x l) (ltb (length l) 65) refl refl
      where
        by : (p q : Bool) → is_in same x l ≡ p → ltb (length l) 65 ≡ q → Result (also same x l)
        by true true u v = subst Result (sym (also-in same x l u)) (known-one u (omega (arith, ltb-true (length l) 65 v)))
        by true false u v = beyond (also same x l) [] (omega (arith, ltb-false (length l) 65 v)) (also-in same x l u ∙ sym (append-nil l))
        by false true u v = subst Result (sym (also-new same x l u)) (new-one u (omega (arith, ltb-true (length l) 65 v)))
        by false false u v = beyond (also same x l) (x ∷ []) (omega (arith, ltb-false (length l) 65 v)) (also-new same x l u)
