-- Words by their places: equal runs, and what a run of stores leaves. Assumes nothing.
use Rattle.std.specs.Prelude.{ℕ, zero, suc, ◌+◌, ◌-◌, ◌*◌, ◌≤◌, ◌<◌, ◌≡◌, refl, Bool, true, false, ◌&&◌, List, [], ◌∷◌, ◌⊎◌, eqb, length, get_or, set}
use Rattle.std.proofs.Common.{sym, ap, ◌∙◌, inl, inr, ⊎_elim, arith, length-set, get_or-set_same, get_or-set_other, eqb-true, eq-eqb}
use Rattle.std.proofs.lemmas.Bool.{false≢true}
use Rattle.std.proofs.lemmas.List.Edits.{sets}
use Rattle.base_facts.specs.laws.Bools.{and_both, and_left, and_right}
use Rattle.grammar.specs.Same.{same_bytes}
use Rattle.grammar_table.specs.Table.{words_from}

-- ── runs of words ──
pub no_more : (a : List ℕ) (i : ℕ) → get_or a (i + 0) 0 ≡ get_or a i 0
no_more a i = ap (λ (x : ℕ). get_or a x 0) (let f : i + 0 ≡ i = omega arith in f)

head_of : (x y : ℕ) (s t : List ℕ) → x ∷ s ≡ y ∷ t → (x ≡ y) × (s ≡ t)
head_of x y s t e = (cc, cc)

pub words-ext : (a : List ℕ) (i : ℕ) (b : List ℕ) (j n : ℕ) → ((k : ℕ) → k < n → get_or a (i + k) 0 ≡ get_or b (j + k) 0) → words_from a i n ≡ words_from b j n
unfolding words_from
words-ext a i b j zero h = refl
words-ext a i b j (suc n) h =
    let e : get_or a i 0 ≡ get_or b j 0 = sym (no_more a i) ∙ h 0 (omega arith) ∙ no_more b j in
    let f : words_from a (suc i) n ≡ words_from b (suc j) n = words-ext a (suc i) b (suc j) n (λ k l. moved k (h (suc k) (omega arith))) in
    cc (e, f)
  where
    moved : (k : ℕ) → get_or a (i + suc k) 0 ≡ get_or b (j + suc k) 0 → get_or a (suc i + k) 0 ≡ get_or b (suc j + k) 0
    moved k e =
        ap (λ (x : ℕ). get_or a x 0) (let f : suc i + k ≡ i + suc k = omega arith in f) ∙ e ∙ ap (λ (x : ℕ). get_or b x 0) (let f : j + suc k ≡ suc j + k = omega arith in f)

pub words-places : (a : List ℕ) (i : ℕ) (b : List ℕ) (j n : ℕ) → words_from a i n ≡ words_from b j n → (k : ℕ) → k < n → get_or a (i + k) 0 ≡ get_or b (j + k) 0
unfolding words_from
words-places a i b j zero e k l = absurd (omega arith)
words-places a i b j (suc n) e zero l = no_more a i ∙ (head_of _ _ _ _ e).0 ∙ sym (no_more b j)
words-places a i b j (suc n) e (suc k) l =
    ap (λ (x : ℕ). get_or a x 0) (let f : i + suc k ≡ suc i + k = omega arith in f)
    ∙ words-places a (suc i) b (suc j) n (head_of _ _ _ _ e).1 k (omega arith)
    ∙ ap (λ (x : ℕ). get_or b x 0) (let f : suc j + k ≡ j + suc k = omega arith in f)

pub words-length : (a : List ℕ) (i n : ℕ) → length (words_from a i n) ≡ n
unfolding words_from
words-length a i zero = refl
words-length a i (suc n) = ap suc (words-length a (suc i) n)

pub words-get : (a : List ℕ) (i n k : ℕ) → k < n → get_or (words_from a i n) k 0 ≡ get_or a (i + k) 0
unfolding words_from
words-get a i zero k l = absurd (omega arith)
words-get a i (suc n) zero l = sym (no_more a i)
words-get a i (suc n) (suc k) l = words-get a (suc i) n k (omega arith) ∙ ap (λ (x : ℕ). get_or a x 0) (let f : suc i + k ≡ i + suc k = omega arith in f)

-- one word more
words-by : (t : List ℕ) (p x j : ℕ) → x ≡ suc j → words_from t p x ≡ get_or t p 0 ∷ words_from t (suc p) j
unfolding words_from
words-by t p x j e = ap (λ (y : ℕ). words_from t p y) e

pub words-here : (t : List ℕ) (p q k n : ℕ) → suc p ≡ q → k < n → words_from t p (n - k) ≡ get_or t p 0 ∷ words_from t q (n - (k + 1))
words-here t p q k n e h = words-by t p (n - k) (n - (k + 1)) (omega arith) ∙ ap (λ (x : ℕ). get_or t p 0 ∷ words_from t x (n - (k + 1))) e

pub words-at : (t : List ℕ) (i k n : ℕ) → k < n → words_from t (i + k) (n - k) ≡ get_or t (i + k) 0 ∷ words_from t (i + (k + 1)) (n - (k + 1))
words-at t i k n h = words-here t (i + k) (i + (k + 1)) k n (omega arith) h

pub words-none : (t : List ℕ) (i k n : ℕ) → n ≤ k → words_from t i (n - k) ≡ []
unfolding words_from
words-none t i k n h = let e : n - k ≡ 0 = omega arith in ap (λ (x : ℕ). words_from t i x) e

-- ── a run of stores ──
pub sets-out : (vs t : List ℕ) (b j : ℕ) → (j < b) ⊎ (b + length vs ≤ j) → get_or (sets t b vs) j 0 ≡ get_or t j 0
sets-out [] t b j h = refl
sets-out (v ∷ vs) t b j (inl h) =
    sets-out vs (set t b v) (suc b) j (inl (omega arith)) ∙ get_or-set_other t b j v 0 (λ e. omega arith)
sets-out (v ∷ vs) t b j (inr h) =
    sets-out vs (set t b v) (suc b) j (inr (omega arith)) ∙ get_or-set_other t b j v 0 (λ e. omega arith)

pub sets-in : (vs t : List ℕ) (b j : ℕ) → j < length vs → b + length vs ≤ length t → get_or (sets t b vs) (b + j) 0 ≡ get_or vs j 0
sets-in [] t b j h l = absurd (omega arith)
sets-in (v ∷ vs) t b zero h l = no_more (sets (set t b v) (suc b) vs) b ∙ sets-out vs (set t b v) (suc b) b (inl (omega arith)) ∙ get_or-set_same t b v 0 (omega arith)
sets-in (v ∷ vs) t b (suc j) h l =
    ap (λ (x : ℕ). get_or (sets (set t b v) (suc b) vs) x 0) (let f : b + suc j ≡ suc b + j = omega arith in f)
    ∙ sets-in vs (set t b v) (suc b) j (omega arith) (omega (arith, length-set t b v))
