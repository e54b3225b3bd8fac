-- One law for each way through the loops over words. Assumes nothing.
use Prim.Native.Nat.{ℕ, suc, ◌+◌, ◌-◌, ◌≤◌, ◌<◌}
use mathlib.Core.Path.{◌≡◌, refl, sym, ap, ◌∙◌, subst}
use mathlib.Core.Bool.{Bool, true, false}
use mathlib.Core.List.{List, ◌∷◌}
use native.Mathlib.Omega.{arith}
use lib.ListN.{length, get_or, set}
use lib.Seq.{sets}
use Rattle.std.specs.Bool.{MatchBool}
use Rattle.std.specs.List.{range_with_len, AllWithin, HoldsAt}
use Rattle.std.proofs.lemmas.List.FromFn.{get_or-range_with_len, length-range_with_len}
use Rattle.grammar.specs.Same.{same_bytes}
use Rattle.grammar_table.specs.Table.{words_from}
use Rattle.grammar.specs.laws.Same.{bytes-refl, bytes-sound}
use Rattle.grammar_table.specs.laws.Words.{words-here, words-none, words-ext, words-places}

-- ── words ──
-- all words are equal, or one is not
module _ (a : List ℕ) (i : ℕ) (b : List ℕ) (j n : ℕ) where
  abbrev pub Same : ℕ → Type 0
  Same k = get_or a (i + k) 0 ≡ get_or b (j + k) 0

  numbered : (k : ℕ) → k < length (range_with_len 0 n) → (k < n) × (get_or (range_with_len 0 n) k 0 ≡ k)
  numbered k h =
      let l : k < n = omega (arith, length-range_with_len 0 n) in
      (l, omega (arith, get_or-range_with_len 0 n k 0 l))

  pub same-by : (r : Bool) → MatchBool r (AllWithin Same (range_with_len 0 n) 0 (length (range_with_len 0 n)))
      ((k : ℕ) × (k < length (range_with_len 0 n)) × HoldsAt (λ x. Same x → ⊥) (range_with_len 0 n) k) → r ≡ same_bytes (words_from a i n) (words_from b j n)
  same-by true h =
      let e : words_from a i n ≡ words_from b j n = words-ext a i b j n (λ k l. let m : k < length (range_with_len 0 n) = omega (arith, length-range_with_len 0 n) in
      subst Same (numbered k m).1 (h k 0 (omega arith) m)) in
      sym (ap (same_bytes (words_from a i n)) (sym e) ∙ bytes-refl (words_from a i n))
  same-by false h = go (same_bytes (words_from a i n) (words_from b j n)) refl
    where
      go : (t : Bool) → same_bytes (words_from a i n) (words_from b j n) ≡ t → false ≡ t
      go false e = refl
      go true e =
          let w = words-places a i b j n (bytes-sound _ _ e) h.0 (numbered h.0 h.1).0 in
          absurd (h.2 0 (subst Same (sym (numbered h.0 h.1).1) w))

-- ── stores ──
pub stores-on : (t : List ℕ) (at : ℕ) (a : List ℕ) (k n x : ℕ) → k < n → x ≡ get_or a k 0
    → sets t (at + k) (words_from a k (n - k)) ≡ sets (set t (at + k) x) (at + (k + 1)) (words_from a (k + 1) (n - (k + 1)))
stores-on t at a k n x h e =
    ap (λ (l : List ℕ). sets t (at + k) l) (words-here a k (k + 1) k n (omega arith) h ∙ ap (λ (y : ℕ). y ∷ words_from a (k + 1) (n - (k + 1))) (sym e))
    ∙ ap (λ (y : ℕ). sets (set t (at + k) x) y (words_from a (k + 1) (n - (k + 1)))) (let f : suc (at + k) ≡ at + (k + 1) = omega arith in f)

pub stores-whole : (t : List ℕ) (at : ℕ) (a : List ℕ) (n : ℕ) → sets t at (words_from a 0 n) ≡ sets t (at + 0) (words_from a 0 (n - 0))
stores-whole t at a n = by at (at + 0) n (n - 0) (omega arith) (omega arith)
  where
    by : (p q x y : ℕ) → p ≡ q → x ≡ y → sets t p (words_from a 0 x) ≡ sets t q (words_from a 0 y)
    by p q x y u v = rw (u, v)

pub stores-end : (t : List ℕ) (at : ℕ) (a : List ℕ) (k n : ℕ) → n ≤ k → sets t (at + k) (words_from a k (n - k)) ≡ t
stores-end t at a k n h = ap (λ (l : List ℕ). sets t (at + k) l) (words-none a k k n h)
