-- Expressions by number: how many there are and what stands where. Assumes nothing.
use Prim.Native.Nat.{ℕ, zero, suc, ◌+◌, ◌-◌, ◌≤◌, ◌<◌}
use Rattle.std.specs.Prelude.{◌≡◌, ◌⊎◌, Bool, true, false, ◌&&◌, ◌||◌, length, get_or}
use Rattle.std.proofs.Math.Path.{refl, ap₂}
use Rattle.std.proofs.Common.{sym, ap, ◌∙◌, subst, inl, inr, ⊎_elim, arith, get_or-append-add}
use mathlib.Core.List.{List, [], ◌∷◌, ◌++◌, map}
use Rattle.std.proofs.Math.Option.{Option, none, some}
use Rattle.std.proofs.Math.ListN.{length-append, get_or-append}
use Rattle.read_tokens.specs.Token.{Leaf}
use Rattle.grammar.specs.Exp.{Exp, sym as uses, ter, seq, alt, opt, star, plus, ahead, never, size}
use Rattle.grammar.specs.Parts.{Part, terminal, occurs, sequence, choice, option, repeat, repeat1, affirms, denies, last, parts_of, parts_all}
use Rattle.grammar_table.specs.Holds.{present, roots_from}

pub size-pos : (e : Exp ℕ) → 0 < size e
unfolding size
size-pos (uses r) = omega arith
size-pos (ter x) = omega arith
size-pos (seq a b) = omega arith
size-pos (alt a b) = omega arith
size-pos (opt a) = omega arith
size-pos (star a) = omega arith
size-pos (plus a) = omega arith
size-pos (ahead a) = omega arith
size-pos (never a) = omega arith

-- what the bodies hold together
unfoldable pub total : List (Exp ℕ) → ℕ
total [] = 0
total (e ∷ es) = size e + total es

module _ (t : Leaf → ℕ) where
  two-long : (xs ys : List Part) (p : Part) (m n : ℕ) → length xs ≡ m → length ys ≡ n → length (xs ++ (ys ++ (p ∷ []))) ≡ suc (m + n)
  two-long xs ys p m n h k = simp length-append (omega arith)

  one-long : (xs : List Part) (p : Part) (m : ℕ) → length xs ≡ m → length (xs ++ (p ∷ [])) ≡ suc m
  one-long xs p m h = simp length-append (omega arith)

  pub parts-long : (e : Exp ℕ) (o : ℕ) → length (parts_of t o e) ≡ size e
  unfolding size parts_of
  parts-long (uses r) o = refl
  parts-long (ter x) o = refl
  parts-long (seq a b) o = two-long (parts_of t o a) (parts_of t (o + size a) b) (sequence (last o a) (last (o + size a) b)) (size a) (size b) (parts-long a o) (parts-long b (o + size a))
  parts-long (alt a b) o = two-long (parts_of t o a) (parts_of t (o + size a) b) (choice (last o a) (last (o + size a) b)) (size a) (size b) (parts-long a o) (parts-long b (o + size a))
  parts-long (opt a) o = one-long (parts_of t o a) (option (last o a)) (size a) (parts-long a o)
  parts-long (star a) o = one-long (parts_of t o a) (repeat (last o a)) (size a) (parts-long a o)
  parts-long (plus a) o = one-long (parts_of t o a) (repeat1 (last o a)) (size a) (parts-long a o)
  parts-long (ahead a) o = one-long (parts_of t o a) (affirms (last o a)) (size a) (parts-long a o)
  parts-long (never a) o = one-long (parts_of t o a) (denies (last o a)) (size a) (parts-long a o)

  pub all-long : (es : List (Exp ℕ)) (o : ℕ) → length (parts_all t o es) ≡ total es
  unfolding parts_all total
  all-long [] o = refl
  all-long (e ∷ es) o =
      length-append (parts_of t o e) (parts_all t (o + size e) es) ∙ ap₂ ◌+◌ (parts-long e o) (all-long es (o + size e))

  -- ---- a run of a list
  module _ (at : ℕ → Part) (d : Part) where
    abbrev pub Seg : ℕ → List Part → Type 0
    Seg o xs = (k : ℕ) → k < length xs → at (o + k) ≡ get_or xs k d

    pub seg-left : (o : ℕ) (xs ys : List Part) → Seg o (xs ++ ys) → Seg o xs
    seg-left o xs ys h k l = h k (rw (length-append xs ys) (omega arith)) ∙ get_or-append xs ys d k l

    pub seg-right : (o n : ℕ) (xs ys : List Part) → length xs ≡ n → Seg o (xs ++ ys) → Seg (o + n) ys
    seg-right o n xs ys e h k l =
        ap at (let q : o + n + k ≡ o + (length xs + k) = omega arith in q) ∙ h (length xs + k) (rw (length-append xs ys) (omega arith)) ∙ get_or-append-add xs ys k d

    pub seg-one : (o m : ℕ) (p : Part) → Seg o (p ∷ []) → o ≡ m → at m ≡ p
    seg-one o m p h e = ap at (let q : m ≡ o + 0 = omega arith in q) ∙ h 0 (omega arith)

-- ---- the numbers of the bodies
pub from-long : (os : List (Option (Exp ℕ))) (o : ℕ) → length (roots_from o os) ≡ length os
unfolding roots_from
from-long [] o = refl
from-long (none ∷ os) o = ap suc (from-long os o)
from-long (some e ∷ os) o = ap suc (from-long os (o + size e))

pub root-le : (os : List (Option (Exp ℕ))) (o s : ℕ) → get_or (roots_from o os) s 0 ≤ o + total (present os)
unfolding roots_from present total
root-le [] o s = omega arith
root-le (none ∷ os) o zero = omega arith
root-le (none ∷ os) o (suc s) = root-le os o s
root-le (some e ∷ os) o zero = omega (arith, size-pos e)
root-le (some e ∷ os) o (suc s) = omega (arith, root-le os (o + size e) s)

pub present-some : (es : List (Exp ℕ)) → present (map some es) ≡ es
unfolding present
present-some [] = refl
present-some (e ∷ es) = ap (λ (l : List (Exp ℕ)). e ∷ l) (present-some es)
