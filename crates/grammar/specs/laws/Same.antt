-- The tests of equality of 01 (Notation: "Literals are equal by their bytes, classes by their bytes") are equality. Assumes nothing.
use Rattle.std.specs.Prelude.{ℕ, ◌≡◌, refl, Bool, true, false, List, [], ◌∷◌, eqb}
use Rattle.std.proofs.Common.{ap, eqb-true, eq-eqb}
use Rattle.std.proofs.lemmas.Bool.{false≢true}
use Rattle.base_facts.specs.laws.Bools.{and_both, and_left, and_right}
use Rattle.read_tokens.specs.Token.{Leaf, any, literal, class}
use Rattle.grammar.specs.Same.{same_bytes, same_mark, same_marks, same_leaf}

pub bytes-sound : (s t : List ℕ) → same_bytes s t ≡ true → s ≡ t
unfolding same_bytes
bytes-sound [] [] e = refl
bytes-sound [] (y ∷ t) e = absurd (false≢true e)
bytes-sound (x ∷ s) [] e = absurd (false≢true e)
bytes-sound (x ∷ s) (y ∷ t) e =
    let a : x ≡ y = eqb-true x y (and_left (eqb x y) (same_bytes s t) e) in
    let b : s ≡ t = bytes-sound s t (and_right (eqb x y) (same_bytes s t) e) in
    cc (a, b)

pub bytes-refl : (s : List ℕ) → same_bytes s s ≡ true
unfolding same_bytes
bytes-refl [] = refl
bytes-refl (x ∷ s) = and_both (eqb x x) (same_bytes s s) (eq-eqb x x refl) (bytes-refl s)

mark-sound : (x y : Bool) → same_mark x y ≡ true → x ≡ y
mark-sound true true e = refl
mark-sound true false e = absurd (false≢true e)
mark-sound false true e = absurd (false≢true e)
mark-sound false false e = refl

mark-refl : (x : Bool) → same_mark x x ≡ true
mark-refl true = refl
mark-refl false = refl

marks-sound : (s t : List Bool) → same_marks s t ≡ true → s ≡ t
unfolding same_marks
marks-sound [] [] e = refl
marks-sound [] (y ∷ t) e = absurd (false≢true e)
marks-sound (x ∷ s) [] e = absurd (false≢true e)
marks-sound (x ∷ s) (y ∷ t) e =
    let a : x ≡ y = mark-sound x y (and_left (same_mark x y) (same_marks s t) e) in
    let b : s ≡ t = marks-sound s t (and_right (same_mark x y) (same_marks s t) e) in
    cc (a, b)

marks-refl : (s : List Bool) → same_marks s s ≡ true
unfolding same_marks
marks-refl [] = refl
marks-refl (x ∷ s) = and_both (same_mark x x) (same_marks s s) (mark-refl x) (marks-refl s)

pub leaf-sound : (x y : Leaf) → same_leaf x y ≡ true → x ≡ y
unfolding same_leaf
leaf-sound any any e = refl
leaf-sound any (literal w) e = absurd (false≢true e)
leaf-sound any (class n) e = absurd (false≢true e)
leaf-sound (literal v) any e = absurd (false≢true e)
leaf-sound (literal v) (literal w) e = ap literal (bytes-sound v w e)
leaf-sound (literal v) (class n) e = absurd (false≢true e)
leaf-sound (class m) any e = absurd (false≢true e)
leaf-sound (class m) (literal w) e = absurd (false≢true e)
leaf-sound (class m) (class n) e = ap class (marks-sound m n e)

pub leaf-refl : (x : Leaf) → same_leaf x x ≡ true
unfolding same_leaf
leaf-refl any = refl
leaf-refl (literal v) = bytes-refl v
leaf-refl (class m) = marks-refl m
