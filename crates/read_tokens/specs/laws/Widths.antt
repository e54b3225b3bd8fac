-- A character lies within the text. Assumes nothing.
use Rattle.std.specs.Prelude.{ℕ, ◌+◌, ◌≤◌, ◌≡◌, refl, Bool, true, false, cond, ◌&&◌, List, [], ◌∷◌, eqb, leb, length, drop, get_or}
use Rattle.std.proofs.Common.{arith, length-drop}
use Rattle.read_tokens.specs.Bounds.{first_octal}
use Rattle.read_tokens.specs.Chars.{Char, octal, octals, letters, four, char}

by_cond : (m : ℕ) (b : Bool) (x y : Char) → (b ≡ true → x.width ≤ m) → y.width ≤ m → (cond b x y).width ≤ m
by_cond m true x y h k = h refl
by_cond m false x y h k = k

never : (x : Bool) → (x && false) ≡ true → ⊥
never true e = let z : ◌≡◌ {A = ℕ} 0 1 = cc in omega arith
never false e = let z : ◌≡◌ {A = ℕ} 0 1 = cc in omega arith

octals-fit : (l : List ℕ) → 2 ≤ length l → (octals (get_or l 1 256) (get_or l 2 256) (get_or l 3 256)).width ≤ length l
unfolding octals first_octal
octals-fit [] h = absurd (omega arith)
octals-fit (a ∷ []) h = absurd (omega arith)
octals-fit (a ∷ b ∷ []) h = omega arith
octals-fit (a ∷ b ∷ c ∷ []) h =
    by_cond 3 (octal c) _ _ (λ _. by_cond 3 (leb b 50 && false) _ _ (λ e. absurd (never (leb b 50) e)) (omega arith)) (omega arith)
octals-fit (a ∷ b ∷ c ∷ d ∷ l) h =
    let n = length (a ∷ b ∷ c ∷ d ∷ l) in
    by_cond n (octal c) _ _ (λ _. by_cond n (leb b 50 && octal d) _ _ (λ _. omega arith) (omega arith)) (omega arith)

letters-two : (c : ℕ) → (letters c).width ≤ 2
unfolding letters
letters-two c =
    by_cond 2 (eqb c 110) _ _ (λ _. omega arith) (
    by_cond 2 (eqb c 114) _ _ (λ _. omega arith) (
    by_cond 2 (eqb c 116) _ _ (λ _. omega arith) (
    by_cond 2 (eqb c 39) _ _ (λ _. omega arith) (
    by_cond 2 (eqb c 34) _ _ (λ _. omega arith) (
    by_cond 2 (eqb c 91) _ _ (λ _. omega arith) (
    by_cond 2 (eqb c 93) _ _ (λ _. omega arith) (
    by_cond 2 (eqb c 92) _ _ (λ _. omega arith) (omega arith))))))))

char-fits : (l : List ℕ) → (char l).width ≤ length l
unfolding char four letters
char-fits [] = omega arith
char-fits (a ∷ []) = by_cond 1 (eqb a 256) _ _ (λ _. omega arith) (by_cond 1 (eqb a 92) _ _ (λ _. omega arith) (omega arith))
char-fits (a ∷ b ∷ l) =
    let n = length (a ∷ b ∷ l) in
    by_cond n (eqb a 256) _ _ (λ _. omega arith)
    (by_cond n (eqb a 92) _ _
    (λ _. by_cond n (octal b) _ _ (λ _. octals-fit (a ∷ b ∷ l) (omega arith)) (omega (arith, letters-two b)))
    (omega arith))

pub width-inside : (s : List ℕ) (i : ℕ) → i ≤ length s → i + (char (drop i s)).width ≤ length s
width-inside s i h = omega (arith, char-fits (drop i s), length-drop i s)
