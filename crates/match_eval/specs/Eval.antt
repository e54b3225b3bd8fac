-- What an expression takes at a place of a text: 0 for failure, else 1 + the bytes taken (01, Meaning of a match). Symbols are looked up in the work cells.
-- Assumes nothing: these are definitions.
use Rattle.std.specs.Prelude.{ℕ, zero, suc, ◌+◌, ◌-◌, ◌*◌, Bool, true, false, cond, ◌&&◌, List, [], ◌∷◌, eqb, leb, ltb, get_or, length}
use Rattle.read_tokens.specs.Token.{Leaf, any, literal, class}
use Rattle.grammar.specs.Exp.{Exp, sym, ter, seq, alt, opt, star, plus, ahead, never}

-- A plain grammar is the list of its symbols' bodies. A symbol that there is not matches nowhere: no byte is in a class without marks
abbrev pub nowhere : Exp ℕ
nowhere = ter (class [])

abbrev pub body_of : List (Exp ℕ) → ℕ → Exp ℕ
body_of bodies r = get_or bodies r nowhere

-- ── terminals ──
-- whether the bytes stand in the text at p
unfoldable pub stands : List ℕ → ℕ → List ℕ → Bool
stands s p [] = true
stands s p (b ∷ bs) = ltb p (length s) && (eqb (get_or s p 0) b && stands s (suc p) bs)

unfoldable pub leaf_at : List ℕ → Leaf → ℕ → ℕ
leaf_at s any p = cond (ltb p (length s)) 2 0
leaf_at s (literal bs) p = cond (stands s p bs) (suc (length bs)) 0
leaf_at s (class m) p = cond (ltb p (length s) && get_or m (get_or s p 0) false) 2 0

-- ── symbols: "u32 work cell p·R + r holds 0 if symbol r fails at p, else 1 + length taken". A number that says more than is left of the text counts as 0 ──
unfoldable pub cell_at : List ℕ → List ℕ → ℕ → ℕ → ℕ → ℕ
cell_at s cs n r p = let v : ℕ = get_or cs (p * n + r) 0 in cond (ltb r n && leb v (length s - p + 1)) v 0

-- ── operators, by what their parts take: a later part is asked only where it is needed ──
unfoldable pub join_of : ℕ → ℕ → ℕ
join_of n zero = 0
join_of n (suc m) = suc (n + m)

unfoldable pub seq_of : ℕ → (ℕ → ℕ) → ℕ
seq_of zero k = 0
seq_of (suc n) k = join_of n (k n)

unfoldable pub alt_of : ℕ → (ℕ → ℕ) → ℕ
alt_of zero k = k 0
alt_of (suc n) k = suc n

-- "A repeat ends at the first failing round or the first round that takes nothing"
unfoldable pub step_of : ℕ → (ℕ → ℕ) → ℕ
step_of zero k = 0
step_of (suc zero) k = 0
step_of (suc (suc m)) k = suc m + k (suc m)

-- the bytes that rounds of f take from p on, in at most the first number of rounds: each takes a byte, so that the text's length is enough
unfoldable pub rep : ℕ → (ℕ → ℕ) → ℕ → ℕ
rep zero f p = 0
rep (suc k) f p = step_of (f p) (λ m. rep k f (p + m))

-- "but the first round of `+` counts"
unfoldable pub plus_of : ℕ → (ℕ → ℕ) → ℕ
plus_of zero k = 0
plus_of (suc n) k = suc (n + k n)

unfoldable pub opt_of : ℕ → ℕ
opt_of zero = 1
opt_of (suc n) = suc n

unfoldable pub ahead_of : ℕ → ℕ
ahead_of zero = 0
ahead_of (suc n) = 1

unfoldable pub never_of : ℕ → ℕ
never_of zero = 1
never_of (suc n) = 0

-- s is the text, cs the cells of n symbols
unfoldable pub ev : List ℕ → List ℕ → ℕ → Exp ℕ → ℕ → ℕ
ev s cs n (sym r) p = cell_at s cs n r p
ev s cs n (ter x) p = leaf_at s x p
ev s cs n (seq a b) p = seq_of (ev s cs n a p) (λ m. ev s cs n b (p + m))
ev s cs n (alt a b) p = alt_of (ev s cs n a p) (λ m. ev s cs n b p)
ev s cs n (opt a) p = opt_of (ev s cs n a p)
ev s cs n (star a) p = suc (rep (length s) (λ q. ev s cs n a q) p)
ev s cs n (plus a) p = plus_of (ev s cs n a p) (λ m. rep (length s) (λ q. ev s cs n a q) (p + m))
ev s cs n (ahead a) p = ahead_of (ev s cs n a p)
ev s cs n (never a) p = never_of (ev s cs n a p)
