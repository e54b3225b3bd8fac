-- Every span of a good list lies in the input. Assumes nothing.
use Rattle.std.specs.Prelude.{ℕ, zero, suc, ◌+◌, ◌≤◌, List, [], ◌∷◌, ◌++◌, length, take}
use Rattle.std.proofs.Common.{arith, length-append, length-take}
use Rattle.match_meaning.specs.Meaning.{Node}
use Rattle.tree_list.specs.Preorder.{Gap, gap_at, gaps_behind}

-- ── every gap lies in the input ──
abbrev pub Inside : ℕ → List Gap → Type 0
Inside n [] = Unit {0}
Inside n (g ∷ gs) = (g.to ≤ n) × Inside n gs

pub inside-at : (n : ℕ) (gs : List Gap) (d : ℕ) → Inside n gs → (gap_at gs d).to ≤ n
inside-at n [] d h = omega arith
inside-at n (g ∷ gs) zero h = h.0
inside-at n (g ∷ gs) (suc d) h = inside-at n gs d h.1

inside_take : (n d : ℕ) (gs us : List Gap) → Inside n gs → Inside n us → Inside n (take d gs ++ us)
inside_take n zero gs us h g = g
inside_take n (suc d) [] us h g = g
inside_take n (suc d) (x ∷ gs) us h g = (h.0, inside_take n d gs us h.1 g)

pub inside-gaps_behind : (n : ℕ) (gs : List Gap) (x : Node) → x.end ≤ n → Inside n gs → Inside n (gaps_behind gs x)
unfolding gaps_behind
inside-gaps_behind n gs x l h = inside_take n x.depth gs _ h (inside-at n gs x.depth h, (l, tt))

pub gaps_behind-length : (gs : List Gap) (x : Node) → length (gaps_behind gs x) ≤ x.depth + 2
unfolding gaps_behind
gaps_behind-length gs x = simp (length-append, length-take) (omega arith)
