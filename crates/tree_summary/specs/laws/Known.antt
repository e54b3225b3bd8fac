-- Each node of a good list has a known symbol and lies in the input. Assumes nothing.
use Rattle.std.specs.Prelude.{ℕ, zero, suc, ◌+◌, ◌≤◌, ◌<◌, ◌≡◌, true, List, [], ◌∷◌, ◌++◌, length}
use Rattle.std.proofs.Common.{ap, subst, ◌∙◌, ⊎_elim, arith}
use Rattle.std.proofs.Math.Option.{none}
use Rattle.base_facts.specs.laws.Numbers.{lt-or-ge}
use Rattle.match_meaning.specs.Meaning.{Node}
use Rattle.match_list.specs.Nodes.{node_at, nodes_at, room_of}
use Rattle.tree_list.specs.Preorder.{Gap, gap, gap_at, admits, gaps_behind, bad_from, whole, bad_node}
use Rattle.tree_list.specs.laws.Gaps.{Stands, admits-parts, gaps_behind-long, gaps_behind-below, gaps_behind-own, gaps_behind-child}
use Rattle.tree_list.specs.laws.Bad.{goes_on, front-good, good-parts}
use Rattle.tree_list.specs.laws.NodeWords.{nodes-front}

-- ── the gaps behind a node: those of the depths above it, its own, and that of its children ──
module _ (R : ℕ) (gs : List Gap) (k : ℕ) (x : Node) (stands : Stands R gs k x) where
  deep : x.depth ≤ length gs
  deep = omega (arith, stands.possible)

  pub above : (e : ℕ) → e < x.depth → gap_at (gaps_behind gs x) e ≡ gap_at gs e
  above e h = gaps_behind-below gs x deep e h

  pub each-behind : (P : ℕ → Gap → Type 0) → ((e : ℕ) → e < x.depth → P e (gap_at gs e)) → P x.depth (gap x.end (gap_at gs x.depth).to)
      → P (suc x.depth) (gap x.start x.end) → (e : ℕ) → e < length (gaps_behind gs x) → P e (gap_at (gaps_behind gs x) e)
  each-behind P over own child e h =
      let long : length (gaps_behind gs x) ≡ x.depth + 2 = gaps_behind-long gs x deep in
      ⊎_elim (λ (b : e < x.depth). rw (above e b) (over e b))
      (λ (b : x.depth ≤ e). ⊎_elim
      (λ (c : e < suc x.depth). let same : e ≡ x.depth = omega arith in rw (same, gaps_behind-own gs x deep) own)
      (λ (c : suc x.depth ≤ e). let same : e ≡ suc x.depth = omega arith in rw (same, gaps_behind-child gs x deep) child)
      (lt-or-ge e (suc x.depth)))
      (lt-or-ge e x.depth)

-- ── a node of a good list ──
-- its symbol is one of R, its span lies forward in n bytes
pub record Sound (R n : ℕ) (x : Node) : Type 0 where
  pub symbol : x.symbol < R
  pub forward : x.start ≤ x.end
  pub inside : x.end ≤ n

-- no gap reaches behind the input
Bounded : ℕ → List Gap → Type 0
Bounded n gs = (e : ℕ) → e < length gs → (gap_at gs e).to ≤ n

whole-bounded : (n : ℕ) → Bounded n (whole n)
unfolding Bounded
whole-bounded n zero h = omega arith
whole-bounded n (suc e) h = absurd (omega (arith, h))

module _ (R n : ℕ) (gs : List Gap) (k : ℕ) (x : Node) (bounded : Bounded n gs) (stands : Stands R gs k x) where
  sound-here : Sound R n x
  unfolding Bounded
  sound-here =
      record { symbol = stands.known; forward = stands.forward; inside = omega (arith, stands.inside, bounded x.depth stands.possible) }

  bounded-behind : Bounded n (gaps_behind gs x)
  unfolding Bounded
  bounded-behind =
      each-behind R gs k x stands (λ e g. g.to ≤ n) (λ e h. bounded e (omega (arith, stands.possible))) (bounded x.depth stands.possible)
      sound-here.inside

-- the last node of a good list
last-sound : (R n : ℕ) (gs : List Gap) (k : ℕ) (xs : List Node) (x : Node) → Bounded n gs → bad_from R gs k (xs ++ (x ∷ [])) ≡ none → Sound R n x
last-sound R n gs k [] x b e = sound-here R n gs k x b (admits-parts R gs k x (goes_on R gs k x [] e).0)
last-sound R n gs k (y ∷ xs) x b e =
    let h : (admits R gs k y ≡ true) × (bad_from R (gaps_behind gs y) (suc k) (xs ++ (x ∷ [])) ≡ none) = goes_on R gs k y (xs ++ (x ∷ [])) e in
    last-sound R n (gaps_behind gs y) (suc k) xs x (bounded-behind R n gs k y b (admits-parts R gs k y h.0)) h.1

pub sound-last : (R n : ℕ) (xs : List Node) (x : Node) → bad_from R (whole n) 0 (xs ++ (x ∷ [])) ≡ none → Sound R n x
sound-last R n xs x e = last-sound R n (whole n) 0 xs x (whole-bounded n) e

-- ── in words ──
-- one more node
nodes-more : (ws : List ℕ) (k c : ℕ) → nodes_at ws k (suc c) ≡ nodes_at ws k c ++ (node_at ws (k + c) ∷ [])
unfolding nodes_at
nodes-more ws k zero = ap (λ (i : ℕ). node_at ws i ∷ []) (omega arith)
nodes-more ws k (suc c) =
    ap (λ (l : List Node). node_at ws k ∷ l) (nodes-more ws (suc k) c ∙ ap (λ (i : ℕ). nodes_at ws (suc k) c ++ (node_at ws i ∷ [])) (omega arith))

pub nodes-suc : (ws : List ℕ) (k : ℕ) → nodes_at ws 0 (suc k) ≡ nodes_at ws 0 k ++ (node_at ws k ∷ [])
nodes-suc ws k = nodes-more ws 0 k ∙ ap (λ (i : ℕ). nodes_at ws 0 k ++ (node_at ws i ∷ [])) (omega arith)

-- the nodes up to node k are a good list
pub good-up-to : (R n : ℕ) (ws : List ℕ) (k : ℕ) → bad_node R n ws ≡ none → k < room_of ws → bad_from R (whole n) 0 (nodes_at ws 0 k ++ (node_at ws k ∷ [])) ≡ none
good-up-to R n ws k e h =
    subst (λ (l : List Node). bad_from R (whole n) 0 l ≡ none) (nodes-front ws 0 (room_of ws) (suc k) h ∙ nodes-suc ws k)
    (front-good R (whole n) 0 (nodes_at ws 0 (room_of ws)) (suc k) (good-parts R n ws e).list)

pub known : (R n : ℕ) (ws : List ℕ) (k : ℕ) → bad_node R n ws ≡ none → k < room_of ws
    → ((node_at ws k).symbol < R) × ((node_at ws k).start ≤ (node_at ws k).end) × ((node_at ws k).end ≤ n)
known R n ws k e h =
    let s : Sound R n (node_at ws k) = sound-last R n (nodes_at ws 0 k) (node_at ws k) (good-up-to R n ws k e h) in
    (s.symbol, s.forward, s.inside)
