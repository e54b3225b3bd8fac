-- The preorder list of a tree is good. Assumes nothing.
use Rattle.std.specs.Prelude.{ℕ, suc, ◌≤◌, ◌<◌, ◌≡◌, length, take}
use Rattle.std.proofs.Math.Path.{refl, ap, subst, sym as flip}
use Rattle.std.proofs.Common.{◌∙◌, arith, length-take-le, get_or-take}
use mathlib.Core.List.{List, [], ◌++◌, append_assoc}
use Rattle.std.proofs.Math.Option.{none as nothing}
use Rattle.std.proofs.Math.Seq.{take-take, take_at}
use borrow.Author.Tests.{le-leb}
use Rattle.match_meaning.specs.Meaning.{Node, nd}
use Rattle.tree_list.specs.Tree.{Trees, none, tree, preorder, Nests, WithinDepth}
use Rattle.tree_list.specs.Preorder.{Gap, gap, gap_at, gaps_behind, bad_from, whole}
use Rattle.tree_list.specs.laws.Gaps.{parts-admit, gaps_behind-long, gaps_behind-own, gaps_behind-child}
use Rattle.tree_list.specs.laws.Bad.{goes_through}

module _ (R : ℕ) where
  -- the gaps behind a node's children: those above the node are as they were, and its own begins at its end
  module _ (gs : List Gap) (x : Node) (hs : List Gap) (possible : x.depth < length gs) (same : take (suc x.depth) hs ≡ take (suc x.depth) (gaps_behind gs x)) where
    own_behind : gap_at hs x.depth ≡ gap x.end (gap_at gs x.depth).to
    own_behind =
        flip (get_or-take (suc x.depth) hs x.depth (gap 0 0) (omega arith)) ∙ ap (λ (l : List Gap). gap_at l x.depth) same
        ∙ get_or-take (suc x.depth) (gaps_behind gs x) x.depth (gap 0 0) (omega arith) ∙ gaps_behind-own gs x (omega (arith, possible))

    above : take x.depth hs ≡ take x.depth gs
    unfolding gaps_behind
    above =
        flip (take-take x.depth (suc x.depth) hs (omega arith)) ∙ ap (take x.depth) same ∙ take-take x.depth (suc x.depth) (gaps_behind gs x) (omega arith)
        ∙ take_at (take x.depth gs) _ x.depth (length-take-le x.depth gs (omega (arith, possible)))

  -- trees of depth e + 1 between a and b, from gaps of which that is theirs; behind them the gaps above are the same
  pub runs : (ts : Trees) (e j a b : ℕ) (gs : List Gap) (rest : List Node) → Nests R a b ts → WithinDepth (suc e) ts → suc e < length gs → gap_at gs (suc e) ≡ gap a b
      → ((hs : List Gap) (k : ℕ) → suc e < length hs → take (suc e) hs ≡ take (suc e) gs → bad_from R hs (suc k) rest ≡ nothing)
      → bad_from R gs (suc j) (preorder (suc e) ts ++ rest) ≡ nothing
  unfolding Nests WithinDepth preorder
  runs none e j a b gs rest f s l g on = on gs j l refl
  runs (tree r p q cs ts) e j a b gs rest f s l g on =
      goes_through R gs (suc j) (nd r p q (suc e)) ((preorder (suc (suc e)) cs ++ preorder (suc e) ts) ++ rest)
      (parts-admit R gs (suc j) (nd r p q (suc e))
      (record {
        first = le-leb 1 (suc e) (omega arith);
        high = s.0;
        possible = l;
        known = f.0;
        forward = f.2;
        behind = subst (λ (y : Gap). y.from ≤ p) (flip g) f.1;
        inside = subst (λ (y : Gap). q ≤ y.to) (flip g) f.3;
      }))
      ∙ ap (bad_from R (gaps_behind gs (nd r p q (suc e))) (suc (suc j))) (append_assoc (preorder (suc (suc e)) cs) (preorder (suc e) ts) rest)
      ∙ runs cs (suc e) (suc j) p q (gaps_behind gs (nd r p q (suc e))) (preorder (suc e) ts ++ rest) f.4 s.1
      (omega (arith, gaps_behind-long gs (nd r p q (suc e)) (omega (arith, l)))) (gaps_behind-child gs (nd r p q (suc e)) (omega (arith, l)))
      (λ hs k m t.
      runs ts e k q b hs rest f.5 s.2 (omega (arith, m)) (own_behind gs (nd r p q (suc e)) hs l t ∙ ap (λ (y : Gap). gap q y.to) g)
      (λ is i n u. on is i n (u ∙ above gs (nd r p q (suc e)) hs l t)))

  pub tree-good : (n r p q : ℕ) (cs : Trees) → Nests R 0 n (tree r p q cs none) → WithinDepth 0 (tree r p q cs none) → bad_from R (whole n) 0 (preorder 0 (tree r p q cs none)) ≡ nothing
  unfolding Nests WithinDepth preorder bad_from
  tree-good n r p q cs f s =
      goes_through R (whole n) 0 (nd r p q 0) (preorder 1 cs ++ [])
      (parts-admit R (whole n) 0 (nd r p q 0)
      (record { first = refl; high = s.0; possible = omega arith; known = f.0; forward = f.2; behind = f.1; inside = f.3 }))
      ∙ runs cs 0 0 p q (gaps_behind (whole n) (nd r p q 0)) [] f.4 s.1 (omega (arith, gaps_behind-long (whole n) (nd r p q 0) (omega arith)))
      (gaps_behind-child (whole n) (nd r p q 0) (omega arith)) (λ hs k l t. refl)
