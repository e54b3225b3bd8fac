-- What a memory knows of cells is a fact: it holds in one way. Assumes nothing.
use Rattle.std.specs.Prelude.{ℕ, ◌≡◌, refl, List}
use Rattle.std.specs.Coded.{Coded-set, coded_ℕ, coded_bool, coded_list, le_prop}
use Rattle.std.proofs.Math.Path.{ap, sym as flip}
use Rattle.std.proofs.Common.{◌∙◌}
use mathlib.Core.HLevel.{collapsible→set}
use mathlib.Core.Sum.{⊎_set}
use native.Mathlib.Nat.{ℕ_set}
use Rattle.read_tokens.specs.Token.{Leaf}
use Rattle.grammar.specs.Exp.{Exp, sym, ter, seq, alt, opt, star, plus, ahead, never}
use Rattle.match_eval.specs.steps.Memory.{Knows}

Leaf-set : IsSet Leaf
Leaf-set = hlevel (⊎_set, Coded-set (coded_list coded_ℕ), Coded-set (coded_list coded_bool))

-- the trees once more, over numbers alone
data Tree : Type 0 where
  sym' : ℕ → Tree
  ter' : Leaf → Tree
  seq' alt' : Tree → Tree → Tree
  opt' star' plus' ahead' never' : Tree → Tree
  deriving IsSet as Tree_set

to : Exp ℕ → Tree
to (sym r) = sym' r
to (ter x) = ter' x
to (seq a b) = seq' (to a) (to b)
to (alt a b) = alt' (to a) (to b)
to (opt a) = opt' (to a)
to (star a) = star' (to a)
to (plus a) = plus' (to a)
to (ahead a) = ahead' (to a)
to (never a) = never' (to a)

of : Tree → Exp ℕ
of (sym' r) = sym r
of (ter' x) = ter x
of (seq' a b) = seq (of a) (of b)
of (alt' a b) = alt (of a) (of b)
of (opt' a) = opt (of a)
of (star' a) = star (of a)
of (plus' a) = plus (of a)
of (ahead' a) = ahead (of a)
of (never' a) = never (of a)

of-to : (e : Exp ℕ) → of (to e) ≡ e
unfolding to of
of-to (sym r) = refl
of-to (ter x) = refl
of-to (seq a b) = ap (λ (x : Exp ℕ). seq x (of (to b))) (of-to a) ∙ ap (λ (x : Exp ℕ). seq a x) (of-to b)
of-to (alt a b) = ap (λ (x : Exp ℕ). alt x (of (to b))) (of-to a) ∙ ap (λ (x : Exp ℕ). alt a x) (of-to b)
of-to (opt a) = ap opt (of-to a)
of-to (star a) = ap star (of-to a)
of-to (plus a) = ap plus (of-to a)
of-to (ahead a) = ap ahead (of-to a)
of-to (never a) = ap never (of-to a)

tree-set : IsSet (Exp ℕ)
tree-set =
    collapsible→set (λ x y p. flip (of-to x) ∙ ap of (ap to p) ∙ of-to y)
    (λ x y p q. ap (λ (r : to x ≡ to y). flip (of-to x) ∙ ap of r ∙ of-to y) (Tree_set ℕ_set Leaf-set (to x) (to y) (ap to p) (ap to q)))

pub Knows-prop : (t s cs : List ℕ) (n : ℕ) (mem : List ℕ) (k h : ℕ) → IsProp (Knows t s cs n mem k h)
Knows-prop t s cs n mem k h = hlevel (tree-set, ℕ_set, le_prop)
