-- Rounds of an expression: any bound on them is enough that is no less than the bytes left. Assumes nothing.
use Prim.Native.Nat.{ℕ, zero, suc, ◌+◌, ◌-◌, ◌≤◌, ◌<◌}
use Rattle.std.specs.Prelude.{◌≡◌}
use Rattle.std.proofs.Math.Path.{refl, ap, sym as flip}
use Rattle.std.proofs.Common.{◌∙◌, arith}
use mathlib.Core.List.{List, [], ◌++◌}
use Rattle.match_meaning.specs.Meaning.{Node}
use Rattle.match_eval.specs.Eval.{step_of, rep}
use Rattle.match_list.specs.Nodes.{step_n, rep_n}
use Rattle.match_eval.proofs.laws.Within.{Within}
use Rattle.match_eval.proofs.laws.EvalSteps.{rep-more}
use Rattle.match_list.proofs.laws.NodeSteps.{rep-more as list-more}

module _ (m : ℕ) (f : ℕ → ℕ) (w : ℕ → List Node) (h : (q : ℕ) → q ≤ m → Within m q (f q)) where
  no_bytes : (p : ℕ) → p ≤ m → m ≤ p → f p ≤ 1
  no_bytes p l g = omega (arith, h p l)

  steps-same : (p x : ℕ) (i k : ℕ → ℕ) → x + p ≤ m + 1 → ((j : ℕ) → 0 < j → p + j ≤ m → i j ≡ k j) → step_of x i ≡ step_of x k
  unfolding step_of
  steps-same p zero i k l e = refl
  steps-same p (suc zero) i k l e = refl
  steps-same p (suc (suc x)) i k l e = ap (λ (y : ℕ). suc x + y) (e (suc x) (omega arith) (omega arith))

  step-last : (x : ℕ) (k : ℕ → ℕ) → x ≤ 1 → 0 ≡ step_of x k
  unfolding step_of
  step-last zero k l = refl
  step-last (suc zero) k l = refl
  step-last (suc (suc x)) k l = absurd (omega arith)

  pub rounds-any : (j k p : ℕ) → p ≤ m → m ≤ j + p → m ≤ k + p → rep j f p ≡ rep k f p
  unfolding rep
  rounds-any zero zero p l g e = refl
  rounds-any zero (suc k) p l g e = step-last (f p) (λ i. rep k f (p + i)) (no_bytes p l (omega arith))
  rounds-any (suc j) zero p l g e = flip (step-last (f p) (λ i. rep j f (p + i)) (no_bytes p l (omega arith)))
  rounds-any (suc j) (suc k) p l g e =
      steps-same p (f p) (λ i. rep j f (p + i)) (λ i. rep k f (p + i)) (h p l) (λ i a b. rounds-any j k (p + i) b (omega arith) (omega arith))

  nodes-same : (p x : ℕ) (a : List Node) (i k : ℕ → List Node) → x + p ≤ m + 1 → ((j : ℕ) → 0 < j → p + j ≤ m → i j ≡ k j) → step_n x a i ≡ step_n x a k
  unfolding step_n
  nodes-same p zero a i k l e = refl
  nodes-same p (suc zero) a i k l e = refl
  nodes-same p (suc (suc x)) a i k l e = ap (λ (y : List Node). a ++ y) (e (suc x) (omega arith) (omega arith))

  nodes-last : (x : ℕ) (a : List Node) (k : ℕ → List Node) → x ≤ 1 → [] ≡ step_n x a k
  unfolding step_n
  nodes-last zero a k l = refl
  nodes-last (suc zero) a k l = refl
  nodes-last (suc (suc x)) a k l = absurd (omega arith)

  pub nodes-any : (j k p : ℕ) → p ≤ m → m ≤ j + p → m ≤ k + p → rep_n j f w p ≡ rep_n k f w p
  unfolding rep_n
  nodes-any zero zero p l g e = refl
  nodes-any zero (suc k) p l g e = nodes-last (f p) (w p) (λ i. rep_n k f w (p + i)) (no_bytes p l (omega arith))
  nodes-any (suc j) zero p l g e = flip (nodes-last (f p) (w p) (λ i. rep_n j f w (p + i)) (no_bytes p l (omega arith)))
  nodes-any (suc j) (suc k) p l g e =
      nodes-same p (f p) (w p) (λ i. rep_n j f w (p + i)) (λ i. rep_n k f w (p + i)) (h p l) (λ i a b. nodes-any j k (p + i) b (omega arith) (omega arith))

  -- one round, and as many as before behind it
  module _ (p a : ℕ) (l : p ≤ m) (e : a ≡ f p) (more : 1 < a) where
    inside : p + (a - 1) ≤ m
    inside = omega (arith, h p l, e)

    pub rounds-step : p + (a - 1) + rep m f (p + (a - 1)) ≡ p + rep m f p
    rounds-step = omega (arith, rounds-any m (m - 1) (p + (a - 1)) inside (omega arith) (omega (arith, more)), rep-more f m p a (omega (arith, inside, more)) e more)

    pub nodes-step : w p ++ rep_n m f w (p + (a - 1)) ≡ rep_n m f w p
    nodes-step = ap (λ (y : List Node). w p ++ y) (nodes-any m (m - 1) (p + (a - 1)) inside (omega arith) (omega (arith, more))) ∙ list-more f w m p a (omega (arith, inside, more)) e more
