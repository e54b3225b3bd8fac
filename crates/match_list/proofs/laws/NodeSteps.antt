-- The node list step by step, in the form in which code has it: a is what code holds where the definition has x.
-- Assumes nothing.
use Prim.Native.Nat.{ℕ, zero, suc, ◌+◌, ◌-◌, ◌*◌, ◌≤◌, ◌<◌}
use Rattle.std.specs.Prelude.{◌≡◌, List, [], ◌∷◌, ◌++◌, length, set}
use Rattle.std.proofs.Math.Path.{refl}
use Rattle.std.proofs.Common.{ap, ◌∙◌, sym as flip, arith}
use Rattle.std.proofs.Math.Numerals.{add-one}
use Rattle.read_tokens.specs.Bounds.{node_words}
use Rattle.grammar.specs.Exp.{Exp, ahead, never}
use Rattle.match_meaning.specs.Meaning.{Node, nd}
use Rattle.match_eval.specs.Eval.{body_of, cell_at, ev}
use Rattle.match_list.specs.Nodes.{seq_n, alt_n, opt_n, step_n, rep_n, walk_of, node_if, nodes_of, in_words, put_node}
use Rattle.match_eval.proofs.laws.EvalSteps.{less_one}

pub seq-none : (x : ℕ) (l : List Node) (k : ℕ → List Node) (a : ℕ) → a ≡ x → a ≡ 0 → [] ≡ seq_n x l k
unfolding seq_n
seq-none x l k a h z = rw (← h, z)

pub seq-joins : (x m : ℕ) (l a b : List Node) (k : ℕ → List Node) → x ≡ suc m → l ≡ a → k m ≡ b → seq_n x l k ≡ a ++ b
unfolding seq_n
seq-joins x m l a b k h g i = rw (h, g, i)

pub seq-both : (x : ℕ) (l : List Node) (k : ℕ → List Node) (a : ℕ) → a ≡ x → (a ≡ 0 → ⊥) → l ++ k (a - 1) ≡ seq_n x l k
seq-both x l k zero h f = absurd (f refl)
seq-both x l k (suc a) h f = flip (seq-joins x a l l (k (suc a - 1)) k (flip h) refl (ap k (flip (less_one a))))

pub alt-left : (x : ℕ) (l k : List Node) (a : ℕ) → a ≡ x → (a ≡ 0 → ⊥) → l ≡ alt_n x l k
unfolding alt_n
alt-left x l k zero h f = absurd (f refl)
alt-left x l k (suc a) h f = rw (← h)

pub alt-right : (x : ℕ) (l k : List Node) (a : ℕ) → a ≡ x → a ≡ 0 → k ≡ alt_n x l k
unfolding alt_n
alt-right x l k a h z = rw (← h, z)

pub opt_none : (x : ℕ) (l : List Node) (a : ℕ) → a ≡ x → a ≡ 0 → [] ≡ opt_n x l
unfolding opt_n
opt_none x l a h z = rw (← h, z)

pub opt-some : (x : ℕ) (l : List Node) (a : ℕ) → a ≡ x → (a ≡ 0 → ⊥) → l ≡ opt_n x l
unfolding opt_n
opt-some x l zero h f = absurd (f refl)
opt-some x l (suc a) h f = rw (← h)

-- guards
module _ (s : List ℕ) (f : Exp ℕ → ℕ → ℕ) (w : ℕ → ℕ → List Node) (a : Exp ℕ) (p : ℕ) where
  pub ahead_none : [] ≡ walk_of s f w (ahead a) p
  unfolding walk_of
  ahead_none = refl

  pub never-none : [] ≡ walk_of s f w (never a) p
  unfolding walk_of
  never-none = refl

-- rounds: j of them are left at q
pub rep-ends : (f : ℕ → ℕ) (w : ℕ → List Node) (j q a : ℕ) → a ≡ f q → a ≤ 1 → [] ≡ rep_n j f w q
unfolding rep_n step_n
rep-ends f w zero q a h l = refl
rep-ends f w (suc j) q zero h l = rw (← h)
rep-ends f w (suc j) q (suc zero) h l = rw (← h)
rep-ends f w (suc j) q (suc (suc a)) h l = absurd (omega arith)

pub rep-none : (f : ℕ → ℕ) (w : ℕ → List Node) (j q : ℕ) → j ≤ 0 → [] ≡ rep_n j f w q
unfolding rep_n
rep-none f w zero q h = refl
rep-none f w (suc j) q h = absurd (omega arith)

pub rep-joins : (f : ℕ → ℕ) (w : ℕ → List Node) (j q m : ℕ) (a b : List Node) → f q ≡ suc (suc m) → w q ≡ a → rep_n j f w (q + suc m) ≡ b → rep_n (suc j) f w q ≡ a ++ b
unfolding rep_n step_n
rep-joins f w j q m a b h g i = rw (h, g, i)

pub rep-more : (f : ℕ → ℕ) (w : ℕ → List Node) (j q a : ℕ) → 0 < j → a ≡ f q → 1 < a → w q ++ rep_n (j - 1) f w (q + (a - 1)) ≡ rep_n j f w q
rep-more f w zero q a z h l = absurd (omega arith)
rep-more f w (suc j) q zero z h l = absurd (omega arith)
rep-more f w (suc j) q (suc zero) z h l = absurd (omega arith)
rep-more f w (suc j) q (suc (suc a)) z h l = rw (less_one (suc a), less_one j) (flip (rep-joins f w j q a (w q) (rep_n j f w (q + suc a)) (flip h) refl refl))

-- a symbol: c is its cell
module _ (bodies : List (Exp ℕ)) (s cs : List ℕ) (d r p : ℕ) where
  pub nodes-none : (left : ℕ) → left ≡ 0 → [] ≡ nodes_of bodies s cs left d r p
  unfolding nodes_of
  nodes-none left h = rw h

  pub nodes-fails : (left c : ℕ) → c ≡ cell_at s cs (length bodies) r p → c ≡ 0 → [] ≡ nodes_of bodies s cs left d r p
  unfolding nodes_of node_if
  nodes-fails zero c h z = refl
  nodes-fails (suc left) c h z = rw (← h, z)

  pub nodes-more : (left c : ℕ) → (left ≡ 0 → ⊥) → c ≡ cell_at s cs (length bodies) r p → (c ≡ 0 → ⊥)
      → nd r p (p + (c - 1)) d ∷ walk_of s (λ e q. ev s cs (length bodies) e q) (λ x q. nodes_of bodies s cs (left - 1) (d + 1) x q) (body_of bodies r) p ≡ nodes_of bodies s cs left d r p
  unfolding nodes_of node_if
  nodes-more zero c f h z = absurd (f refl)
  nodes-more (suc left) zero f h z = absurd (z refl)
  nodes-more (suc left) (suc c) f h z = rw (← h, less_one c, less_one left, add-one d)

-- a node's words, stored one after the other
pub put-words : (ws a b c o : List ℕ) (k r p q d : ℕ) → a ≡ set ws (node_words * k + 0) r → b ≡ set a (node_words * k + 1) p → c ≡ set b (node_words * k + 2) q
    → o ≡ set c (node_words * k + 3) d → o ≡ put_node ws k (nd r p q d)
unfolding put_node in_words node_words
put-words ws a b c o k r p q d h i j l =
    let m : ℕ = node_words * k in
    let e0 : node_words * k + 0 ≡ node_words * k = omega arith in
    let e1 : node_words * k + 1 ≡ suc (node_words * k) = omega arith in
    let e2 : node_words * k + 2 ≡ suc (suc (node_words * k)) = omega arith in
    let e3 : node_words * k + 3 ≡ suc (suc (suc (node_words * k))) = omega arith in
    let f : a ≡ set ws m r = h ∙ ap (λ (x : ℕ). set ws x r) e0 in
    let g : b ≡ set (set ws m r) (suc m) p = i ∙ ap (λ (x : ℕ). set a x p) e1 ∙ ap (λ (y : List ℕ). set y (suc m) p) f in
    let u : c ≡ set (set (set ws m r) (suc m) p) (suc (suc m)) q = j ∙ ap (λ (x : ℕ). set b x q) e2 ∙ ap (λ (y : List ℕ). set y (suc (suc m)) q) g in
    l ∙ ap (λ (x : ℕ). set c x d) e3 ∙ ap (λ (y : List ℕ). set y (suc (suc (suc m))) d) u
