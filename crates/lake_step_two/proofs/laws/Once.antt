-- A grammar numbered from its rules has each terminal once, `.` first (01, Notation: "`.` is 0 always, then by first appearance"). Assumes nothing.
use Prim.Native.Nat.{ℕ, zero, suc, ◌+◌, ◌≤◌, ◌<◌}
use Rattle.std.specs.Prelude.{◌≡◌, Bool, cond, ◌&&◌, ◌||◌, length, eqb}
use Rattle.std.proofs.Math.Path.{refl}
use Rattle.std.proofs.Common.{sym, ap, ap₂, ◌∙◌, subst, true≢false, eq-eqb}
use Rattle.std.proofs.Math.Bool.{true, false}
use mathlib.Core.List.{List, [], ◌∷◌}
use native.Mathlib.Omega.{arith}
use Rattle.std.proofs.Math.ListN.{get_or}
use Rattle.base_facts.specs.laws.Bools.{or-fails-right}
use Rattle.read_tokens.specs.Token.{Leaf, any, literal, class}
use Rattle.grammar.specs.Exp.{Rule}
use Rattle.grammar.specs.Same.{same_bytes, same_marks, same_leaf, is_in, index_of, new_in}
use Rattle.grammar.specs.laws.Same.{leaf-refl}
use Rattle.grammar.specs.Numbers.{numbered, terminals_of, leaves_of}
use Rattle.grammar.specs.Numbers.{terminal_in}
use Rattle.lake_step_one.proofs.laws.Water.{index_at}
use Rattle.lake_step_two.specs.steps.Stepped.{Once}

or_left : (a b : Bool) → (a || b) ≡ false → a ≡ false
or_left true b e = e
or_left false b e = refl

-- ---- what is new is none of those seen, and none of the new ones before it
module _ {A : Type 0} (same : A → A → Bool) (d : A) where
  abbrev pick : A → List A → List A → Bool → List A
  pick y l seen b = elim b [ true ↦ new_in same seen l | false ↦ y ∷ new_in same (y ∷ seen) l ]

  abbrev Apart : List A → List A → Type 0
  Apart l seen = (x : ℕ) → x < length (new_in same seen l) → is_in same (get_or (new_in same seen l) x d) seen ≡ false

  abbrev Before : List A → List A → Type 0
  Before l seen = (x j : ℕ) → x < length (new_in same seen l) → j < x → same (get_or (new_in same seen l) x d) (get_or (new_in same seen l) j d) ≡ false

  apart_by : (y : A) (l seen : List A) → Apart l seen → Apart l (y ∷ seen) → (b : Bool) → is_in same y seen ≡ b → (x : ℕ) → x < length (pick y l seen b) → is_in same (get_or (pick y l seen b) x d) seen ≡ false
  unfolding is_in
  apart_by y l seen p q true e x h = p x h
  apart_by y l seen p q false e zero h = e
  apart_by y l seen p q false e (suc x) h = let z = get_or (new_in same (y ∷ seen) l) x d in or-fails-right (same z y) (is_in same z seen) (q x (omega arith))

  new_apart : (l seen : List A) → Apart l seen
  unfolding new_in is_in
  new_apart [] seen x h = let z : ⊥ = omega arith in absurd z
  new_apart (y ∷ l) seen x h = apart_by y l seen (new_apart l seen) (new_apart l (y ∷ seen)) (is_in same y seen) refl x h

  before-by : (y : A) (l seen : List A) → Before l seen → Before l (y ∷ seen) → (b : Bool) (x j : ℕ) → x < length (pick y l seen b) → j < x → same (get_or (pick y l seen b) x d) (get_or (pick y l seen b) j d) ≡ false
  unfolding is_in
  before-by y l seen p q true x j h k = p x j h k
  before-by y l seen p q false zero j h k = let z : ⊥ = omega arith in absurd z
  before-by y l seen p q false (suc x) zero h k = let z = get_or (new_in same (y ∷ seen) l) x d in or_left (same z y) (is_in same z seen) (new_apart l (y ∷ seen) x (omega arith))
  before-by y l seen p q false (suc x) (suc j) h k = q x j (omega arith) (omega arith)

  new-before : (l seen : List A) → Before l seen
  unfolding new_in
  new-before [] seen x j h k = let z : ⊥ = omega arith in absurd z
  new-before (y ∷ l) seen x j h k = before-by y l seen (new-before l seen) (new-before l (y ∷ seen)) (is_in same y seen) x j h k

-- ---- `.`, then the new ones
module _ (ls : List Leaf) where
  abbrev leaves : List Leaf
  leaves = any ∷ new_in same_leaf (any ∷ []) ls

  apart : (x j : ℕ) → x < length leaves → j < x → same_leaf (get_or leaves x any) (get_or leaves j any) ≡ false
  unfolding is_in
  apart zero j h p = let z : ⊥ = omega arith in absurd z
  apart (suc x) zero h p = or_left (same_leaf (get_or leaves (suc x) any) any) false (new_apart same_leaf any ls (any ∷ []) x (omega arith))
  apart (suc x) (suc j) h p = new-before same_leaf any ls (any ∷ []) x j (omega arith) (omega arith)

  place : (x : ℕ) → x < length leaves → index_of same_leaf (get_or leaves x any) leaves ≡ x
  place x h = index_at same_leaf (get_or leaves x any) any leaves x h (λ j p. apart x j h p) (leaf-refl (get_or leaves x any))

pub once-numbered : (rs : List Rule) → Once (numbered rs)
unfolding numbered terminals_of
once-numbered rs = record { dot = place (leaves_of rs) 0 (omega arith); each-its = place (leaves_of rs) }
