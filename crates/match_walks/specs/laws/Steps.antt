-- How a task gives way to others, whatever they are. Assumes nothing.
use Rattle.std.specs.Prelude.{ℕ, zero, suc, ◌+◌, ◌-◌, ◌*◌, ◌≤◌, ◌<◌, ◌≡◌, ◌⊎◌, length}
use Rattle.std.proofs.Math.Path.{ap, subst, sym as flip}
use Rattle.std.proofs.Common.{◌∙◌, inl, inr, arith, eq-or-lt_of_le, mul-le-mul, mul-le-mul_right, suc-mul}
use mathlib.Core.List.{List, [], ◌∷◌, ◌++◌, append_assoc}
use Rattle.match_meaning.specs.Meaning.{Node}
use Rattle.match_walks.specs.steps.Tasks.{Task, nodes, after, Able, listed, AllAble, cost, cost_of, to_do, Step, Moves}

-- ── the bound on tasks ──
pub cost-one : (m k : ℕ) → 1 ≤ cost m k
unfolding cost
cost-one m zero = omega arith
cost-one m (suc k) = omega arith

cost-up : (m i k : ℕ) → i ≤ k → cost m i ≤ cost m k
unfolding cost
cost-up m i zero h = let e : i ≡ 0 = omega arith in subst (λ (j : ℕ). cost m j ≤ cost m 0) (flip e) (omega arith)
cost-up m i (suc k) h = go (eq-or-lt_of_le h) (λ l. cost-up m i k l)
  where
    go : (i ≡ suc k) ⊎ (i < suc k) → (i ≤ k → cost m i ≤ cost m k) → cost m i ≤ cost m (suc k)
    go (inl e) f = subst (λ (j : ℕ). cost m j ≤ cost m (suc k)) (flip e) (omega arith)
    go (inr l) f = omega (arith, f (omega arith))

-- two parts; rounds of a part from p on; both
pub cost-two : (m i j k : ℕ) → i < k → j < k → cost m i + cost m j + 1 ≤ cost m k
unfolding cost
cost-two m i j zero h g = absurd (omega arith)
cost-two m i j (suc k) h g = omega (arith, cost-up m i k (omega arith), cost-up m j k (omega arith))

pub cost-rounds : (m p i j k : ℕ) → i < k → j < k → cost m i + ((m - p) * (cost m j + 1) + 1) + 1 ≤ cost m k
unfolding cost
cost-rounds m p i j zero h g = absurd (omega arith)
cost-rounds m p i j (suc k) h g =
    let u : cost m j ≤ cost m k = cost-up m j k (omega arith) in
    let v : (m - p) * (cost m j + 1) ≤ m * (cost m k + 1) = mul-le-mul (omega arith) (omega (arith, u)) in
    omega (arith, v, cost-up m i k (omega arith))

pub cost-less : (m i k : ℕ) → i < k → cost m i + 1 ≤ cost m k
cost-less m i k h = omega (arith, cost-two m i i k h h)

-- a round that takes j bytes, and those behind it
pub cost-again : (m p j c : ℕ) → 0 < j → p + j ≤ m → c + ((m - (p + j)) * (c + 1) + 1) + 1 ≤ (m - p) * (c + 1) + 1
cost-again m p j c h g =
    let u : suc (m - (p + j)) * (c + 1) ≤ (m - p) * (c + 1) = mul-le-mul_right (c + 1) (omega arith) in
    omega (arith, u, suc-mul (m - (p + j)) (c + 1))

module _ (t s cs : List ℕ) (n : ℕ) where
  -- no other task
  module _ (x : Task) (p q : ℕ) where
    pub step-none : q ≤ length s → [] ≡ nodes t s cs n x p → q ≡ after t s cs n x p → 1 ≤ cost_of (length s) x p → Step t s cs n x p [] q
    step-none l a b c =
        record {
          place = l;
          same = λ zs. ap (λ (i : ℕ). listed t s cs n zs i) b ∙ ap (λ (y : List Node). y ++ listed t s cs n zs (after t s cs n x p)) a;
          able = λ zs h. subst (λ (i : ℕ). AllAble t s cs n zs i) (flip b) h;
          less = λ zs. omega (arith, c, ap (λ (i : ℕ). to_do t s cs n zs i) b);
        }

  -- one
  module _ (x y : Task) (p : ℕ) where
    pub step-one : p ≤ length s → nodes t s cs n y p ≡ nodes t s cs n x p → after t s cs n y p ≡ after t s cs n x p → Able t s cs n y p
        → cost_of (length s) y p + 1 ≤ cost_of (length s) x p → Step t s cs n x p (y ∷ []) p
    unfolding listed to_do
    step-one l a b f c =
        record {
          place = l;
          same = λ zs. ap (λ (i : ℕ). nodes t s cs n y p ++ listed t s cs n zs i) b ∙ ap (λ (u : List Node). u ++ listed t s cs n zs (after t s cs n x p)) a;
          able = λ zs h. (f, subst (λ (i : ℕ). AllAble t s cs n zs i) (flip b) h);
          less = λ zs. omega (arith, c, ap (λ (i : ℕ). to_do t s cs n zs i) b);
        }

  -- two: y, and z behind it
  module _ (x y z : Task) (p : ℕ) where
    pub step-two : p ≤ length s
        → nodes t s cs n y p ++ nodes t s cs n z (after t s cs n y p) ≡ nodes t s cs n x p
        → after t s cs n z (after t s cs n y p) ≡ after t s cs n x p
        → Able t s cs n y p → Able t s cs n z (after t s cs n y p)
        → cost_of (length s) y p + cost_of (length s) z (after t s cs n y p) + 1 ≤ cost_of (length s) x p
        → Step t s cs n x p (y ∷ z ∷ []) p
    unfolding listed to_do
    step-two l a b i j c =
        record {
          place = l;
          same = λ zs.
              flip (append_assoc (nodes t s cs n y p) (nodes t s cs n z (after t s cs n y p)) (listed t s cs n zs (after t s cs n z (after t s cs n y p))))
              ∙ ap (λ (u : List Node). u ++ listed t s cs n zs (after t s cs n z (after t s cs n y p))) a
              ∙ ap (λ (u : ℕ). nodes t s cs n x p ++ listed t s cs n zs u) b;
          able = λ zs m. (i, (j, subst (λ (u : ℕ). AllAble t s cs n zs u) (flip b) m));
          less = λ zs. omega (arith, c, ap (λ (u : ℕ). to_do t s cs n zs u) b);
        }

  -- a task that comes to one, which comes to others
  module _ (x y : Task) (p q r : ℕ) (ys : List Task) where
    pub step_then : Step t s cs n x p (y ∷ []) q → Step t s cs n y q ys r → Step t s cs n x p ys r
    unfolding listed to_do
    step_then a b =
        record {
          place = b.place;
          same = λ zs. b.same zs ∙ a.same zs;
          able = λ zs m. b.able zs (a.able zs m).1;
          less = λ zs. omega (arith, a.less zs, b.less zs);
        }

  -- a step before others
  pub step-moves : (x : Task) (p q : ℕ) (ys zs : List Task) → Step t s cs n x p ys q → Moves t s cs n (x ∷ zs) p (ys ++ zs) q 1
  unfolding listed to_do
  step-moves x p q ys zs h = record { place = h.place; same = h.same zs; able = λ a. h.able zs a.1; less = h.less zs }

  -- the same tasks
  pub moves-same : (xs ys : List Task) (p : ℕ) → p ≤ length s → ys ≡ xs → Moves t s cs n xs p ys p 0
  moves-same xs ys p l e =
      record {
        place = l;
        same = ap (λ (zs : List Task). listed t s cs n zs p) e;
        able = subst (λ (zs : List Task). AllAble t s cs n zs p) (flip e);
        less = omega (arith, ap (λ (zs : List Task). to_do t s cs n zs p) e);
      }

  -- one behind the other
  pub moves-on : (xs ys zs : List Task) (p q r c : ℕ) → Moves t s cs n xs p ys q c → zs ≡ ys → q ≡ r → Moves t s cs n xs p zs r c
  moves-on xs ys zs p q r c h e f =
      subst (λ (i : ℕ). Moves t s cs n xs p zs i c) f (subst (λ (l : List Task). Moves t s cs n xs p l q c) (flip e) h)

  pub moves-less : (xs ys : List Task) (p q : ℕ) → Moves t s cs n xs p ys q 1 → Moves t s cs n xs p ys q 0
  moves-less xs ys p q h = record { place = h.place; same = h.same; able = h.able; less = omega (arith, h.less) }
