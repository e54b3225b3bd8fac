-- A desk's parents, and what stays of it where a level is entered. Assumes nothing.
use Rattle.std.specs.Prelude.{ℕ, zero, suc, ◌+◌, ◌≤◌, ◌<◌, ◌≡◌, ◌⊎◌, List, set}
use Rattle.std.proofs.Common.{◌∙◌, subst, sym as flip, inl, inr, arith, length-set, get_or-set_other}
use Rattle.match_desk.specs.steps.Desk.{returns_at, parents_at, parent_of, kind_of, left_part, right_part, Parted, Desk}

-- ── parents that stay ──
pub keep : (op x y z : ℕ) (p k k' : ℕ → ℕ) → Parted op p x y z → Parted op k x y z → ((i : ℕ) → p i ≡ x → k' i ≡ k i) → Parted op k' x y z
keep zero x y z p k k' a b h = tt
keep (suc zero) x y z p k k' a b h = tt
keep (suc (suc zero)) x y z p k k' a b h = (h y a.0 ∙ b.0, h z a.1 ∙ b.1, b.2)
keep (suc (suc (suc zero))) x y z p k k' a b h = (h y a.0 ∙ b.0, h z a.1 ∙ b.1, b.2)
keep (suc (suc (suc (suc zero)))) x y z p k k' a b h = h y a ∙ b
keep (suc (suc (suc (suc (suc zero))))) x y z p k k' a b h = h y a ∙ b
keep (suc (suc (suc (suc (suc (suc zero)))))) x y z p k k' a b h = h y a ∙ b
keep (suc (suc (suc (suc (suc (suc (suc op))))))) x y z p k k' a b h = tt

module _ (t k : List ℕ) (m : ℕ) (desk : Desk t k m) (few : m ≤ 1024) where
  -- a parent comes behind its parts
  by-range : (x e : ℕ) → (parent_of k x ≡ 0) ⊎ ((x < parent_of k x) × (parent_of k x ≤ m)) → parent_of k x ≡ e → 0 < e → (x < e) × (e ≤ m)
  by-range x e (inl z) q l = absurd (omega (arith, z, q, l))
  by-range x e (inr h) q l = (omega (arith, h.0, q), omega (arith, h.1, q))

  pub parent_above : (x e : ℕ) → parent_of k x ≡ e → 0 < e → (x < e) × (e ≤ m)
  parent_above x e q l = by-range x e (desk.range x) q l

  by-past : (x : ℕ) → (parent_of k x ≡ 0) ⊎ ((x < parent_of k x) × (parent_of k x ≤ m)) → 1025 ≤ x → parent_of k x ≡ 0
  by-past x (inl z) l = z
  by-past x (inr h) l = absurd (omega (arith, h.0, h.1, few, l))

  -- what is no expression has none
  pub no-parent : (x : ℕ) → 1025 ≤ x → parent_of k x ≡ 0
  no-parent x l = by-past x (desk.range x) l

  -- ── a word is stored that is neither a mark nor a parent ──
  module _ (j x : ℕ) (behind : returns_at ≤ j) (before : j < parents_at) where
    abbrev desk' : List ℕ
    desk' = set k j x

    parents-same : (i : ℕ) → parent_of desk' i ≡ parent_of k i
    parents-same i = get_or-set_other k j (parents_at + i) x 0 (λ e. omega (arith, e, before))

    pub desk-same : Desk t (set k j x) m
    desk-same =
        record {
          size = length-set k j x ∙ desk.size;
          parts = λ e l h.
              keep (kind_of t e) e (left_part t e) (right_part t e) (λ i. parent_of k i) (λ i. parent_of k i) (λ i. parent_of desk' i) (desk.parts e l h) (desk.parts e l h)
              (λ i q. parents-same i);
          roots = λ r l. parents-same _ ∙ desk.roots r l;
          range = λ i. subst (λ (a : ℕ). (a ≡ 0) ⊎ ((i < a) × (a ≤ m))) (flip (parents-same i)) (desk.range i);
          silent = λ e l h. desk.silent e l (flip (get_or-set_other k j e x 0 (λ q. omega (arith, q, l, few, behind))) ∙ h);
        }

  -- ── a level is entered ──
  module _ (d x : ℕ) (level : d ≤ 256) where
    pub parents-stay : (i : ℕ) → parent_of (set k (returns_at + d) x) i ≡ parent_of k i
    parents-stay i = parents-same (returns_at + d) x (omega arith) (omega (arith, level)) i

    pub desk-stays : Desk t (set k (returns_at + d) x) m
    desk-stays = desk-same (returns_at + d) x (omega arith) (omega (arith, level))
