-- Expressions by number: parts come before wholes, and ε of a body. Assumes nothing.
use Prim.Native.Nat.{ℕ, zero, suc, ◌+◌, ◌-◌, ◌≤◌, ◌<◌}
use Rattle.std.specs.Prelude.{◌≡◌, Bool, length, get_or}
use Rattle.std.proofs.Math.Path.{refl, ap₂}
use Rattle.std.proofs.Common.{ap, ◌∙◌, subst, arith}
use Rattle.std.proofs.Math.Bool.{◌&&◌, ◌||◌}
use mathlib.Core.List.{List, [], ◌∷◌, ◌++◌}
use Rattle.std.proofs.Math.Option.{Option, none, some}
use Rattle.read_tokens.specs.Token.{Leaf}
use Rattle.grammar.specs.Exp.{Exp, sym as uses, ter, seq, alt, opt, star, plus, ahead, never, size}
use Rattle.grammar.specs.Empty.{has_empty}
use Rattle.grammar.specs.Parts.{Part, terminal, occurs, sequence, choice, option, repeat, repeat1, affirms, denies, last, parts_of, parts_all}
use Rattle.lake_rules.specs.Beginning.{Beginning, right_empty, root_eps, begin_by}
use Rattle.grammar_table.specs.Holds.{present, roots_from}
use Rattle.lake_step_one.specs.Proper.{Sound, SoundAll}
use Rattle.grammar_table.specs.laws.Parts.{size-pos, total, parts-long, Seg, seg-left, seg-right, seg-one}

-- of r symbols and x terminals, and parts before wholes
abbrev pub Ok : ℕ → ℕ → ℕ → Part → Type 0
Ok r x i (terminal y) = y < x
Ok r x i (occurs s) = s < r
Ok r x i (sequence a b) = (a < i) × (b < i)
Ok r x i (choice a b) = (a < i) × (b < i)
Ok r x i (option a) = a < i
Ok r x i (repeat a) = a < i
Ok r x i (repeat1 a) = a < i
Ok r x i (affirms a) = a < i
Ok r x i (denies a) = a < i

module _ (t : Leaf → ℕ) where
  -- ---- parts before wholes
  module _ (r x : ℕ) where
    abbrev pub OkAll : ℕ → List Part → Type 0
    OkAll o [] = Unit {0}
    OkAll o (p ∷ ps) = Ok r x o p × OkAll (suc o) ps

    ok-append : (o n : ℕ) (ps qs : List Part) → length ps ≡ n → OkAll o ps → OkAll (o + n) qs → OkAll o (ps ++ qs)
    ok-append o n [] qs e h k = subst (λ (j : ℕ). OkAll j qs) (let q : o + n ≡ o = omega arith in q) k
    ok-append o zero (p ∷ ps) qs e h k = let z : ⊥ = omega arith in absurd z
    ok-append o (suc n) (p ∷ ps) qs e h k = (h.0, ok-append (suc o) n ps qs (omega arith) h.1 (subst (λ (j : ℕ). OkAll j qs) (let q : o + suc n ≡ suc o + n = omega arith in q) k))

    pub ok_at : (o : ℕ) (ps : List Part) (d : Part) → OkAll o ps → (i : ℕ) → i < length ps → Ok r x (o + i) (get_or ps i d)
    ok_at o [] d h i l = let z : ⊥ = omega arith in absurd z
    ok_at o (p ∷ ps) d h zero l = subst (λ (j : ℕ). Ok r x j p) (let q : o ≡ o + 0 = omega arith in q) h.0
    ok_at o (p ∷ ps) d h (suc i) l = subst (λ (j : ℕ). Ok r x j (get_or ps i d)) (let q : suc o + i ≡ o + suc i = omega arith in q) (ok_at (suc o) ps d h.1 i (omega arith))

    pub parts-ok : (e : Exp ℕ) (o : ℕ) → Sound t r x e → OkAll o (parts_of t o e)
    unfolding parts_of
    parts-ok (uses s) o h = (h, tt)
    parts-ok (ter l) o h = (h.0, tt)
    parts-ok (seq a b) o h =
        ok-append o (size a) (parts_of t o a) (parts_of t (o + size a) b ++ (sequence (last o a) (last (o + size a) b) ∷ [])) (parts-long t a o) (parts-ok a o h.0)
        (ok-append (o + size a) (size b) (parts_of t (o + size a) b) (sequence (last o a) (last (o + size a) b) ∷ []) (parts-long t b (o + size a)) (parts-ok b (o + size a) h.1)
        ((omega (arith, size-pos a), omega (arith, size-pos b)), tt))
    parts-ok (alt a b) o h =
        ok-append o (size a) (parts_of t o a) (parts_of t (o + size a) b ++ (choice (last o a) (last (o + size a) b) ∷ [])) (parts-long t a o) (parts-ok a o h.0)
        (ok-append (o + size a) (size b) (parts_of t (o + size a) b) (choice (last o a) (last (o + size a) b) ∷ []) (parts-long t b (o + size a)) (parts-ok b (o + size a) h.1)
        ((omega (arith, size-pos a), omega (arith, size-pos b)), tt))
    parts-ok (opt a) o h = ok-append o (size a) (parts_of t o a) (option (last o a) ∷ []) (parts-long t a o) (parts-ok a o h) (omega (arith, size-pos a), tt)
    parts-ok (star a) o h = ok-append o (size a) (parts_of t o a) (repeat (last o a) ∷ []) (parts-long t a o) (parts-ok a o h) (omega (arith, size-pos a), tt)
    parts-ok (plus a) o h = ok-append o (size a) (parts_of t o a) (repeat1 (last o a) ∷ []) (parts-long t a o) (parts-ok a o h) (omega (arith, size-pos a), tt)
    parts-ok (ahead a) o h = ok-append o (size a) (parts_of t o a) (affirms (last o a) ∷ []) (parts-long t a o) (parts-ok a o h) (omega (arith, size-pos a), tt)
    parts-ok (never a) o h = ok-append o (size a) (parts_of t o a) (denies (last o a) ∷ []) (parts-long t a o) (parts-ok a o h) (omega (arith, size-pos a), tt)

    pub all-ok : (es : List (Exp ℕ)) (o : ℕ) → SoundAll t r x es → OkAll o (parts_all t o es)
    unfolding parts_all
    all-ok [] o h = tt
    all-ok (e ∷ es) o h = ok-append o (size e) (parts_of t o e) (parts_all t (o + size e) es) (parts-long t e o) (parts-ok e o h.0) (all-ok es (o + size e) h.1)

  -- ---- ε
  module _ (at : ℕ → Part) (d : Part) where
    -- ε of the expression with a number, where each is what its rule says of its parts
    module _ (m : ℕ → Bool) (bs : ℕ → Beginning) (n r x : ℕ) (rule : (i : ℕ) → i < n → bs i ≡ begin_by m bs (at i)) where
      by-rule : (i : ℕ) (p : Part) → i < n → at i ≡ p → (bs i).eps ≡ (begin_by m bs p).eps
      by-rule i p l e = ap (λ (z : Beginning). z.eps) (rule i l ∙ ap (begin_by m bs) e)

      pub eps-of : (e : Exp ℕ) (o : ℕ) → Sound t r x e → Seg t at d o (parts_of t o e) → o + size e ≤ n → (bs (last o e)).eps ≡ has_empty m e
      unfolding parts_of size has_empty
      eps-of (uses s) o h g l = by-rule (o + 1 - 1) (occurs s) (omega arith) (seg-one t at d o (o + 1 - 1) (occurs s) g (omega arith))
      eps-of (ter y) o h g l = by-rule (o + 1 - 1) (terminal (t y)) (omega arith) (seg-one t at d o (o + 1 - 1) (terminal (t y)) g (omega arith))
      eps-of (seq a b) o h g l =
          let A = parts_of t o a in let B = parts_of t (o + size a) b in let p = sequence (last o a) (last (o + size a) b) in
          let gb : Seg t at d (o + size a) (B ++ (p ∷ [])) = seg-right t at d o (size a) A (B ++ (p ∷ [])) (parts-long t a o) g in
          by-rule (last o (seq a b)) p (omega arith) (seg-one t at d (o + size a + size b) (last o (seq a b)) p
          (seg-right t at d (o + size a) (size b) B (p ∷ []) (parts-long t b (o + size a)) gb) (omega arith))
          ∙ ap₂ ◌&&◌ (eps-of a o h.0 (seg-left t at d o A (B ++ (p ∷ [])) g) (omega arith)) (eps-of b (o + size a) h.1 (seg-left t at d (o + size a) B (p ∷ []) gb) (omega arith))
      eps-of (alt a b) o h g l =
          let A = parts_of t o a in let B = parts_of t (o + size a) b in let p = choice (last o a) (last (o + size a) b) in
          let gb : Seg t at d (o + size a) (B ++ (p ∷ [])) = seg-right t at d o (size a) A (B ++ (p ∷ [])) (parts-long t a o) g in
          by-rule (last o (alt a b)) p (omega arith) (seg-one t at d (o + size a + size b) (last o (alt a b)) p
          (seg-right t at d (o + size a) (size b) B (p ∷ []) (parts-long t b (o + size a)) gb) (omega arith))
          ∙ ap₂ ◌||◌ (eps-of a o h.0 (seg-left t at d o A (B ++ (p ∷ [])) g) (omega arith)) (eps-of b (o + size a) h.1 (seg-left t at d (o + size a) B (p ∷ []) gb) (omega arith))
      eps-of (opt a) o h g l = by-rule (last o (opt a)) (option (last o a)) (omega arith)
          (seg-one t at d (o + size a) (last o (opt a)) (option (last o a)) (seg-right t at d o (size a) (parts_of t o a) (option (last o a) ∷ []) (parts-long t a o) g) (omega arith))
      eps-of (star a) o h g l = by-rule (last o (star a)) (repeat (last o a)) (omega arith)
          (seg-one t at d (o + size a) (last o (star a)) (repeat (last o a)) (seg-right t at d o (size a) (parts_of t o a) (repeat (last o a) ∷ []) (parts-long t a o) g) (omega arith))
      eps-of (plus a) o h g l =
          by-rule (last o (plus a)) (repeat1 (last o a)) (omega arith) (seg-one t at d (o + size a) (last o (plus a)) (repeat1 (last o a))
          (seg-right t at d o (size a) (parts_of t o a) (repeat1 (last o a) ∷ []) (parts-long t a o) g) (omega arith))
          ∙ eps-of a o h (seg-left t at d o (parts_of t o a) (repeat1 (last o a) ∷ []) g) (omega arith)
      eps-of (ahead a) o h g l = by-rule (last o (ahead a)) (affirms (last o a)) (omega arith)
          (seg-one t at d (o + size a) (last o (ahead a)) (affirms (last o a)) (seg-right t at d o (size a) (parts_of t o a) (affirms (last o a) ∷ []) (parts-long t a o) g) (omega arith))
      eps-of (never a) o h g l = by-rule (last o (never a)) (denies (last o a)) (omega arith)
          (seg-one t at d (o + size a) (last o (never a)) (denies (last o a)) (seg-right t at d o (size a) (parts_of t o a) (denies (last o a) ∷ []) (parts-long t a o) g) (omega arith))

      -- of each body
      pub eps-body : (os : List (Option (Exp ℕ))) (o : ℕ) → SoundAll t r x (present os) → Seg t at d o (parts_all t o (present os)) → o + total (present os) ≤ n → (s : ℕ)
          → root_eps bs (get_or (roots_from o os) s 0) ≡ right_empty m (get_or os s none)
      unfolding parts_all roots_from present total
      eps-body [] o h g l s = refl
      eps-body (none ∷ os) o h g l zero = refl
      eps-body (none ∷ os) o h g l (suc s) = eps-body os o h g l s
      eps-body (some e ∷ os) o h g l zero = eps-of e o h.0 (seg-left t at d o (parts_of t o e) (parts_all t (o + size e) (present os)) g) (omega arith)
      eps-body (some e ∷ os) o h g l (suc s) =
          eps-body os (o + size e) h.1 (seg-right t at d o (size e) (parts_of t o e) (parts_all t (o + size e) (present os)) (parts-long t e o) g) (omega arith) s
