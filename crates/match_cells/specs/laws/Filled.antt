-- Cells that are filled in an order that puts first-called symbols first are right: each says what its symbol means at its place.
-- And what stands behind them stays as it was. Assumes nothing.
use Prim.Native.Nat.{ℕ, zero, suc, ◌+◌, ◌*◌, ◌≤◌, ◌<◌}
use Rattle.std.specs.Prelude.{◌≡◌, Bool, ◌⊎◌, get_or}
use Rattle.std.proofs.Math.Path.{refl}
use Rattle.std.proofs.Common.{subst, ◌∙◌, sym as flip, inl, inr, arith, eq-or-lt_of_le, suc-mul, mul-le-mul_right, get_or-set_same}
use mathlib.Core.List.{List, [], ◌∷◌}
use Rattle.std.proofs.Math.Decide.{ℕ_discrete}
use Rattle.std.proofs.Math.ListN.{length, set, length-set}
use Rattle.std.proofs.Math.Seq.{get_or-set_other}
use Rattle.grammar.specs.Exp.{Exp, sym}
use Rattle.match_eval.specs.Eval.{body_of}
use Rattle.match_cells.specs.Cells.{body_takes, row_of, fill_of, cells}
use Rattle.match_cells.specs.laws.First.{Markings, In, Ordered}
use Rattle.match_cells.specs.laws.Sound.{Means, sym-is}
use Rattle.match_cells.specs.laws.Agrees.{Known, After, FirstAt, ev-right, Right}

-- a cell at a later place stands further on
far : (n p q r x : ℕ) → p < q → r < n → p * n + r < q * n + x
far n p q r x h l = omega (arith, suc-mul p n, mul-le-mul_right {m = suc p} {n = q} n h)

module _ (bodies : List (Exp ℕ)) (s : List ℕ) where
  -- the cells up to the text's end are there: "work cells fewer than R·(n+1)" are refused
  abbrev pub Room : List ℕ → Type 0
  Room cs = (length s + 1) * length bodies ≤ length cs

  kept : (cs : List ℕ) (i v q x : ℕ) → (q * length bodies + x ≡ i → ⊥) → Known bodies s cs q x → Known bodies s (set cs i v) q x
  kept cs i v q x f k = subst (λ (y : ℕ). Means bodies s (sym x) q y) (flip (get_or-set_other cs i (q * length bodies + x) v 0 f)) k

  stored : (cs : List ℕ) (v p r : ℕ) → p ≤ length s → r < length bodies → Room cs → Means bodies s (sym r) p v → Known bodies s (set cs (p * length bodies + r) v) p r
  stored cs v p r h l room k =
      subst (λ (y : ℕ). Means bodies s (sym r) p y)
      (flip (get_or-set_same cs (p * length bodies + r) v 0 (omega (arith, far (length bodies) p (length s + 1) r 0 (omega arith) l)))) k

  pub row-length : (order cs : List ℕ) (p : ℕ) → length (row_of bodies s p order cs) ≡ length cs
  unfolding row_of
  row-length [] cs p = refl
  row-length (r ∷ rs) cs p = row-length rs (set cs (p * length bodies + r) (body_takes bodies s cs r p)) p ∙ length-set cs (p * length bodies + r) (body_takes bodies s cs r p)

  pub fill-length : (order : List ℕ) (p : ℕ) (cs : List ℕ) → length (fill_of bodies s p order cs) ≡ length cs
  unfolding fill_of
  fill-length order zero cs = refl
  fill-length order (suc p) cs = fill-length order p (row_of bodies s p order cs) ∙ row-length order cs p

  module _ (m : ℕ → Bool) (marked : Markings m bodies) where
    body-right : (cs : List ℕ) (p r : ℕ) → p ≤ length s → After bodies s cs p → FirstAt bodies s m cs (body_of bodies r) p → Means bodies s (sym r) p (body_takes bodies s cs r p)
    unfolding body_takes
    body-right cs p r h a f = sym-is bodies s r p _ (ev-right bodies s m marked cs r p h a f)

    pub row-right : (order done : List ℕ) (p : ℕ) (cs : List ℕ) → p ≤ length s → Room cs → After bodies s cs p
        → ((x : ℕ) → In x done → x < length bodies → Known bodies s cs p x) → Ordered m bodies done order
        → After bodies s (row_of bodies s p order cs) p × ((x : ℕ) → x < length bodies → Known bodies s (row_of bodies s p order cs) p x)
    unfolding row_of
    row-right [] done p cs h room a d o = (a, λ x l. d x (o x l) l)
    row-right (r ∷ rs) done p cs h room a d o =
        row-right rs (r ∷ done) p next h
        (rw (length-set cs (p * length bodies + r) (body_takes bodies s cs r p)) room)
        (λ q x l i j. kept cs (p * length bodies + r) (body_takes bodies s cs r p) q x (λ e. omega (arith, far (length bodies) p q r x l o.0)) (a q x l i j))
        known
        o.2
      where
        next : List ℕ
        next = set cs (p * length bodies + r) (body_takes bodies s cs r p)

        now : Known bodies s next p r
        now = stored cs (body_takes bodies s cs r p) p r h o.0 room (body-right cs p r h a (λ x c l. d x (o.1 x c l) l))

        other : (x : ℕ) → Dec (x ≡ r) → In x done → x < length bodies → Known bodies s next p x
        other x (yes e) i l = subst (λ (y : ℕ). Known bodies s next p y) (flip e) now
        other x (no f) i l = kept cs (p * length bodies + r) (body_takes bodies s cs r p) p x (λ e. f (omega arith)) (d x i l)

        known : (x : ℕ) → In x (r ∷ done) → x < length bodies → Known bodies s next p x
        known x (inl e) l = subst (λ (y : ℕ). Known bodies s next p y) (flip e) now
        known x (inr i) l = other x (ℕ_discrete x r) i l

    fill-right : (order : List ℕ) → Ordered m bodies [] order → (p : ℕ) (cs : List ℕ) → p ≤ length s + 1 → Room cs
        → ((q x : ℕ) → p ≤ q → q ≤ length s → x < length bodies → Known bodies s cs q x) → Right bodies s (fill_of bodies s p order cs)
    unfolding fill_of
    fill-right order o zero cs h room a = λ q x i l. a q x (omega arith) i l
    fill-right order o (suc p) cs h room a =
        fill-right order o p (row_of bodies s p order cs) (omega arith) (rw (row-length order cs p) room) (λ q x k i l. go q x i l (eq-or-lt_of_le k))
      where
        both : After bodies s (row_of bodies s p order cs) p × ((x : ℕ) → x < length bodies → Known bodies s (row_of bodies s p order cs) p x)
        both = row-right order [] p cs (omega arith) room (λ q x k i l. a q x k i l) (λ x e. absurd e) o

        go : (q x : ℕ) → q ≤ length s → x < length bodies → (p ≡ q) ⊎ (p < q) → Known bodies s (row_of bodies s p order cs) q x
        go q x i l (inl e) = subst (λ (y : ℕ). Known bodies s (row_of bodies s p order cs) y x) e (both.1 x l)
        go q x i l (inr k) = both.0 q x k i l

    -- the filled cells say what each symbol means, at each place of the text
    pub filled-right : (order old : List ℕ) → Ordered m bodies [] order → Room old → Right bodies s (cells bodies order s old)
    unfolding cells
    filled-right order old o room = fill-right order o (length s + 1) old (omega arith) room (λ k y j w. absurd (omega arith))

    pub row-frame : (order done : List ℕ) (p : ℕ) (cs : List ℕ) (i : ℕ) → p ≤ length s → (length s + 1) * length bodies ≤ i → Ordered m bodies done order
        → get_or (row_of bodies s p order cs) i 0 ≡ get_or cs i 0
    unfolding row_of
    row-frame [] done p cs i h l o = refl
    row-frame (r ∷ rs) done p cs i h l o =
        row-frame rs (r ∷ done) p (set cs (p * length bodies + r) (body_takes bodies s cs r p)) i h l o.2
        ∙ get_or-set_other cs (p * length bodies + r) i (body_takes bodies s cs r p) 0 (λ e. omega (arith, far (length bodies) p (length s + 1) r 0 (omega arith) o.0))

    fill_frame : (order : List ℕ) → Ordered m bodies [] order → (p : ℕ) (cs : List ℕ) (i : ℕ) → p ≤ length s + 1 → (length s + 1) * length bodies ≤ i
        → get_or (fill_of bodies s p order cs) i 0 ≡ get_or cs i 0
    unfolding fill_of
    fill_frame order o zero cs i h l = refl
    fill_frame order o (suc p) cs i h l = fill_frame order o p (row_of bodies s p order cs) i (omega arith) l ∙ row-frame order [] p cs i (omega arith) l o

    -- "Later cells .. stay as they were"
    pub filled-behind : (order old : List ℕ) → Ordered m bodies [] order → (i : ℕ) → (length s + 1) * length bodies ≤ i → get_or (cells bodies order s old) i 0 ≡ get_or old i 0
    unfolding cells
    filled-behind order old o i l = fill_frame order o (length s + 1) old i (omega arith) l

  pub filled-length : (order old : List ℕ) → length (cells bodies order s old) ≡ length old
  unfolding cells
  filled-length order old = fill-length order (length s + 1) old
