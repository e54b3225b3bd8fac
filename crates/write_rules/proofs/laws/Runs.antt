-- The ranges that a class is written with are its runs, ascending, and nothing else is (01, Writing). Assumes nothing.
use Rattle.std.specs.Prelude.{ℕ, zero, suc, ◌+◌, ◌-◌, ◌≤◌, ◌<◌, ◌≡◌, Bool, ◌⊎◌, get_or}
use Rattle.std.proofs.Math.Path.{refl}
use Rattle.std.proofs.Common.{sym, ap, ap₂, ◌∙◌, subst, true≢false, arith}
use Rattle.std.proofs.Math.Bool.{true, false}
use Rattle.std.proofs.lemmas.Bool.{false≢true}
use mathlib.Core.List.{List, [], ◌∷◌}
use Rattle.std.proofs.Math.Logic.{inl, inr, ⊎_elim}
use Rattle.std.proofs.Math.Option.{Option, none, some}
use Rattle.base_facts.specs.laws.Numbers.{lt-or-ge}
use Rattle.read_tokens.specs.Chars.{Range, range}
use Rattle.write_rules.specs.Writing.{runs}
use Rattle.write_rules.specs.Runs.{has, ClassRun, Each, Covers, Ascending, RunsOf}

-- ── the ranges of `runs` are runs; m are the marks of the whole class, l those from byte i on ──
module _ (m : List Bool) where
  abbrev From : ℕ → List Bool → Type 0
  From i l = (b : ℕ) → has m (i + b) ≡ has l b

  from_next : (i : ℕ) (x : Bool) (l : List Bool) → From i (x ∷ l) → From (suc i) l
  from_next i x l f b = let q : suc i + b ≡ i + suc b = omega arith in ap (has m) q ∙ f (suc b)

  here : (i : ℕ) (x : Bool) (l : List Bool) → From i (x ∷ l) → has m i ≡ x
  here i x l f = let q : i ≡ i + 0 = omega arith in ap (has m) q ∙ f 0

  past : (i b : ℕ) → From i [] → i ≤ b → has m b ≡ false
  past i b f h = let q : b ≡ i + (b - i) = omega arith in ap (has m) q ∙ f (b - i)

  -- what is known of the run that is open
  pub record Opened (r : Range) (i : ℕ) : Type 0 where
    pub order : r.lo ≤ r.hi
    pub until : suc r.hi ≡ i
    pub inside : (b : ℕ) → r.lo ≤ b → b ≤ r.hi → has m b ≡ true
    pub before : (b : ℕ) → suc b ≡ r.lo → has m b ≡ false

  abbrev Open : Option Range → ℕ → Type 0
  Open none i = (b : ℕ) → suc b ≡ i → has m b ≡ false
  Open (some r) i = Opened r i

  opens : (i : ℕ) → Open none i → has m i ≡ true → Opened (range i i) (suc i)
  opens i u e =
      record { order = omega arith; until = refl; inside = λ b h k. let q : b ≡ i = omega (arith, h, k) in ap (has m) q ∙ e; before = u }

  grows : (r : Range) (i : ℕ) → Opened r i → has m i ≡ true → Opened (range r.lo i) (suc i)
  grows r i u e = record {
    order = omega (arith, u.order, u.until);
    until = refl;
    inside = λ b h k. ⊎_elim (λ (l : b < i). u.inside b h (omega (arith, l, u.until))) (λ (l : i ≤ b). let q : b ≡ i = omega (arith, k, l) in ap (has m) q ∙ e) (lt-or-ge b i);
    before = u.before;
  }

  closes : (r : Range) (i : ℕ) → Opened r i → has m i ≡ false → ClassRun m r
  closes r i u e = record { order = u.order; inside = u.inside; before = u.before; behind = ap (has m) u.until ∙ e }

  shut : (i : ℕ) → has m i ≡ false → Open none (suc i)
  shut i e b q = let z : b ≡ i = omega (arith, q) in ap (has m) z ∙ e

  each-run : (o : Option Range) (i : ℕ) (l : List Bool) → From i l → Open o i → Each (ClassRun m) (runs o i l)
  unfolding runs
  each-run none i [] f u = tt
  each-run (some r) i [] f u = (closes r i u (past i i f (omega arith)), tt)
  each-run none i (false ∷ l) f u = each-run none (suc i) l (from_next i false l f) (shut i (here i false l f))
  each-run none i (true ∷ l) f u = each-run (some (range i i)) (suc i) l (from_next i true l f) (opens i u (here i true l f))
  each-run (some r) i (false ∷ l) f u = (closes r i u (here i false l f), each-run none (suc i) l (from_next i false l f) (shut i (here i false l f)))
  each-run (some r) i (true ∷ l) f u = each-run (some (range r.lo i)) (suc i) l (from_next i true l f) (grows r i u (here i true l f))

  -- where a byte from which on all runs begin
  abbrev Low : ℕ → Option Range → ℕ → Type 0
  Low k none i = k < i
  Low k (some r) i = (k < r.lo) × (k < i)

  runs-low : (k : ℕ) (o : Option Range) (i : ℕ) (l : List Bool) → Low k o i → Each (λ s. k < s.lo) (runs o i l)
  unfolding runs
  runs-low k none i [] h = tt
  runs-low k (some r) i [] h = (h.0, tt)
  runs-low k none i (false ∷ l) h = runs-low k none (suc i) l (omega arith)
  runs-low k none i (true ∷ l) h = runs-low k (some (range i i)) (suc i) l (h, omega arith)
  runs-low k (some r) i (false ∷ l) h = (h.0, runs-low k none (suc i) l (omega (arith, h.1)))
  runs-low k (some r) i (true ∷ l) h = runs-low k (some (range r.lo i)) (suc i) l (h.0, omega (arith, h.1))

  abbrev Until : Option Range → ℕ → Type 0
  Until none i = Unit {0}
  Until (some r) i = suc r.hi ≡ i

  runs-ascend : (o : Option Range) (i : ℕ) (l : List Bool) → Until o i → Ascending (runs o i l)
  unfolding runs
  runs-ascend none i [] u = tt
  runs-ascend (some r) i [] u = (tt, tt)
  runs-ascend none i (false ∷ l) u = runs-ascend none (suc i) l tt
  runs-ascend none i (true ∷ l) u = runs-ascend (some (range i i)) (suc i) l refl
  runs-ascend (some r) i (false ∷ l) u = (runs-low r.hi none (suc i) l (omega (arith, u)), runs-ascend none (suc i) l tt)
  runs-ascend (some r) i (true ∷ l) u = runs-ascend (some (range r.lo i)) (suc i) l refl

  -- a byte of the class that is still to be covered
  abbrev Left : Option Range → ℕ → ℕ → Type 0
  Left none i b = i ≤ b
  Left (some r) i b = (r.lo ≤ b) × (suc r.hi ≡ i)

  later : (i b : ℕ) → has m i ≡ false → has m b ≡ true → i ≤ b → suc i ≤ b
  later i b e h l = ⊎_elim (λ (k : i < b). k) (λ (k : b ≤ i). let q : b ≡ i = omega (arith, k, l) in absurd (false≢true (sym e ∙ sym (ap (has m) q) ∙ h))) (lt-or-ge i b)

  runs-all : (o : Option Range) (i : ℕ) (l : List Bool) → From i l → (b : ℕ) → has m b ≡ true → Left o i b → Covers (runs o i l) b
  unfolding runs
  runs-all none i [] f b h k = absurd (false≢true (sym (past i b f k) ∙ h))
  runs-all (some r) i [] f b h k =
      ⊎_elim (λ (q : b < i). inl (k.0, omega (arith, q, k.1))) (λ (q : i ≤ b). absurd (false≢true (sym (past i b f q) ∙ h))) (lt-or-ge b i)
  runs-all none i (false ∷ l) f b h k = runs-all none (suc i) l (from_next i false l f) b h (later i b (here i false l f) h k)
  runs-all none i (true ∷ l) f b h k = runs-all (some (range i i)) (suc i) l (from_next i true l f) b h (k, refl)
  runs-all (some r) i (false ∷ l) f b h k =
      ⊎_elim (λ (q : b < i). inl (k.0, omega (arith, q, k.1)))
      (λ (q : i ≤ b). inr (runs-all none (suc i) l (from_next i false l f) b h (later i b (here i false l f) h q))) (lt-or-ge b i)
  runs-all (some r) i (true ∷ l) f b h k = runs-all (some (range r.lo i)) (suc i) l (from_next i true l f) b h (k.0, refl)

-- a class is written with its runs
pub class-runs : (l : List Bool) → RunsOf l (runs none 0 l)
class-runs l = record {
  each = each-run l none 0 l (λ b. ap (has l) (let q : 0 + b ≡ b = omega arith in q)) (λ b q. absurd (omega (arith, q)));
  ascending = runs-ascend l none 0 l tt;
  all = λ b h. runs-all l none 0 l (λ c. ap (has l) (let q : 0 + c ≡ c = omega arith in q)) b h (omega arith);
}

-- ── nothing else is ──
module _ (m : List Bool) where
  -- the same of the bytes from k on
  record From-on (k : ℕ) (rs : List Range) : Type 0 where
    each : Each (ClassRun m) rs
    low : Each (λ s. k ≤ s.lo) rs
    ascending : Ascending rs
    all : (b : ℕ) → k ≤ b → has m b ≡ true → Covers rs b

  below_all : (k b : ℕ) (rs : List Range) → b < k → Each (λ s. k ≤ s.lo) rs → Covers rs b → ⊥
  below_all k b [] h e c = c
  below_all k b (r ∷ rs) h e (inl c) = omega (arith, e.0, c.0)
  below_all k b (r ∷ rs) h e (inr c) = below_all k b rs h e.1 c

  weaker : (k : ℕ) (j : ℕ) (rs : List Range) → k ≤ suc j → Each (λ s. j < s.lo) rs → Each (λ s. k ≤ s.lo) rs
  weaker k j [] h e = tt
  weaker k j (r ∷ rs) h e = (omega (arith, e.0), weaker k j rs h e.1)

  -- the first of the ranges begins no later than any byte of the class
  first-low : (k : ℕ) (r s : Range) (rs ss : List Range) → From-on k (r ∷ rs) → From-on k (s ∷ ss) → r.lo < s.lo → ⊥
  first-low k r s rs ss f g h =
      let e : ClassRun m r = f.each.0 in
      let t : ClassRun m s = g.each.0 in
      below_all s.lo r.lo (s ∷ ss) h (omega arith, weaker s.lo s.hi ss (omega (arith, t.order)) g.ascending.0)
      (g.all r.lo f.low.0 (e.inside r.lo (omega arith) e.order))

  -- and none ends early
  no-earlier : (r s : Range) → ClassRun m r → ClassRun m s → r.lo ≡ s.lo → r.hi < s.hi → ⊥
  no-earlier r s e t q h = false≢true (sym e.behind ∙ t.inside (suc r.hi) (omega (arith, q, e.order)) h)

  same-range : (r s : Range) → r.lo ≡ s.lo → r.hi ≡ s.hi → r ≡ s
  same-range r s p q = ap₂ range p q

  on : (k : ℕ) (r : Range) (rs : List Range) → From-on k (r ∷ rs) → From-on (suc r.hi) rs
  on k r rs f = record {
    each = f.each.1;
    low = f.ascending.0;
    ascending = f.ascending.1;
    all = λ b l h. go b l (f.all b (omega (arith, l, f.low.0, f.each.0.order)) h);
  }
    where
      go : (b : ℕ) → suc r.hi ≤ b → Covers (r ∷ rs) b → Covers rs b
      go b l (inl c) = absurd (omega (arith, l, c.1))
      go b l (inr c) = c

  only-from : (k : ℕ) (rs ss : List Range) → From-on k rs → From-on k ss → rs ≡ ss
  only-from k [] [] f g = refl
  only-from k [] (s ∷ ss) f g = let t : ClassRun m s = g.each.0 in absurd (f.all s.lo g.low.0 (t.inside s.lo (omega arith) t.order))
  only-from k (r ∷ rs) [] f g = let e : ClassRun m r = f.each.0 in absurd (g.all r.lo f.low.0 (e.inside r.lo (omega arith) e.order))
  only-from k (r ∷ rs) (s ∷ ss) f g =
      let a : r.lo < s.lo → ⊥ = first-low k r s rs ss f g in
      let b : s.lo < r.lo → ⊥ = first-low k s r ss rs g f in
      let p : r.lo ≡ s.lo = omega (arith, a, b) in
      let c : r.hi < s.hi → ⊥ = no-earlier r s f.each.0 g.each.0 p in
      let d : s.hi < r.hi → ⊥ = no-earlier s r g.each.0 f.each.0 (sym p) in
      let q : r.hi ≡ s.hi = omega (arith, c, d) in
      ap₂ (λ (x : Range) (l : List Range). x ∷ l) (same-range r s p q)
      (only-from (suc r.hi) rs ss (on k r rs f) (subst (λ (j : ℕ). From-on (suc j) ss) (sym q) (on k s ss g)))

  low-all : (rs : List Range) → Each (λ s. 0 ≤ s.lo) rs
  low-all [] = tt
  low-all (r ∷ rs) = (omega arith, low-all rs)

  from-0 : (rs : List Range) → RunsOf m rs → From-on 0 rs
  from-0 rs w = record { each = w.each; low = low-all rs; ascending = w.ascending; all = λ b l h. w.all b h }

pub class-runs-only : (l : List Bool) (rs : List Range) → RunsOf l rs → rs ≡ runs none 0 l
class-runs-only l rs w = only-from l 0 rs (runs none 0 l) (from-0 l rs w) (from-0 l (runs none 0 l) (class-runs l))
