-- What the analysis gives an expression now lies within what it gave it before 02, §4: the sets from before, at the numbers from before, solve the rules now,
-- too, and the sets now are the least that do. Assumes nothing.
use Rattle.std.specs.Prelude.{ℕ, zero, suc, ◌≤◌, ◌<◌, ◌≡◌, true, List, [], length, get_or}
use Rattle.std.proofs.Common.{sym, ap, ◌∙◌, subst, inl, inr, ⊎_elim, arith}
use Rattle.std.proofs.Math.Path.{fun_ext}
use Rattle.std.proofs.lemmas.Bool.{false≢true}
use Rattle.std.proofs.Math.ListN.{get_or-eq_default}
use Rattle.base_facts.specs.laws.Numbers.{lt-or-ge}
use Rattle.base_words.specs.Set.{empty}
use Rattle.base_rounds.specs.laws.Pair.{Set2, In2, pair, pair-joins}
use Rattle.grammar.specs.Parts.{Part, terminal, occurs, sequence, choice, option, repeat, repeat1, affirms, denies}
use Rattle.grammar_table.specs.Table.{up_to}
use Rattle.grammar_table.specs.laws.Places.{get_d_any, up_to-long, up_to-at}
use Rattle.lake_rules.specs.Beginning.{Beginning, nothing, root_eps}
use Rattle.lake_rules.specs.Analysis.{Analysis, is_use, uses_alt}
use Rattle.lake_rules.specs.Rules.{InB, OfBody, BeginRule, SucceedRule, AltRule, SetsRule, LeastBy}
use Rattle.lake_rules.specs.laws.Wholes.{Ok}
use Rattle.lake_rules.proofs.laws.Least.{Lawful}
use Rattle.lake_rules.proofs.laws.Uses.{is-occurs, uses-good, uses-least}
use Rattle.lake_before.specs.Before.{alt_before}
use Rattle.lake_step_one.specs.steps.Runs.{renamed}
use Rattle.lake_before.specs.laws.Copies.{BodyIn, Copied}

module _ (r x n m : ℕ) (new old : ℕ → Part) (root before to : ℕ → ℕ) (copy : Copied n m r new old root before to) (ok : (i : ℕ) → i < n → Ok r x i (new i)) where
  -- ── a least solution lies within what another's is, carried over ──
  module _ {A : Type 0} (d : A) (s : List A) (long : length s ≡ m) where
    abbrev carried : List A
    carried = up_to (λ i. get_or s (to i) d) n

    carried-at : (j : ℕ) → get_or carried j d ≡ get_or s (to j) d
    carried-at j =
        ⊎_elim (λ (l : j < n). up_to-at (λ i. get_or s (to i) d) n j d l)
        (λ (l : n ≤ j). get_or-eq_default carried d {n = j} (omega (arith, up_to-long (λ i. get_or s (to i) d) n))
        ∙ sym (get_or-eq_default s d {n = to j} (omega (arith, copy.outside j l)))) (lt-or-ge j n)

  carry : {A : Type 0} (fine : A → Type 0) (In : A → A → Type 0) (d : A) (rule rule' : SetsRule A) (s s' : List A) → LeastBy fine In d n new rule s → LeastBy fine In d m old rule' s'
      → ((i : ℕ) → i < n → (p : Part) → Ok r x i p → rule' (λ j. get_or s' j d) (to i) (renamed to p) → rule (λ j. get_or s' (to j) d) i p)
      → (i : ℕ) → i < n → In (get_or s i d) (get_or s' (to i) d)
  carry {A} fine In d rule rule' s s' least least' step i l =
      let long : length s' ≡ m = least'.solves.sets.long in
      let at : (j : ℕ) → get_or (carried d s' long) j d ≡ get_or s' (to j) d = carried-at d s' long in
      subst (In (get_or s i d)) (at i) (least.within (carried d s' long)
      (record {
        sets = record { long = up_to-long (λ i. get_or s' (to i) d) n; each = λ j q. subst fine (sym (at j)) (least'.solves.sets.each (to j) (copy.inside j q)) };
        rules = λ j q. subst (λ (y : ℕ → A). rule y j (new j)) (sym (fun_ext at))
            (step j q (new j) (ok j q) (subst (rule' (λ k. get_or s' k d) (to j)) (copy.parts j q) (least'.solves.rules (to j) (copy.inside j q))));
      }) i l)

  on : (a b c : List ℕ) → In2 a b → In2 b c → In2 a c
  on a b c p q = (pair-joins r x).trans a b c p q

  -- ── BEGINNING ──
  module _ (y : ℕ → Beginning) (rules : (j : ℕ) → j < m → BeginRule before y j (old j)) where
    eps-root : (j w : ℕ) → j < m → BodyIn old to w j → root_eps (λ i. y (to i)) w ≡ true → (y j).eps ≡ true
    eps-root j zero l h e = absurd (false≢true e)
    eps-root j (suc k) l (inl h) e = subst (λ (i : ℕ). (y i).eps ≡ true) h e
    eps-root j (suc k) l (inr h) e = (subst (BeginRule before y j) h.1 (rules j l)).0.1 e

    begin-step : (i : ℕ) (p : Part) → Ok r x i p → BeginRule before y (to i) (renamed to p) → BeginRule root (λ j. y (to j)) i p
    begin-step i (terminal t) k h = h
    begin-step i (occurs s) k h =
        let b = copy.bodies s k in
        (h.0, λ e. h.1 (subst (λ (w : ℕ). root_eps y w ≡ true) (sym b.1) (eps-root b.0 (root s) b.2 b.3 e)))
    begin-step i (sequence a b) k h = h
    begin-step i (choice a b) k h = h
    begin-step i (option a) k h = h
    begin-step i (repeat a) k h = h
    begin-step i (repeat1 a) k h = h
    begin-step i (affirms a) k h = h
    begin-step i (denies a) k h = h

  -- ── SUCCEED and ALT ──
  module _ (bs bs' : ℕ → Beginning) (bin : (i : ℕ) → InB (bs i) (bs' (to i))) where
    -- where each part of a choice has what the choice has, a body gets what it got
    module _ (y : ℕ → List ℕ) (gives : (j a b : ℕ) → j < m → old j ≡ choice a b → In2 (y j) (y a)) where
      body-step : (i j w : ℕ) → j < m → BodyIn old to w j → In2 (y (to i)) (y j) → OfBody w (λ e. In2 (y (to i)) (y (to e)))
      body-step i j zero l h u = tt
      body-step i j (suc k) l (inl h) u = subst (λ (e : ℕ). In2 (y (to i)) (y e)) (sym h) u
      body-step i j (suc k) l (inr h) u = on (y (to i)) (y j) (y (to k)) u (gives j (to k) h.0 l h.1)

      occurs-step : (i s : ℕ) → s < r → OfBody (before s) (λ e. In2 (y (to i)) (y e)) → OfBody (root s) (λ e. In2 (y (to i)) (y (to e)))
      occurs-step i s k h =
          let b = copy.bodies s k in
          body-step i b.0 (root s) b.2 b.3 (subst (λ (w : ℕ). OfBody w (λ e. In2 (y (to i)) (y e))) b.1 h)

    set-in : (b : ℕ) (z : List ℕ) → In2 (bs' (to b)).set z → In2 (bs b).set z
    set-in b z u = on (bs b).set (bs' (to b)).set z (bin b).0 u

    module _ (y : ℕ → List ℕ) (rules : (j : ℕ) → j < m → SucceedRule bs' before y j (old j)) where
      succeed-step : (i : ℕ) (p : Part) → Ok r x i p → SucceedRule bs' before y (to i) (renamed to p) → SucceedRule bs root (λ j. y (to j)) i p
      succeed-step i (terminal t) k h = tt
      succeed-step i (occurs s) k h = occurs-step y (λ j a b l e. (subst (SucceedRule bs' before y j) e (rules j l)).0) i s k h
      succeed-step i (sequence a b) k h = (h.0, set-in b (y (to a)) h.1, λ e. h.2 ((bin b).1 e))
      succeed-step i (choice a b) k h = h
      succeed-step i (option a) k h = h
      succeed-step i (repeat a) k h = (set-in a (y (to a)) h.0, h.1)
      succeed-step i (repeat1 a) k h = (set-in a (y (to a)) h.0, h.1)
      succeed-step i (affirms a) k h = tt
      succeed-step i (denies a) k h = tt

    module _ (succ succ' : ℕ → List ℕ) (sin : (i : ℕ) → i < n → In2 (succ i) (succ' (to i))) (y : ℕ → List ℕ)
        (rules : (j : ℕ) → j < m → AltRule bs' before succ' y j (old j)) where
      succ-in : (i : ℕ) → i < n → (z : List ℕ) → In2 (succ' (to i)) z → In2 (succ i) z
      succ-in i l z u = on (succ i) (succ' (to i)) z (sin i l) u

      alt-step : (i : ℕ) → i < n → (p : Part) → Ok r x i p → AltRule bs' before succ' y (to i) (renamed to p) → AltRule bs root succ (λ j. y (to j)) i p
      alt-step i l (terminal t) k h = tt
      alt-step i l (occurs s) k h = occurs-step y (λ j a b q e. (subst (AltRule bs' before succ' y j) e (rules j q)).0) i s k h
      alt-step i l (sequence a b) k h = (h.0, λ e. h.1 ((bin a).1 e))
      alt-step i l (choice a b) k h = (h.0, h.1, set-in b (y (to a)) h.2, λ e. succ-in i l (y (to a)) (h.3 ((bin b).1 e)))
      alt-step i l (option a) k h = (h.0, succ-in i l (y (to a)) h.1)
      alt-step i l (repeat a) k h = (h.0, succ-in i l (y (to a)) h.1)
      alt-step i l (repeat1 a) k h = (h.0, succ-in i l (y (to a)) h.1)
      alt-step i l (affirms a) k h = tt
      alt-step i l (denies a) k h = tt

-- ── of two analyses ──
module _ (a a' : Analysis) (r x n m : ℕ) (new old : ℕ → Part) (to : ℕ → ℕ) (copy : Copied n m r new old (λ s. get_or a.roots s 0) (λ s. get_or a'.roots s 0) to)
    (ok : (i : ℕ) → i < n → Ok r x i (new i)) (law : Lawful a r x n new) (law' : Lawful a' r x m old) where
  abbrev root : ℕ → ℕ
  root s = get_or a.roots s 0

  abbrev before : ℕ → ℕ
  before s = get_or a'.roots s 0

  abbrev bs : ℕ → Beginning
  bs i = get_or a.begins i nothing

  abbrev bs' : ℕ → Beginning
  bs' i = get_or a'.begins i nothing

  abbrev succ : ℕ → List ℕ
  succ i = get_or a.succeeds i empty

  abbrev succ' : ℕ → List ℕ
  succ' i = get_or a'.succeeds i empty

  begins-below : (i : ℕ) → i < n → InB (bs i) (bs' (to i))
  begins-below =
      carry r x n m new old root before to copy ok (λ b. Set2 r x b.set) InB nothing (BeginRule root) (BeginRule before) a.begins a'.begins law.begins law'.begins
      (λ i l. begin-step r x n m new old root before to copy ok bs' law'.begins.solves.rules i)

  -- past the end there is nothing
  begins-in : (i : ℕ) → InB (bs i) (bs' (to i))
  begins-in i =
      ⊎_elim (begins-below i)
      (λ (l : n ≤ i).
      subst (λ (b : Beginning). InB b (bs' (to i))) (sym (get_or-eq_default a.begins nothing {n = i} (omega (arith, law.begins.solves.sets.long))))
      (subst (InB nothing) (sym (get_or-eq_default a'.begins nothing {n = to i} (omega (arith, law'.begins.solves.sets.long, copy.outside i l))))
      ((pair r x).le_rfl empty, λ e. e))) (lt-or-ge i n)

  succeeds-in : (i : ℕ) → i < n → In2 (get_or a.succeeds i []) (get_or a'.succeeds (to i) [])
  succeeds-in =
      carry r x n m new old root before to copy ok (Set2 r x) In2 [] (SucceedRule bs root) (SucceedRule bs' before) a.succeeds a'.succeeds law.succeeds law'.succeeds
      (λ i l. succeed-step r x n m new old root before to copy ok bs bs' begins-in (λ j. get_or a'.succeeds j []) law'.succeeds.solves.rules i)

  succ-below : (i : ℕ) → i < n → In2 (succ i) (succ' (to i))
  succ-below i l =
      rw (
        get_d_any a.succeeds i empty [] (omega (arith, law.succeeds.solves.sets.long)),
        get_d_any a'.succeeds (to i) empty [] (omega (arith, law'.succeeds.solves.sets.long, copy.inside i l)),
      )
      (succeeds-in i l)

  pub alts-in : (i : ℕ) → i < n → In2 (get_or a.alts i []) (get_or a'.alts (to i) [])
  alts-in =
      carry r x n m new old root before to copy ok (Set2 r x) In2 [] (AltRule bs root succ) (AltRule bs' before succ') a.alts a'.alts law.alts law'.alts
      (λ i l. alt-step r x n m new old root before to copy ok bs bs' begins-in succ succ' succ-below (λ j. get_or a'.alts j []) law'.alts.solves.rules i l)

  -- ── the union over a lake's uses lies within ALT of the body that it had ──
  use-in : (s j i : ℕ) → before s ≡ suc j → i < n → is_use (new i) s ≡ true → In2 (get_or a.alts i []) (get_or a'.alts j [])
  use-in s j i e l w =
      let y : ℕ → List ℕ = λ k. get_or a'.alts k [] in
      let u : old (to i) ≡ occurs s = copy.parts i l ∙ ap (renamed to) (is-occurs (new i) s w) in
      let h : OfBody (before s) (λ k. In2 (y (to i)) (y k)) = subst (AltRule bs' before succ' y (to i)) u (law'.alts.solves.rules (to i) (copy.inside i l)) in
      (pair-joins r x).trans (get_or a.alts i []) (y (to i)) (y j) (alts-in i l) (subst (λ (k : ℕ). OfBody k (λ k. In2 (y (to i)) (y k))) e h)

  pub uses-long : (s : ℕ) → length (uses_alt new (λ i. get_or a.alts i empty) s n) ≡ 2
  uses-long s = (uses-good r x n new a.alts law.alts.solves.sets s n (omega arith)).two

  pub uses-before : (s : ℕ) → s < r → In2 (uses_alt new (λ i. get_or a.alts i empty) s n) (alt_before a' s)
  uses-before s l =
      let b = copy.bodies s l in
      let j : ℕ = b.0 in
      let same : get_or a'.alts j [] ≡ alt_before a' s =
      get_d_any a'.alts j [] empty (omega (arith, b.2, law'.alts.solves.sets.long)) ∙ ap (λ (k : ℕ). get_or a'.alts k empty) (omega (arith, b.1)) in
      subst (In2 (uses_alt new (λ i. get_or a.alts i empty) s n)) same
      (uses-least r x n new a.alts law.alts.solves.sets s (get_or a'.alts j []) (law'.alts.solves.sets.each j b.2)
      (λ i q w. subst (λ (z : List ℕ). In2 z (get_or a'.alts j [])) (get_d_any a.alts i [] empty (omega (arith, law.alts.solves.sets.long)))
      (use-in s j i b.1 q w)) n (omega arith))
