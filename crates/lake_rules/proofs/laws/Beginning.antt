-- BEGINNING, ε included, is the least that satisfies 01's rules (01, Lakes made plain: "Symbol X: {X}, and ε if X's body has ε"; "All are least").
-- Assumes nothing.
use Rattle.std.specs.Prelude.{ℕ, zero, suc, ◌<◌, ◌≡◌, refl, Bool, true, false, cond, ◌&&◌, List, get_or}
use Rattle.std.proofs.Common.{sym, ap, ◌∙◌, subst, arith}
use Rattle.std.proofs.lemmas.Bool.{false≢true}
use Rattle.base_facts.specs.laws.Bools.{and_parts}
use Rattle.base_words.specs.Set.{union_of, symbol_set, terminal_set}
use Rattle.base_rounds.specs.laws.Pair.{Set2, In2, pair, pair-joins}
use Rattle.grammar.specs.Parts.{Part, terminal, occurs, sequence, choice, option, repeat, repeat1, affirms, denies}
use Rattle.lake_rules.specs.Beginning.{Beginning, begin, nothing, root_eps, begin_by}
use Rattle.lake_rules.specs.laws.Wholes.{Ok}
use Rattle.lake_rules.specs.laws.Begins.{up_begins, begins-rule, begins-long}
use Rattle.lake_rules.specs.laws.Reached.{begins-good}
use Rattle.lake_rules.specs.Rules.{InB, BeginRule, Solves, LeastBegin}
use Rattle.lake_rules.proofs.laws.Marks.{Imp, or-least, or_l, or_r}

module _ (r x : ℕ) where
  abbrev Good : List ℕ → Type 0
  Good = Set2 r x

  all_in : (s : List ℕ) → In2 s s
  all_in s = (pair r x).le_rfl s

  on : (a b c : List ℕ) → In2 a b → In2 b c → In2 a c
  on a b c p q = (pair-joins r x).trans a b c p q

  -- ── it solves the rules ──
  left-of : (c : Bool) (a b : List ℕ) → Good a → Good b → In2 a (cond c (union_of a b) a)
  left-of true a b g h = (pair-joins r x).join-l a b g h
  left-of false a b g h = all_in a

  right_of : (c : Bool) (a : List ℕ) (b : Beginning) → Good a → Good b.set → c ≡ true → InB b (begin (cond c (union_of a b.set) a) (c && b.eps))
  right_of true a b g h e = ((pair-joins r x).join-r a b.set g h, λ u. u)
  right_of false a b g h e = absurd (false≢true e)

  -- what the rule gives the whole satisfies it, where a symbol is marked if its body has ε
  solves-rule : (root : ℕ → ℕ) (m : ℕ → Bool) (at : ℕ → Beginning) → ((j : ℕ) → Good (at j).set) → ((s : ℕ) → s < r → Imp (root_eps at (root s)) (m s))
      → (i : ℕ) (p : Part) → Ok r x i p → at i ≡ begin_by m at p → BeginRule root at i p
  solves-rule root m at good has i (terminal t) k e = subst (λ (w : Beginning). In2 (terminal_set t) w.set) (sym e) (all_in (terminal_set t))
  solves-rule root m at good has i (occurs s) k e =
      (subst (λ (w : Beginning). In2 (symbol_set s) w.set) (sym e) (all_in (symbol_set s)), λ h. ap (λ (w : Beginning). w.eps) e ∙ has s k h)
  solves-rule root m at good has i (sequence a b) k e = (
    subst (λ (w : Beginning). In2 (at a).set w.set) (sym e) (left-of (at a).eps (at a).set (at b).set (good a) (good b)),
    λ h. subst (InB (at b)) (sym e) (right_of (at a).eps (at a).set (at b) (good a) (good b) h),
  )
  solves-rule root m at good has i (choice a b) k e = (
    subst (InB (at a)) (sym e) ((pair-joins r x).join-l (at a).set (at b).set (good a) (good b), or_l (at a).eps (at b).eps),
    subst (InB (at b)) (sym e) ((pair-joins r x).join-r (at a).set (at b).set (good a) (good b), or_r (at a).eps (at b).eps),
  )
  solves-rule root m at good has i (option a) k e = (subst (λ (w : Beginning). In2 (at a).set w.set) (sym e) (all_in (at a).set), ap (λ (w : Beginning). w.eps) e)
  solves-rule root m at good has i (repeat a) k e = (subst (λ (w : Beginning). In2 (at a).set w.set) (sym e) (all_in (at a).set), ap (λ (w : Beginning). w.eps) e)
  solves-rule root m at good has i (repeat1 a) k e = subst (InB (at a)) (sym e) (all_in (at a).set, λ u. u)
  solves-rule root m at good has i (affirms a) k e = ap (λ (w : Beginning). w.eps) e
  solves-rule root m at good has i (denies a) k e = ap (λ (w : Beginning). w.eps) e

  -- ── it lies within every solution ──
  -- of the whole, if of its parts, and if a symbol that is marked has a body with ε in the solution
  module _ (root : ℕ → ℕ) (m : ℕ → Bool) (at y : ℕ → Beginning) (good : (j : ℕ) → Good (at j).set) (marks : (s : ℕ) → s < r → Imp (m s) (root_eps y (root s))) where
    both-in : (c : Bool) (a b z : List ℕ) → Good a → Good b → In2 a z → (c ≡ true → In2 b z) → In2 (cond c (union_of a b) a) z
    both-in true a b z g h p q = (pair-joins r x).join-least a b z g h p (q refl)
    both-in false a b z g h p q = p

    within-rule : (i : ℕ) (p : Part) → Ok r x i p → Good (y i).set → ((j : ℕ) → j < i → InB (at j) (y j)) → BeginRule root y i p → InB (begin_by m at p) (y i)
    within-rule i (terminal t) k g h u = (u, λ e. absurd (false≢true e))
    within-rule i (occurs s) k g h u = (u.0, λ e. u.1 (marks s k e))
    within-rule i (sequence a b) k g h u =
        let ha : InB (at a) (y a) = h a k.0 in
        let hb : InB (at b) (y b) = h b k.1 in (
          both-in (at a).eps (at a).set (at b).set (y i).set (good a) (good b) (on (at a).set (y a).set (y i).set ha.0 u.0)
              (λ e. on (at b).set (y b).set (y i).set hb.0 (u.1 (ha.1 e)).0),
          λ e. let w = and_parts (at a).eps (at b).eps e in (u.1 (ha.1 w.0)).1 (hb.1 w.1),
        )
    within-rule i (choice a b) k g h u =
        let ha : InB (at a) (y a) = h a k.0 in
        let hb : InB (at b) (y b) = h b k.1 in (
          (pair-joins r x).join-least (at a).set (at b).set (y i).set (good a) (good b) (on (at a).set (y a).set (y i).set ha.0 u.0.0)
              (on (at b).set (y b).set (y i).set hb.0 u.1.0),
          or-least (at a).eps (at b).eps (y i).eps (λ e. u.0.1 (ha.1 e)) (λ e. u.1.1 (hb.1 e)),
        )
    within-rule i (option a) k g h u = (on (at a).set (y a).set (y i).set (h a k).0 u.0, λ e. u.1)
    within-rule i (repeat a) k g h u = (on (at a).set (y a).set (y i).set (h a k).0 u.0, λ e. u.1)
    within-rule i (repeat1 a) k g h u = (on (at a).set (y a).set (y i).set (h a k).0 u.0, λ e. u.1 ((h a k).1 e))
    within-rule i (affirms a) k g h u = ((pair-joins r x).bot-le (y i).set g, λ e. u)
    within-rule i (denies a) k g h u = ((pair-joins r x).bot-le (y i).set g, λ e. u)

  module _ (n : ℕ) (part : ℕ → Part) (ok : (i : ℕ) → i < n → Ok r x i (part i)) (root : ℕ → ℕ) where
    abbrev begins : (ℕ → Bool) → ℕ → Beginning
    begins m i = get_or (up_begins m part n) i nothing

    module _ (m : ℕ → Bool) (y : List Beginning) (sol : Solves (λ b. Good b.set) nothing n part (BeginRule root) y)
        (marks : (s : ℕ) → s < r → Imp (m s) (root_eps (λ j. get_or y j nothing) (root s))) where
      -- parts before wholes
      below : (k i : ℕ) → i < k → i < n → InB (begins m i) (get_or y i nothing)
      below zero i h l = absurd (omega arith)
      below (suc k) i h l =
          subst (λ (w : Beginning). InB w (get_or y i nothing)) (sym (begins-rule m part r x n i l (ok i l)))
          (within-rule root m (begins m) (λ j. get_or y j nothing) (begins-good r x m part n ok) marks i (part i) (ok i l) (sol.sets.each i l)
          (λ j q. below k j (omega arith) (omega arith)) (sol.rules i l))

      pub begins-within : (i : ℕ) → i < n → InB (begins m i) (get_or y i nothing)
      begins-within i l = below (suc i) i (omega arith) l

    -- marks that are just the ε of the bodies, and are ε of the bodies in every solution
    pub least-by-marks : (m : ℕ → Bool) → ((s : ℕ) → s < r → Imp (root_eps (begins m) (root s)) (m s))
        → ((y : List Beginning) → Solves (λ b. Good b.set) nothing n part (BeginRule root) y → (s : ℕ) → s < r → Imp (m s) (root_eps (λ j. get_or y j nothing) (root s)))
        → LeastBegin r x n part root (up_begins m part n)
    least-by-marks m has least = record {
      solves = record {
        sets = record { long = begins-long m part n; each = λ i l. begins-good r x m part n ok i };
        rules = λ i l. solves-rule root m (begins m) (begins-good r x m part n ok) has i (part i) (ok i l) (begins-rule m part r x n i l (ok i l));
      };
      within = λ y sol i l. begins-within m y sol (least y sol) i l;
    }
