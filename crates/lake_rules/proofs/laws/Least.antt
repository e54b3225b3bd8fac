-- The analysis of a grammar: BEGINNING with ε, SUCCEED and ALT are the least that satisfy 01's rules, and the round count is the
-- first k whose next round is equal, "at most expressions times (symbols + terminals)". Assumes nothing.
use Rattle.std.specs.Prelude.{ℕ, zero, suc, ◌+◌, ◌*◌, ◌≤◌, ◌<◌, ◌≡◌, refl, Bool, true, false, length, get_or, replicate, T}
use Rattle.std.proofs.Math.Path.{sym, subst}
use Rattle.std.proofs.Common.{ap, ◌∙◌, arith, add-one}
use mathlib.Core.List.{List, []}
use Rattle.std.proofs.Math.Option.{Option, none}
use Rattle.base_facts.specs.laws.Bools.{to-T}
use Rattle.base_words.specs.Set.{union_of, empty}
use Rattle.base_rounds.specs.Flow.{Edge, same_sets}
use Rattle.base_rounds.specs.Rounds.{First, iter, Settled}
use Rattle.base_rounds.specs.laws.Fix.{first-exists}
use Rattle.base_rounds.specs.laws.Cells.{Every, cells}
use Rattle.base_rounds.specs.laws.Pair.{Set2, pair, pair-joins}
use Rattle.base_rounds.specs.laws.Flow.{Inside}
use Rattle.base_rounds.proofs.laws.Flow.{flow-fine, flow-mono}
use Rattle.base_rounds.proofs.laws.Run.{sets-sound, sets-whole}
use Rattle.grammar.specs.Exp.{Exp}
use Rattle.grammar.specs.Numbers.{Grammar}
use Rattle.grammar.specs.Parts.{Part, terminal, occurs, sequence, choice, option, repeat, repeat1, affirms, denies, parts_all}
use Rattle.grammar_table.specs.Table.{up_to}
use Rattle.lake_step_one.specs.Intermediate.{intermediate}
use Rattle.lake_rules.specs.Beginning.{Beginning, nothing, marked, marks_by, right_empty, root_eps, beginnings}
use Rattle.lake_rules.specs.Flows.{edge, edge_into, Gift, gift, when, over_parts, given, round_by, least_by, succeed_gifts, succeed_edges, alt_gifts, alt_edges}
use Rattle.lake_rules.specs.Analysis.{Analysis, analysed, analysis_in, analysis}
use Rattle.grammar.specs.Numbers.{terminal_in}
use Rattle.lake_rules.specs.laws.Wholes.{Ok}
use Rattle.lake_rules.specs.laws.Reached.{Flowed}
use Rattle.grammar_table.specs.Holds.{present, roots_from}
use Rattle.lake_step_one.specs.Proper.{middle, ProperIn, Proper}
use Rattle.grammar_table.specs.laws.Places.{is-up_to, up_to-long, up_to-at}
use Rattle.lake_rules.specs.laws.Begins.{up_begins, begins-rule}
use Rattle.lake_rules.proofs.laws.Over.{inside-append, over-next, over_none}
use Rattle.grammar_table.specs.laws.Parts.{all-long, root-le}
use Rattle.lake_rules.specs.laws.Wholes.{ok_at, all-ok, eps-body}
use Rattle.lake_rules.specs.laws.Reached.{Good, GoodGifts, given-good, none-good, begins-good, over-good, succeed-good, alt-good, least-is, few, state-at}
use Rattle.lake_rules.specs.Rules.{InB, BeginRule, SucceedRule, AltRule, Solves, Least, LeastBegin, LeastRightMarks}
use Rattle.lake_rules.proofs.laws.Rules.{In, in-over, least-solves, none_below, succeed-to, succeed-from, alt-to, alt-from}
use Rattle.lake_rules.proofs.laws.Marks.{right-marks-least}
use Rattle.lake_rules.proofs.laws.Beginning.{begins-within, least-by-marks}

decide : (s t : List (List ℕ)) (b : Bool) → same_sets s t ≡ b → Dec (s ≡ t)
decide s t true e = yes (sets-sound s t (to-T (same_sets s t) e))
decide s t false e = no (λ q. subst T e (subst (λ (u : List (List ℕ)). T (same_sets s u)) q (sets-whole s)))

-- there is a first round whose next is equal
module _ (r x n : ℕ) (gifts : List Gift) (es : List Edge) (ins : Inside n es) (good : GoodGifts r x gifts) where
  base-good : Every (Set2 r x) [] n (given gifts (replicate n empty))
  base-good = given-good r x n gifts (replicate n empty) good (none-good r x n)

  pub found : (m : ℕ) × First (round_by n gifts es) (replicate n empty) m
  found =
      first-exists (cells (pair r x) union_of empty [] (pair-joins r x) n) (round_by n gifts es) (replicate n empty) (none-good r x n)
      (λ s g. flow-fine (pair r x) union_of empty [] (pair-joins r x) n es ins s (given gifts (replicate n empty)) g base-good)
      (λ s u gs gu h. flow-mono (pair r x) union_of empty [] (pair-joins r x) n es ins s (given gifts (replicate n empty)) u (given gifts (replicate n empty)) gs base-good gu base-good h
      (λ i p. (pair r x).le_rfl (get_or (given gifts (replicate n empty)) i [])))
      (λ s g. none_below r x n s g) (λ s t. decide s t (same_sets s t) refl)

  pub settles : Flowed n gifts es (least_by (n * (r + x)) n gifts es).count (least_by (n * (r + x)) n gifts es).state
  settles =
      let f : Flowed n gifts es found.0 (iter (round_by n gifts es) (replicate n empty) found.0) = record { first = found.1; is = refl } in
      subst (λ (w : Settled (List (List ℕ))). Flowed n gifts es w.count w.state)
      (sym (least-is r x n gifts es found.0 (iter (round_by n gifts es) (replicate n empty) found.0) f ins good)) f

-- ---- among n
inside-over : (m : ℕ) (f : ℕ → Part → List Edge) (part : ℕ → Part) (n : ℕ) → ((i : ℕ) → i < n → Inside m (f i (part i))) → Inside m (over_parts f 0 (up_to part n))
inside-over m f part zero h = rw (over_none f part) tt
inside-over m f part (suc n) h = rw (← add-one n, over-next f part n) (inside-append m (over_parts f 0 (up_to part n)) (f n (part n)) (inside-over m f part n (λ i l. h i (omega arith)))
    (h n (omega arith)))

when-inside : (n : ℕ) (b : Bool) (i j : ℕ) → i < n → j < n → Inside n (when b (edge i j))
when-inside n true i j p q = (p, q, tt)
when-inside n false i j p q = tt

-- parts come before wholes and each root is among them
module _ (bs : ℕ → Beginning) (root : ℕ → ℕ) (r x n i : ℕ) (rin : (s : ℕ) → s < r → root s ≤ n) (l : i < n) where
  into-inside : (k : ℕ) → k ≤ n → Inside n (edge_into i k)
  into-inside zero h = tt
  into-inside (suc e) h = (l, omega arith, tt)

  succeed-inside : (p : Part) → Ok r x i p → Inside n (succeed_edges bs root i p)
  succeed-inside (terminal t) k = tt
  succeed-inside (occurs s) k = into-inside (root s) (rin s k)
  succeed-inside (sequence a b) k = (l, omega arith, when-inside n (bs b).eps i a l (omega arith))
  succeed-inside (choice a b) k = (l, omega arith, (l, omega arith, tt))
  succeed-inside (option a) k = (l, omega arith, tt)
  succeed-inside (repeat a) k = (l, omega arith, tt)
  succeed-inside (repeat1 a) k = (l, omega arith, tt)
  succeed-inside (affirms a) k = tt
  succeed-inside (denies a) k = tt

  alt-inside : (p : Part) → Ok r x i p → Inside n (alt_edges bs root i p)
  alt-inside (terminal t) k = tt
  alt-inside (occurs s) k = into-inside (root s) (rin s k)
  alt-inside (sequence a b) k = (l, omega arith, when-inside n (bs a).eps i b l (omega arith))
  alt-inside (choice a b) k = (l, omega arith, (l, omega arith, tt))
  alt-inside (option a) k = (l, omega arith, tt)
  alt-inside (repeat a) k = (l, omega arith, tt)
  alt-inside (repeat1 a) k = (l, omega arith, tt)
  alt-inside (affirms a) k = tt
  alt-inside (denies a) k = tt

succeed-in : (bs : ℕ → Beginning) (root : ℕ → ℕ) (r x n i : ℕ) (p : Part) → i < n → Ok r x i p → In r x n (succeed_gifts bs root i p)
succeed-in bs root r x n i (terminal t) l k = tt
succeed-in bs root r x n i (occurs s) l k = tt
succeed-in bs root r x n i (sequence a b) l k = (omega arith, tt)
succeed-in bs root r x n i (choice a b) l k = tt
succeed-in bs root r x n i (option a) l k = tt
succeed-in bs root r x n i (repeat a) l k = (omega arith, tt)
succeed-in bs root r x n i (repeat1 a) l k = (omega arith, tt)
succeed-in bs root r x n i (affirms a) l k = tt
succeed-in bs root r x n i (denies a) l k = tt

when-in : (r x n : ℕ) (b : Bool) (j : ℕ) (s : List ℕ) → j < n → In r x n (when b (gift j s))
when-in r x n true j s l = (l, tt)
when-in r x n false j s l = tt

alt-in : (bs : ℕ → Beginning) (root : ℕ → ℕ) (succ : ℕ → List ℕ) (r x n i : ℕ) (p : Part) → i < n → Ok r x i p → In r x n (alt_gifts bs root succ i p)
alt-in bs root succ r x n i (terminal t) l k = tt
alt-in bs root succ r x n i (occurs s) l k = tt
alt-in bs root succ r x n i (sequence a b) l k = tt
alt-in bs root succ r x n i (choice a b) l k = (omega arith, when-in r x n (bs b).eps a (succ i) (omega arith))
alt-in bs root succ r x n i (option a) l k = (omega arith, tt)
alt-in bs root succ r x n i (repeat a) l k = (omega arith, tt)
alt-in bs root succ r x n i (repeat1 a) l k = (omega arith, tt)
alt-in bs root succ r x n i (affirms a) l k = tt
alt-in bs root succ r x n i (denies a) l k = tt

-- what an analysis a of expressions `part`, n of them, over r symbols and x terminals promises
pub record Lawful (a : Analysis) (r x n : ℕ) (part : ℕ → Part) : Type 0 where
  pub begins : LeastBegin r x n part (λ s. get_or a.roots s 0) a.begins
  pub marks : (s : ℕ) → s < r → marked a.marks s ≡ root_eps (λ j. get_or a.begins j nothing) (get_or a.roots s 0)
  pub succeeds : Least r x n part (SucceedRule (λ j. get_or a.begins j nothing) (λ s. get_or a.roots s 0)) a.succeeds
  pub alts : Least r x n part (AltRule (λ j. get_or a.begins j nothing) (λ s. get_or a.roots s 0) (λ j. get_or a.succeeds j empty)) a.alts
  pub rounds : First (round_by n (over_parts (alt_gifts (λ j. get_or a.begins j nothing) (λ s. get_or a.roots s 0) (λ j. get_or a.succeeds j empty)) 0 (up_to part n))
      (over_parts (alt_edges (λ j. get_or a.begins j nothing) (λ s. get_or a.roots s 0)) 0 (up_to part n))) (replicate n empty) a.rounds
  pub bounded : a.rounds ≤ n * (r + x)

module _ (r x n : ℕ) (part : ℕ → Part) (ok : (i : ℕ) → i < n → Ok r x i (part i)) (ms : List Bool) (roots : List ℕ) (rin : (s : ℕ) → s < r → get_or roots s 0 ≤ n)
    (exact : (s : ℕ) → s < r → marked ms s ≡ root_eps (λ j. get_or (up_begins (marked ms) part n) j nothing) (get_or roots s 0))
    (fewest : (y : List Beginning) → Solves (λ b. Set2 r x b.set) nothing n part (BeginRule (λ s. get_or roots s 0)) y
    → (s : ℕ) → s < r → marked ms s ≡ true → root_eps (λ j. get_or y j nothing) (get_or roots s 0) ≡ true) where
  abbrev P : List Part
  P = up_to part n

  abbrev bs : ℕ → Beginning
  bs i = get_or (beginnings (marked ms) P) i nothing

  abbrev root : ℕ → ℕ
  root s = get_or roots s 0

  bs-good : (i : ℕ) → Good r x (bs i).set
  bs-good = begins-good r x (marked ms) part n ok

  SE-in : Inside n (over_parts (succeed_edges bs root) 0 P)
  SE-in = inside-over n (succeed_edges bs root) part n (λ i l. succeed-inside bs root r x n i rin l (part i) (ok i l))

  AE-in : Inside n (over_parts (alt_edges bs root) 0 P)
  AE-in = inside-over n (alt_edges bs root) part n (λ i l. alt-inside bs root r x n i rin l (part i) (ok i l))

  abbrev SG : List Gift
  SG = over_parts (succeed_gifts bs root) 0 P

  SG-good : GoodGifts r x SG
  SG-good = over-good r x (succeed_gifts bs root) (succeed-good r x bs root bs-good) 0 P

  abbrev S : Settled (List (List ℕ))
  S = least_by (n * (r + x)) n SG (over_parts (succeed_edges bs root) 0 P)

  S-flowed : Flowed n SG (over_parts (succeed_edges bs root) 0 P) S.count S.state
  S-flowed = settles r x n SG (over_parts (succeed_edges bs root) 0 P) SE-in SG-good

  abbrev succ : ℕ → List ℕ
  succ i = get_or S.state i empty

  abbrev AG : List Gift
  AG = over_parts (alt_gifts bs root succ) 0 P

  AG-good : GoodGifts r x AG
  AG-good = over-good r x (alt_gifts bs root succ) (alt-good r x bs root succ bs-good (state-at r x n SG (over_parts (succeed_edges bs root) 0 P) S.count S.state S-flowed SE-in SG-good)) 0 P

  abbrev A : Settled (List (List ℕ))
  A = least_by (n * (r + x)) n AG (over_parts (alt_edges bs root) 0 P)

  A-flowed : Flowed n AG (over_parts (alt_edges bs root) 0 P) A.count A.state
  A-flowed = settles r x n AG (over_parts (alt_edges bs root) 0 P) AE-in AG-good

  abbrev it : Analysis
  it = record { marks = ms; roots = roots; parts = P; begins = beginnings (marked ms) P; succeeds = S.state; alts = A.state; rounds = A.count }

  it-lawful : Lawful it r x n part
  it-lawful = record {
    begins = least-by-marks r x n part ok root (marked ms) (λ s l e. exact s l ∙ e) fewest;
    marks = exact;
    succeeds = least-solves r x n part (SucceedRule bs root) (succeed_gifts bs root) (succeed_edges bs root) (λ y i l. succeed-to r x bs root y i (part i))
        (λ y i l. succeed-from r x bs root y i (part i))
        SE-in SG-good (in-over r x n (succeed_gifts bs root) part n (λ i l. succeed-in bs root r x n i (part i) l (ok i l))) S.count S.state S-flowed;
    alts = least-solves r x n part (AltRule bs root succ) (alt_gifts bs root succ) (alt_edges bs root) (λ y i l. alt-to r x bs root succ y i (part i)) (λ y i l. alt-from r x bs root succ y i (part i))
        AE-in AG-good (in-over r x n (alt_gifts bs root succ) part n (λ i l. alt-in bs root succ r x n i (part i) l (ok i l))) A.count A.state A-flowed;
    rounds = A-flowed.first;
    bounded = few r x n AG (over_parts (alt_edges bs root) 0 P) A.count A.state A-flowed AE-in AG-good;
  }

  pub analysed-lawful : Lawful (analysed ms roots P (length P * (r + x))) r x n part
  unfolding analysed
  analysed-lawful = rw (up_to-long part n) it-lawful

-- ---- of a grammar's right sides as they are
module _ (g : Grammar) (proper : ProperIn g) (long : length g.rights ≡ length g.names) where
  abbrev R : ℕ
  R = length g.names

  abbrev X : ℕ
  X = length g.terminals

  abbrev rights : List (Option (Exp ℕ))
  rights = g.rights

  abbrev parts : List Part
  parts = parts_all (terminal_in g) 0 (present rights)

  abbrev pub part_in : ℕ → Part
  part_in i = get_or parts i (terminal 0)

  pub part-ok : (i : ℕ) → i < length parts → Ok R X i (part_in i)
  part-ok i l =
      subst (λ (k : ℕ). Ok R X k (part_in i)) (let q : 0 + i ≡ i = omega arith in q)
      (ok_at (terminal_in g) R X 0 parts (terminal 0) (all-ok (terminal_in g) R X (present rights) 0 proper) i l)

  abbrev root-of : ℕ → ℕ
  root-of s = get_or (roots_from 0 rights) s 0

  parts_again : up_to part_in (length parts) ≡ parts
  parts_again = sym (is-up_to (terminal 0) part_in parts (length parts) refl (λ i l. refl))

  root_in : (s : ℕ) → root-of s ≤ length parts
  root_in s = rw (all-long (terminal_in g) (present rights) 0) (omega (arith, root-le rights 0 s))

  -- by parts or by trees: a body's ε
  pub body-eps : (m : ℕ → Bool) (s : ℕ) → root_eps (λ j. get_or (up_begins m part_in (length parts)) j nothing) (root-of s) ≡ right_empty m (get_or rights s none)
  body-eps m s =
      eps-body (terminal_in g) part_in (terminal 0) m (λ j. get_or (up_begins m part_in (length parts)) j nothing) (length parts) R X
      (λ i k. begins-rule m part_in R X (length parts) i k (part-ok i k)) rights 0 proper
      (λ k q. ap part_in (let z : 0 + k ≡ k = omega arith in z)) (omega (arith, all-long (terminal_in g) (present rights) 0)) s

  within-eps : (y : ℕ → Beginning) (bs : ℕ → Beginning) → ((i : ℕ) → i < length parts → InB (bs i) (y i)) → (k : ℕ) → k ≤ length parts → root_eps bs k ≡ true → root_eps y k ≡ true
  within-eps y bs h zero l e = e
  within-eps y bs h (suc k) l e = (h k (omega arith)).1 e

  -- in a solution the bodies that have ε are marks that have it whenever the body has
  fewest-of : (y : List Beginning) → Solves (λ b. Set2 R X b.set) nothing (length parts) part_in (BeginRule root-of) y
      → (s : ℕ) → s < R → marked (marks_by right_empty rights) s ≡ true → root_eps (λ j. get_or y j nothing) (root-of s) ≡ true
  fewest-of y sol s l e =
      sym (at s l) ∙ (right-marks-least rights).within ks (up_to-long by-root (length rights)) (λ k q h. at k (omega (arith, q, long)) ∙
      within-eps (λ j. get_or y j nothing) (λ j. get_or (up_begins (marked ks) part_in (length parts)) j nothing)
      (begins-within R X (length parts) part_in part-ok root-of (marked ks) y sol (λ j p u. sym (at j p) ∙ u)) (root-of k) (root_in k)
      (body-eps (marked ks) k ∙ h)) s (omega (arith, l, long)) e
    where
      by-root : ℕ → Bool
      by-root k = root_eps (λ j. get_or y j nothing) (root-of k)

      ks : List Bool
      ks = up_to by-root (length rights)

      at : (k : ℕ) → k < R → marked ks k ≡ by-root k
      at k q = up_to-at by-root (length rights) k false (omega (arith, q, long))

  pub lawful-in : Lawful (analysis_in g) R X (length parts) part_in
  unfolding analysis_in
  lawful-in =
      subst (λ (ps : List Part). Lawful (analysed (marks_by right_empty rights) (roots_from 0 rights) ps (length ps * (R + X))) R X (length parts) part_in)
      parts_again
      (analysed-lawful R X (length parts) part_in part-ok (marks_by right_empty rights) (roots_from 0 rights) (λ s l. root_in s)
      (λ s l. (right-marks-least rights).exact s (omega (arith, l, long)) ∙ sym (body-eps (marked (marks_by right_empty rights)) s)) fewest-of)

  pub marks-lawful-in : LeastRightMarks rights (analysis_in g).marks
  unfolding analysis_in analysed
  marks-lawful-in = right-marks-least rights

-- ---- of its intermediate form
module _ (g : Grammar) (proper : Proper g) (long : length (intermediate g) ≡ length g.names) where
  abbrev pub part_of : ℕ → Part
  part_of i = get_or (parts_all (terminal_in g) 0 (present (intermediate g))) i (terminal 0)

  pub lawful : Lawful (analysis g) (length g.names) (length g.terminals) (length (parts_all (terminal_in g) 0 (present (intermediate g)))) part_of
  unfolding analysis
  lawful = lawful-in (middle g) proper long

  -- BEGINNING solves 01's rules and lies within every solution, ε included
  pub begin-least : LeastBegin (length g.names) (length g.terminals) (length (parts_all (terminal_in g) 0 (present (intermediate g)))) part_of (λ s. get_or (analysis g).roots s 0)
      (analysis g).begins
  begin-least = lawful.begins

  pub marks-lawful : LeastRightMarks (intermediate g) (analysis g).marks
  unfolding analysis
  marks-lawful = marks-lawful-in (middle g) proper long
