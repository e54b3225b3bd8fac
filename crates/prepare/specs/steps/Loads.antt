-- A grammar text worked out in lent memory: the table of the grammar, of its intermediate form with all sets, and of its plain form, up to refusal 8
-- (01, Refusal numbers; 01, Lakes made plain). Assumes nothing: these are definitions.
use Rattle.std.specs.Prelude.{ℕ, ◌≤◌, ◌<◌, ◌≡◌, Bool, false, List, take}
use Rattle.std.proofs.Math.Option.{none, some}
use Rattle.read_tokens.specs.declared.Mode.{Mode}
use Rattle.grammar.specs.Numbers.{Grammar, numbered}
use Rattle.grammar.specs.Refusal.{refusal}
use Rattle.grammar_table.specs.Holds.{Holds}
use Rattle.grammar_table.specs.Table.{symbol_count, expression_count}
use Rattle.read_syntax.specs.Reading.{refuses_text, rules_of}
use Rattle.lake_rules.specs.Analysis.{analysis}
use Rattle.lake_step_one.specs.Proper.{Proper, middle}
use Rattle.lake_sets.specs.steps.Analysed.{Analysed}
use Rattle.lake_analysis.specs.steps.Lent.{Fronted}
use Rattle.lake_step_one.specs.steps.Made.{Short, SteppedOne, with_bodies}
use Rattle.lake_plain.specs.Plain.{too_large}
use Rattle.lake_step_two.specs.steps.Stepped.{Once, plain_of}
use Rattle.lake_step_two.specs.laws.Proper.{NoneEmpty}
use Rattle.prepare.specs.declared.Counted.{Counted}
use Rattle.prepare.specs.Prepare.{prepared, refuses}
use Rattle.prepare.specs.Reads.{read_by, read_of, is_refused}

-- refused 1 to 6, or the counts of the grammar as read
unfoldable pub read_up_to6 : Mode → List ℕ → Counted
read_up_to6 m t = read_by (refuses_text m t) (prepared m t)

-- that answer, and a table that holds the grammar of a text that is accepted
pub record Loads (m : Mode) (s t : List ℕ) (r : Counted) : Type 0 where
  pub answer : r ≡ read_up_to6 m s
  pub table : refuses_text m s ≡ none → Holds t (numbered (rules_of m s))

-- what every grammar has that refusals 1 to 6 let through
pub record Good (g : Grammar) : Type 0 where
  pub proper : Proper g
  pub once : Once g
  pub short : Short g
  pub none-empty : NoneEmpty g

-- all that is worked out of a grammar: the table of its intermediate form, its sets at the front of runs, and the table of its plain form
pub record Worked (g : Grammar) (mid : List ℕ) (ms : List Bool) (sets : List (List ℕ)) (eps : List Bool) (succ alts : List (List ℕ)) (out : List ℕ)
    (rounds : ℕ) : Type 0 where
  pub between : Holds mid (middle g)
  pub analysed : Analysed (analysis g) (take (symbol_count mid) ms) (take (expression_count mid) sets) (take (expression_count mid) eps)
      (take (expression_count mid) succ) (take (expression_count mid) alts) rounds
  pub few : too_large (plain_of g) ≡ none
  pub plain : Holds out (with_bodies g (plain_of g))

-- step 1 to n expressions, and the sets of them where they are few
pub record Between (t mid : List ℕ) (ms : List Bool) (sets : List (List ℕ)) (eps : List Bool) (succ alts : List (List ℕ)) (n rounds : ℕ) : Type 0 where
  pub stepped : SteppedOne t mid n
  pub fronted : n ≤ 1024 → Fronted mid ms sets eps succ alts rounds

-- the same with ALT alone lent: there are the others beside it
pub record WithAlts (t mid : List ℕ) (alts : List (List ℕ)) (n rounds : ℕ) : Type 0 where
  pub ms : List Bool
  pub sets : List (List ℕ)
  pub eps : List Bool
  pub succ : List (List ℕ)
  pub between : Between t mid ms sets eps succ alts n rounds

-- step 1, the sets and step 2: refusal 7, or all that
pub record Translated (t mid : List ℕ) (ms : List Bool) (sets : List (List ℕ)) (eps : List Bool) (succ alts : List (List ℕ)) (out : List ℕ)
    (k rounds : ℕ) : Type 0 where
  pub over : (g : Grammar) → Holds t g → Good g → 1024 < k → too_large (plain_of g) ≡ some (refusal 7 1025)
  pub within : (g : Grammar) → Holds t g → Good g → k ≤ 1024 → Worked g mid ms sets eps succ alts out rounds

-- step 2 behind them
pub record Follows (n : ℕ) (mid : List ℕ) (alts : List (List ℕ)) (out : List ℕ) (k : ℕ) : Type 0 where
  pub translated : (t : List ℕ) (ms : List Bool) (sets : List (List ℕ)) (eps : List Bool) (succ : List (List ℕ)) (rounds : ℕ)
      → Between t mid ms sets eps succ alts n rounds → Translated t mid ms sets eps succ alts out k rounds

-- of a text that 1 to 8 let through
pub record Stands (m : Mode) (s t mid : List ℕ) (ms : List Bool) (sets : List (List ℕ)) (eps : List Bool) (succ alts : List (List ℕ)) (out : List ℕ)
    (rounds : ℕ) : Type 0 where
  pub clear : refuses m s ≡ none
  pub table : Holds t (numbered (rules_of m s))
  pub worked : Worked (numbered (rules_of m s)) mid ms sets eps succ alts out rounds

-- the answer of `read`, and all that where it is no refusal
pub record Ready (m : Mode) (s t mid : List ℕ) (ms : List Bool) (sets : List (List ℕ)) (eps : List Bool) (succ alts : List (List ℕ)) (out : List ℕ)
    (r : Counted) (rounds : ℕ) : Type 0 where
  pub answer : r ≡ read_of m s
  pub stands : is_refused r.verdict ≡ false → Stands m s t mid ms sets eps succ alts out rounds

-- whatever text was loaded and analysed before
pub record Finished (r : Counted) (n rounds : ℕ) (mid : List ℕ) (alts : List (List ℕ)) (out : List ℕ) (c : Counted) (took : ℕ) : Type 0 where
  pub ready : (m : Mode) (s t : List ℕ) (ms : List Bool) (sets : List (List ℕ)) (eps : List Bool) (succ : List (List ℕ))
      → Loads m s t r → Between t mid ms sets eps succ alts n rounds → Ready m s t mid ms sets eps succ alts out c took

-- the same of the tables of the grammar and its plain form
pub record Plainly (m : Mode) (s t out : List ℕ) (r : Counted) : Type 0 where
  pub answer : r ≡ read_of m s
  pub clear : is_refused r.verdict ≡ false → refuses m s ≡ none
  pub table : is_refused r.verdict ≡ false → Holds t (numbered (rules_of m s))
  pub plain : is_refused r.verdict ≡ false → Holds out (with_bodies (numbered (rules_of m s)) (plain_of (numbered (rules_of m s))))

-- the same of the table of the plain form alone
pub record PlainOnly (m : Mode) (s out : List ℕ) (r : Counted) : Type 0 where
  pub answer : r ≡ read_of m s
  pub clear : is_refused r.verdict ≡ false → refuses m s ≡ none
  pub plain : is_refused r.verdict ≡ false → Holds out (with_bodies (numbered (rules_of m s)) (plain_of (numbered (rules_of m s))))
