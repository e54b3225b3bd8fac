-- The sets call on the public definitions: of a text that 1 to 8 let through and an expression that there is, the answer is the sets of the analysis, which are
-- the least that satisfy the rules of BEGINNING, SUCCEED and ALT, and the first round whose next is equal (01, Lakes made plain: "All are least"; "The reported
-- count is the first k whose next round is equal"). Assumes nothing.
use Rattle.std.specs.Prelude.{ℕ, suc, ◌≡◌, Bool, true, not, List, length, get_or}
use Rattle.std.proofs.Math.Path.{ap, ap₂}
use Rattle.std.proofs.Math.Option.{Option, none}
use Rattle.read_tokens.specs.declared.Mode.{Mode}
use Rattle.grammar.specs.Numbers.{Grammar, numbered}
use Rattle.grammar.specs.Parts.{parts_all}
use Rattle.grammar.specs.Refusal.{Refusal, refuse_if, ◌▸◌}
use Rattle.read_syntax.specs.Reading.{rules_of}
use Rattle.grammar_table.specs.Holds.{present}
use Rattle.lake_step_one.specs.Intermediate.{water_in, intermediate}
use Rattle.lake_sets.specs.SetsAt.{sets_at}
use Rattle.lake_rules.specs.Analysis.{is_expression, lake_alt, cannot_skip}
use Rattle.grammar.specs.Numbers.{terminal_in}
use Rattle.lake_step_one.specs.Proper.{Proper}
use Rattle.lake_rules.specs.Rules.{LeastRightMarks}
use Rattle.base_words.specs.Set.{empty}
use Rattle.lake_rules.proofs.laws.Uses.{alt-by-uses}
use Rattle.lake_rules.proofs.laws.Least.{Lawful, part_of, lawful, marks-lawful}
use Rattle.lake_step_one.proofs.laws.Next.{bodies-long as middle-long}
use Rattle.prepare.specs.declared.Verdict.TheVariants.{Accepted}
use Rattle.prepare.specs.Prepare.{prepared, prepared_by, refuses}
use Rattle.prepare.specs.Reads.{verdict_of}
use Rattle.prepare.specs.laws.Reads.{clear-good}
use Rattle.gurkenmond.specs.Calls.{sets_by, sets_of, lakes_by, cannot_skip_of}
use Rattle.demands.proofs.laws.Meant.{rights-many}

module _ (m : Mode) (t : List ℕ) (ok : refuses m t ≡ none) where
  abbrev g : Grammar
  g = (prepared m t).grammar

  pub sets-answered : (e : ℕ) → is_expression (prepared m t).analysis e ≡ true
      → sets_of m t e ≡ record { sets = sets_at (prepared m t).analysis e; rounds = (prepared m t).analysis.rounds; verdict = Accepted }
  unfolding sets_of verdict_of
  sets-answered e h = ap₂ (λ (o : Option Refusal) (b : Bool). sets_by (o ▸ refuse_if (not b) 14 0) (prepared m t).analysis e) ok h

  pub cannot-skip-answered : cannot_skip_of m t ≡ record { word = cannot_skip g (prepared m t).analysis; verdict = Accepted }
  unfolding cannot_skip_of verdict_of
  cannot-skip-answered = ap (λ (o : Option Refusal). lakes_by o (prepared m t)) ok

  pub proper : Proper g
  unfolding prepared prepared_by
  proper = (clear-good m t ok).proper

  pub long : length (intermediate g) ≡ length g.names
  unfolding prepared prepared_by intermediate
  long = let k : Grammar = numbered (rules_of m t) in middle-long (water_in k) k.names k.rights (rights-many (rules_of m t))

  -- the sets are the least by the rules, and the count is the first round that stands
  pub sets-lawful : Lawful (prepared m t).analysis (length g.names) (length g.terminals) (length (parts_all (terminal_in g) 0 (present (intermediate g)))) (part_of g proper long)
  unfolding prepared prepared_by
  sets-lawful = lawful (numbered (rules_of m t)) proper long

  -- ALT of a lake, by which it stops, is the union of ALT over its uses by definition; where it has a body it is ALT of that body
  pub alt-of-body : (s k : ℕ) → get_or (prepared m t).analysis.roots s 0 ≡ suc k → lake_alt (prepared m t).analysis s ≡ get_or (prepared m t).analysis.alts k empty
  unfolding prepared prepared_by
  alt-of-body = alt-by-uses (numbered (rules_of m t)) proper long

  -- ε is marked where a body has it, and nowhere else
  pub marks-least : LeastRightMarks (intermediate g) (prepared m t).analysis.marks
  unfolding prepared prepared_by
  marks-least = marks-lawful (numbered (rules_of m t)) proper long
