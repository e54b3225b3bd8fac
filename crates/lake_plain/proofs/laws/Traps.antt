-- "Finding loops in the lake grammar only: guards add first calls" (01, Traps): `A <- <x>* 'y' / B`, `B <- <x>* 'z'` has a loop in its plain bodies
-- and none before the guards are added. Assumes nothing.
use Rattle.std.specs.Prelude.{ℕ, ◌≡◌, refl, List, [], ◌∷◌}
use Rattle.std.proofs.Math.Option.{Option, none, some}
use Rattle.read_tokens.specs.Token.{Symbol, Leaf, name, lake, any, literal}
use Rattle.grammar.specs.Exp.{Exp, sym, ter, seq, alt, star, never, size}
use Rattle.grammar.specs.Lakes.{step_one, choice_of, skip_of, step_two}
use Rattle.grammar.specs.Empty.{empty_leaf, has_empty}
use Rattle.grammar.specs.Numbers.{Grammar}
use Rattle.grammar.specs.Parts.{parts_of, parts_all}
use Rattle.grammar.specs.Same.{same_bytes, same_marks, same_symbol, same_leaf, index_of}
use Rattle.grammar_table.specs.Holds.{present, roots_from}
use Rattle.base_rounds.specs.Rounds.{settle}
use Rattle.lake_step_one.specs.Intermediate.{water_in, bodies_by, intermediate}
use Rattle.lake_rules.specs.Beginning.{mark_round, marks_by, marks_of, beginnings_from, beginnings}
use Rattle.lake_rules.specs.Flows.{over_parts, given, least_by}
use Rattle.lake_rules.specs.Analysis.{analysed, analysis_in, analysis, uses_alt, lake_alt}
use Rattle.lake_plain.specs.Plain.{nonterminals_in, terminals_in, alternatives, plain_from, plain_bodies}
use Rattle.lake_plain.specs.Calls.{first_calls, calls_of, all_called, reach, loop_from, loop}

abbrev guarded : Grammar
guarded =
    record {
      names = name (65 ∷ []) ∷ name (66 ∷ []) ∷ lake (120 ∷ []) ∷ [];
      rights = some (alt (seq (star (sym 2)) (ter (literal (121 ∷ [])))) (sym 1)) ∷ some (seq (star (sym 2)) (ter (literal (122 ∷ [])))) ∷ none ∷ [];
      terminals = any ∷ literal (121 ∷ []) ∷ literal (122 ∷ []) ∷ [];
    }

-- the lake's guard is `!(B / 'y' / 'z')`: lakes are dropped, nonterminals come first
pub guard : plain_bodies guarded (analysis guarded)
    ≡ alt (seq (star (sym 2)) (ter (literal (121 ∷ [])))) (sym 1)
    ∷ seq (star (sym 2)) (ter (literal (122 ∷ [])))
    ∷ seq (never (alt (alt (sym 1) (ter (literal (121 ∷ [])))) (ter (literal (122 ∷ []))))) (ter any)
    ∷ []
unfolding step_one choice_of skip_of step_two empty_leaf has_empty size parts_of parts_all present roots_from same_bytes same_marks same_symbol same_leaf index_of settle water_in bodies_by intermediate
    mark_round marks_by beginnings_from beginnings over_parts given least_by analysed analysis_in analysis uses_alt lake_alt nonterminals_in terminals_in alternatives plain_from plain_bodies
guard = refl

pub loops-with-guards : loop (plain_bodies guarded (analysis guarded)) ≡ some 1
unfolding step_one choice_of skip_of step_two empty_leaf has_empty size parts_of parts_all present roots_from same_bytes same_marks same_symbol same_leaf index_of settle water_in bodies_by intermediate
    mark_round marks_by beginnings_from beginnings over_parts given least_by analysed analysis_in analysis uses_alt lake_alt nonterminals_in terminals_in alternatives plain_from plain_bodies marks_of
    first_calls calls_of all_called reach loop_from loop
loops-with-guards = refl

pub none_before : loop (present (intermediate guarded)) ≡ none
unfolding step_one empty_leaf has_empty same_bytes same_symbol index_of water_in bodies_by intermediate present mark_round marks_by marks_of first_calls calls_of all_called reach loop_from loop
none_before = refl

-- "Lakes in ALT(b) are dropped": in `a <- <x> / <y>` the ALT of `<x>` is `<y>`, and no alternative is left
abbrev lakes_only : Grammar
lakes_only =
    record {
      names = name (97 ∷ []) ∷ lake (120 ∷ []) ∷ lake (121 ∷ []) ∷ [];
      rights = some (alt (sym 1) (sym 2)) ∷ none ∷ none ∷ [];
      terminals = any ∷ [];
    }

pub dropped : plain_bodies lakes_only (analysis lakes_only) ≡ alt (sym 1) (sym 2) ∷ ter any ∷ ter any ∷ []
unfolding step_one choice_of skip_of step_two empty_leaf has_empty size parts_of parts_all present roots_from same_bytes same_marks same_symbol same_leaf index_of settle water_in bodies_by intermediate
    mark_round marks_by beginnings_from beginnings over_parts given least_by analysed analysis_in analysis uses_alt lake_alt nonterminals_in terminals_in alternatives plain_from plain_bodies
dropped = refl
