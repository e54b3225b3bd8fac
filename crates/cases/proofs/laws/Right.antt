-- THE theorem: the definitions answer every case of the table as it says. It is computed. Assumes nothing.
use Rattle.std.specs.Prelude.{◌≡◌, refl, map}
use Rattle.read_tokens.specs.Kinds.{one_of, ranges, kind_at}
use Rattle.read_tokens.specs.Bounds.{text_bound, name_bound, open_bound, expression_bound, symbol_bound, terminal_bound, literal_bound, plain_bound}
use Rattle.read_tokens.specs.Bounds.{input_bound, depth_bound, first_octal, raw_from, node_words}
use Rattle.read_tokens.specs.Chars.{octals, letters, four, char, single, dashed, listed, body}
use Rattle.read_tokens.specs.Tokens.{skip, name_span, angle, literal_by, among, table, some_true, class_marks, class_by, bracket, by_kind}
use Rattle.read_tokens.specs.Tokens.{token_from, token_at, lexemes_from, lexemes, toks_of, toks}
use Rattle.grammar.specs.Empty.{empty_leaf, has_empty}
use Rattle.grammar.specs.Exp.{size, rename, symbols_in, leaves_in}
use Rattle.grammar.specs.Lakes.{step_one, choice_of, skip_of, step_two, plain_name}
use Rattle.grammar.specs.Numbers.{left_sides, uses_of, only_lakes, loose_lakes, symbols_of, leaves_of, terminals_of, expressions_of, numbered}
use Rattle.grammar.specs.Parts.{parts_of, parts_all}
use Rattle.grammar.specs.Same.{same_bytes, same_marks, same_symbol, same_leaf, is_in, index_of, new_in}
use Rattle.grammar.specs.Syntax.{tokens, choice_toks, seq_toks, pref_toks, suf_toks, prim_toks}
use Rattle.grammar_table.specs.Table.{up_to}
use Rattle.grammar.specs.Trees.{trees, tree_c, tree_s, tree_p, tree_f, tree_q}
use Rattle.read_syntax.specs.Machine.{close, new_rule, after, step, accepting, state_after, offends_from, finish, over, judge, place_of}
use Rattle.read_syntax.specs.Reader.{close_by, prim_by, suf_by, pref_by, choice_by, arrow_by, rule_by, rules_r, rules_p, choice_p, choice_r, seq_p, seq_r, pref_p, prim_p}
use Rattle.read_syntax.specs.Reading.{starts_with, reserved, second, lefts_in, unruled, too_many, rules_from, refuses_text, rules_of}
use Rattle.base_rounds.specs.Rounds.{settle}
use Rattle.grammar_table.specs.Holds.{present, roots_from}
use Rattle.lake_rules.specs.Analysis.{analysed, analysis_in, analysis, uses_alt, lake_alt, blocked_by, cannot_skip_below, cannot_skip}
use Rattle.lake_sets.specs.SetsAt.{sets_at}
use Rattle.lake_rules.specs.Beginning.{mark_round, marks_by, marks_of, beginnings_from, beginnings}
use Rattle.lake_rules.specs.Flows.{over_parts, given, least_by}
use Rattle.lake_step_one.specs.Intermediate.{water_in, bodies_by, intermediate}
use Rattle.lake_plain.specs.Calls.{first_calls, calls_of, all_called, reach, loop_from, loop, ranks_of, of_rank, order_from, order}
use Rattle.lake_plain.specs.Plain.{nonterminals_in, terminals_in, alternatives, plain_from, plain_bodies, sizes, rules_by, plain_rules}
use Rattle.match_cells.specs.Cells.{body_takes, row_of, fill_of, cells}
use Rattle.match_eval.specs.Eval.{stands, leaf_at, cell_at, join_of, seq_of, alt_of, step_of, rep, plus_of, opt_of, ahead_of, never_of, ev}
use Rattle.match_list.specs.Nodes.{seq_n, alt_n, opt_n, step_n, rep_n, walk_of, node_if, nodes_of, levels, list_of, listing_of, in_words, put_node, written}
use Rattle.match_list.specs.Nodes.{words_of, room_of, node_at, nodes_at, sound_at, node_text}
use Rattle.write_rules.specs.Writing.{byte_text, lit_char, class_char, lit_chars, runs as writing-runs, run_text, runs_text, leaf_text, symbol_text}
use Rattle.write_rules.specs.Writing.{expr_text, rule_text, text}
use Rattle.tree_list.specs.Preorder.{admits, gaps_behind, bad_from, bad_node}
use Rattle.tree_summary.specs.Summary.{count_of, lies_in, covered_of, first_of, last_of, summary_of, summaries}
use Rattle.base_lines.specs.Lines.{ended_lines, column_from, line_of, column_of}
use Rattle.tree_json.specs.Json.{char_json, chars_json, number_json, head_json, closings, behind_node, json_text}
use Rattle.tree_json.specs.Reading.{ate, named_at, digits_at, number_at, closes_at, head_at, nodes_from, parsed}
use Rattle.prepare.specs.Reads.{verdict_of, read_of}
use Rattle.match_lake.specs.Asking.{none_matches, way_number, way_in}
use Rattle.gurkenmond.specs.Calls.{sets_of, cannot_skip_of, match_of, lake_of, write_own_of, write_plain_of, write_json_of, read_json_of, summarise_of, spot_of}
use Rattle.prepare.specs.Prepare.{prepared_by, prepared, refuses}
use Rattle.cases.specs.Ask.{Case, bytes as text-bytes, answered}
use Rattle.cases.specs.Table.{cases}

pub cases-right : map (λ (c : Case). answered c.asked) cases ≡ map (λ (c : Case). c.said) cases
unfolding cases answered text-bytes one_of ranges kind_at text_bound name_bound open_bound expression_bound symbol_bound terminal_bound literal_bound
    plain_bound input_bound depth_bound first_octal raw_from node_words octals letters four char single dashed listed body skip name_span angle literal_by
    among table some_true class_marks class_by bracket by_kind token_from token_at lexemes_from lexemes toks_of toks empty_leaf has_empty size rename
    symbols_in leaves_in step_one choice_of skip_of step_two plain_name left_sides uses_of only_lakes loose_lakes symbols_of leaves_of terminals_of
    expressions_of numbered parts_of parts_all present roots_from same_bytes same_marks same_symbol same_leaf is_in index_of new_in tokens choice_toks seq_toks pref_toks
    suf_toks prim_toks up_to trees tree_c tree_s tree_p tree_f tree_q close new_rule after step accepting state_after offends_from finish over judge
    place_of close_by prim_by suf_by pref_by choice_by arrow_by rule_by rules_r rules_p choice_p choice_r seq_p seq_r pref_p prim_p starts_with reserved second lefts_in
    unruled too_many rules_from refuses_text rules_of settle analysed analysis_in analysis uses_alt lake_alt sets_at blocked_by cannot_skip_below cannot_skip mark_round marks_by marks_of
    beginnings_from beginnings over_parts given least_by water_in bodies_by intermediate first_calls calls_of all_called reach loop_from loop ranks_of of_rank
    order_from order nonterminals_in terminals_in alternatives plain_from plain_bodies sizes rules_by plain_rules body_takes row_of fill_of cells stands leaf_at
    cell_at join_of seq_of alt_of step_of rep plus_of opt_of ahead_of never_of ev seq_n alt_n opt_n step_n rep_n walk_of node_if nodes_of levels list_of listing_of
    in_words put_node written words_of room_of node_at nodes_at sound_at node_text byte_text lit_char class_char lit_chars writing-runs run_text runs_text leaf_text
    symbol_text expr_text rule_text text verdict_of read_of sets_of cannot_skip_of match_of none_matches way_number way_in lake_of write_own_of write_plain_of
    prepared_by prepared refuses admits gaps_behind bad_from bad_node char_json chars_json number_json head_json closings behind_node json_text ate named_at digits_at
    number_at closes_at head_at nodes_from parsed write_json_of read_json_of count_of lies_in covered_of first_of last_of summary_of summaries summarise_of ended_lines column_from line_of column_of spot_of
cases-right = refl
