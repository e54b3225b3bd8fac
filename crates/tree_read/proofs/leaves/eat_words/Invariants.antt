use Rattle.std.proofs.Common.{◌≡◌, ◌+◌, ◌-◌, map}
use Rattle.grammar_table.specs.Table.{words_from}
use Rattle.write_leaves.specs.steps.Printed.{low}
use Rattle.tree_json.specs.Reading.{ate}
use Rattle.tree_read.proofs.leaves.eat_words.Given as goal

abbrev pub invariant-loop-j : goal.invariant-loop-j
invariant-loop-j l = ate (map low (words_from l.t l.i l.n)) l.json l.at ≡ ate (map low (words_from l.t (l.i + l.j) (l.n - l.j))) l.json l.a
