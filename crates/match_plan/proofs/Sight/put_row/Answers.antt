use Rattle.std.proofs.Common.{arith}
use Rattle.grammar_table.specs.Table.{symbol_word}
use Rattle.match_eval.proofs.laws.Said.{said-small}
use Rattle.match_plan.proofs.Sight.put_row.Goals as goal

pub put-requires : goal.put-requires
put-requires c = let f = c.args.self.now in omega (arith, c.heard-w.ensures, said-small f.mem.now c.args.b (symbol_word f.table.now c.loop-r.r 1))
