use Rattle.std.proofs.Common.{arith}
use Rattle.grammar_table.specs.laws.Caps.{cap-le}
use Rattle.grammar_table.specs.laws.Seeks.{mul-le, seek-within, noted-known, noted-over}
use Rattle.grammar_table.proofs.note.Goals as goal

pub find-number-requires : goal.find-number-requires
find-number-requires c = (
  c.requires.0,
  omega (
    arith,
    c.requires.1,
    mul-le c.args.width c.least-count.result 65
        (omega (arith, c.least-count.ensures, cap-le c.word.result 64)),
  ),
)

pub returns-else-count-lt64 : goal.returns-else-count-lt64
returns-else-count-lt64 c = noted-over _ _ _ _ _ _ _ _ _ c.word.ensures.0
    c.least-count.ensures c.find-number.ensures _
    (omega arith) c.if-count-lt64.false c.put.ensures

pub returns-else-number-count : goal.returns-else-number-count
returns-else-number-count c = noted-known _ _ _ _ _ _ _ _ _ c.word.ensures.0 c.least-count.ensures c.find-number.ensures
    (omega (arith, c.find-number.ensures, c.if-number-count.false, seek-within c.args.t.now c.args.rec.now c.args.o c.args.width c.args.base c.least-count.result))
