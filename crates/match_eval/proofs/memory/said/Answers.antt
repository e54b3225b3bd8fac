use Rattle.std.proofs.Common.{◌∙◌, arith}
use Rattle.match_eval.proofs.laws.Said.{said-is, said-end, said-past}
use Rattle.match_eval.proofs.memory.said.Goals as goal
use Rattle.match_eval.proofs.memory.said.Goals.{then-b-ge-BYTES-via-then-b-ge-BYTES, then-b-ge-BYTES-via-else-b-ge-BYTES+then-x-ge-PARTS}

pub returns-then-b-ge-BYTES : goal.returns-then-b-ge-BYTES
returns-then-b-ge-BYTES c =
    elim c.then-b-ge-BYTES.branch [
      | then-b-ge-BYTES-via-then-b-ge-BYTES w ↦ said-end c.args.mem.now c.args.b c.args.x w.if-b-ge-BYTES.true
      | then-b-ge-BYTES-via-else-b-ge-BYTES+then-x-ge-PARTS w ↦ said-past c.args.mem.now c.args.b c.args.x w.if-x-ge-PARTS.true
    ]

pub returns : goal.returns
returns c = c.bits_at.ensures ∙ said-is c.args.mem.now c.args.b c.args.x (omega arith) (omega arith)
