use Rattle.std.specs.Prelude.{length}
use Rattle.base_lines.specs.steps.Behind.{Counted}
use Rattle.base_lines.proofs.place_of.Given as goal

abbrev pub invariant-loop-byte : goal.invariant-loop-byte
invariant-loop-byte l = Counted l.text (length l.byte-items) l.byte-index l.at
