use Rattle.std.proofs.Common.{◌≡◌, ◌+◌, drop, length}
use Rattle.write_leaves.specs.declared.bytes.Pen.{Pen}
use Rattle.write_leaves.specs.steps.Pen.{after, moved}
use Rattle.write_leaves.proofs.bytes.put_run.Given as goal

abbrev pub invariant-loop-i : goal.invariant-loop-i
invariant-loop-i l = (length l.out ≡ length l.initial.out)
    × ((p : Pen) → p.out.now ≡ l.initial.out → p.at ≡ l.at → after (moved p l.out (l.at + l.i)) (drop l.i l.bytes) ≡ after p l.bytes)
