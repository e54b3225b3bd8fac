use Rattle.std.proofs.Common.{◌≡◌, drop}
use Rattle.write_leaves.specs.declared.bytes.Pen.{Pen}
use Rattle.write_leaves.specs.steps.Pen.{after, moved}
use Rattle.write_leaves.proofs.bytes.put_all.Given as goal

abbrev pub invariant-loop-b : goal.invariant-loop-b
invariant-loop-b l = (p : Pen) → p.out.now ≡ l.initial.out → p.at ≡ l.at → after (moved p l.out l.place) (drop l.b-index l.bytes) ≡ after p l.bytes
