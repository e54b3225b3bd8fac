use native.Mathlib.Omega.{arith}
use Prim.Native.Nat.{◌+◌, ◌≤◌}
use lib.ListN.{length}
use Rattle.match_eval.proofs.laws.Memory.{told-right, said-ends, said-room, said-next}
use Rattle.match_eval.proofs.many_at.Goals as goal

pub returns-then-w-lt3 : goal.returns-then-w-lt3
returns-then-w-lt3 c =
    said-ends c.args.t.now c.args.s.now c.args.cells.now c.args.mem.now c.args.n c.args.p c.requires.1
    (omega (arith, c.requires.0)) c.args.x
    c.byte_at-b.result c.said-w.result c.byte_at-b.ensures.0
    c.said-w.ensures c.if-w-eq0.false c.if-w-lt3.true

pub running-requires-else-w-lt3 : goal.running-requires-else-w-lt3
running-requires-else-w-lt3 c =
    omega (
      arith,
      c.requires.0,
      said-room c.args.t.now c.args.s.now c.args.cells.now c.args.mem.now c.args.n c.args.p c.requires.1
          (omega (arith, c.requires.0)) c.args.x
          c.byte_at-b.result c.said-w.result c.byte_at-b.ensures.0
          c.said-w.ensures (omega (arith, c.if-w-lt3.false)),
    )

pub returns-in-Some-running : goal.returns-in-Some-running
returns-in-Some-running c =
    let l : 3 ≤ c.said-w.result = omega (arith, c.if-w-lt3.false) in
    let m : c.args.p ≤ length c.args.s.now = omega (arith, c.requires.0) in
    let r : c.args.p + 1 ≤ length c.args.s.now = said-room c.args.t.now c.args.s.now c.args.cells.now c.args.mem.now c.args.n c.args.p
    c.requires.1 m c.args.x
    c.byte_at-b.result c.said-w.result
    c.byte_at-b.ensures.0 c.said-w.ensures l in
    said-next c.args.t.now c.args.s.now c.args.cells.now c.args.mem.now c.args.n c.args.p c.requires.1 m c.args.x
    c.byte_at-b.result
    c.said-w.result c.byte_at-b.ensures.0 c.said-w.ensures
    c.in-Some-running.c l
    (told-right c.args.t.now c.args.s.now c.args.cells.now c.args.mem.now c.args.n 0 c.args.p c.requires.1 c.args.x (c.args.p + 1)
    c.in-Some-running.c (omega (arith, c.requires.0, r)) c.in-Some-running.ensures)
