use Prim.Native.Nat.{ℕ}
use mathlib.Core.Path.{sym, ◌∙◌, subst}
use lib.Seq.{length-take-le}
use Rattle.lake_calls.specs.steps.Marks.{Looped}
use Rattle.lake_calls.proofs.loops.loop_front.Goals as goal

pub slice_bounds-loop_in-end-2 : goal.slice_bounds-loop_in-end-2
slice_bounds-loop_in-end-2 c = sym (length-take-le c.args.n c.args.marks.now
    c.requires.1)

pub slice_bounds-loop_in-end-4 : goal.slice_bounds-loop_in-end-4
slice_bounds-loop_in-end-4 c = sym (length-take-le c.args.n c.args.next.now
    c.requires.2)

pub slice_bounds-loop_in-end-6 : goal.slice_bounds-loop_in-end-6
slice_bounds-loop_in-end-6 c = sym (length-take-le c.args.n
    c.args.calls.now c.requires.3)

pub loop_in-requires : goal.loop_in-requires
loop_in-requires c = (
  rw (length-take-le c.args.n
      c.args.calls.now c.requires.3)
      c.requires.0,
  (length-take-le c.args.n c.args.marks.now
      c.requires.1) ∙ sym
      (length-take-le c.args.n c.args.calls.now
      c.requires.3),
  (length-take-le c.args.n c.args.next.now
      c.requires.2) ∙ sym
      (length-take-le c.args.n c.args.calls.now
      c.requires.3),
)

pub returns : goal.returns
returns c = subst (λ (n : ℕ). Looped c.args.t.now n
    c.loop_in.result)
    (length-take-le c.args.n
    c.args.calls.now
    c.requires.3) c.loop_in.ensures
