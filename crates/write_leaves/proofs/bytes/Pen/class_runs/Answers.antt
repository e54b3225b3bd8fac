use Rattle.std.proofs.Common.{◌≡◌, [], refl, ap, sym, ◌∙◌, None, Some, arith}
use Rattle.write_leaves.specs.steps.Pen.{after}
use Rattle.write_leaves.specs.steps.Printed.{rest_of}
use Rattle.write_leaves.specs.laws.Pen.{less, done}
use Rattle.write_leaves.specs.laws.Leaves.{class-start, class-end, class-last}
use Rattle.write_leaves.proofs.bytes.Pen.class_runs.Goals as goal

pub loop-b-init : goal.loop-b-init
loop-b-init c = (tt, ap (after c.args.self.now) (class-start c.args.t.now c.args.i))

pub returns-in-Some : goal.returns-in-Some
returns-in-Some c =
    let e : 256 ≡ c.loop-b.b = omega (arith, c.loop-b-test.false, c.loop-b.auto.b-end) in
    done _ [] (less _ _ [] (ap (λ k. after c.loop-b.self (rest_of c.args.t.now c.args.i (Some c.in-Some.lo) k)) e
    ∙ ap (λ o. after c.loop-b.self (rest_of c.args.t.now c.args.i o c.loop-b.b)) (sym c.in-Some.is) ∙ c.loop-b.invariant.1)
    (class-last c.args.t.now c.args.i 256 (omega arith) c.in-Some.lo) c.run_text.ensures) refl

pub returns-in_default : goal.returns-in_default
returns-in_default c =
    let e : 256 ≡ c.loop-b.b = omega (arith, c.loop-b-test.false, c.loop-b.auto.b-end) in
    done _ _ (ap (λ k. after c.loop-b.self (rest_of c.args.t.now c.args.i None k)) e
    ∙ ap (λ o. after c.loop-b.self (rest_of c.args.t.now c.args.i o c.loop-b.b)) (sym c.in_default.is) ∙ c.loop-b.invariant.1) (class-end c.args.t.now c.args.i 256 (omega arith))
