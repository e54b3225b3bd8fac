use Rattle.std.proofs.Common.{ℕ, ◌≡◌, ◌+◌, ◌-◌, false, length, subst, arith}
use Rattle.write_leaves.specs.steps.Printed.{called}
use Rattle.tree_json.specs.Reading.{parsed}
use Rattle.tree_read.specs.laws.Walks.{Walking, walk_start, walk_none, walk-last, walk_more, walk-over}
use Rattle.tree_read.proofs.nodes.walk.Goals as goal

pub loop-init : goal.loop-init
loop-init c = walk_start (called false c.args.t.now) c.args.symbols c.args.input.now c.args.json.now c.args.nodes.now _ c.put.ensures

pub returns-in_err-node : goal.returns-in_err-node
returns-in_err-node c = rw c.from_residual.ensures (walk_none c.loop.invariant (omega (arith, c.loop-test.true)) c.in_err-node.ensures)

pub returns-in-Last : goal.returns-in-Last
returns-in-Last c = walk-last c.loop.invariant (omega (arith, c.loop-test.true)) c.in_ok-node.ensures _ c.keep.ensures c.in-Last.is

pub loop-preserved : goal.loop-preserved
loop-preserved c =
    let e : length c.args.json.now - c.loop.counter - 1 ≡ length c.args.json.now - (c.loop.counter + 1) = omega arith in
    subst (λ (n : ℕ). Walking (called false c.args.t.now) c.args.symbols c.args.input.now c.args.json.now (parsed (called false c.args.t.now) c.args.symbols c.args.input.now
    c.args.json.now) c.args.nodes.now c.keep.new.nodes c.read_node.new.gaps
    n (c.in_ok-node.field-0.node.depth + 2) (c.loop.st.number + 1) c.in-More.depth c.in-More.place) e
    (walk_more c.loop.invariant (omega (arith, c.loop-test.true)) c.in_ok-node.ensures _ c.keep.ensures c.in-More.is)

pub returns : goal.returns
returns c = walk-over c.loop.invariant (omega (arith, c.loop-test.false))
