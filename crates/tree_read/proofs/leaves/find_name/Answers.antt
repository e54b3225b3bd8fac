use Rattle.std.proofs.Common.{false, refl}
use Rattle.write_leaves.specs.steps.Printed.{called}
use Rattle.tree_read.specs.laws.Names.{find-start, find-here, find-next, find_none}
use Rattle.tree_read.proofs.leaves.find_name.Goals as goal

pub loop-value-init : goal.loop-value-init
loop-value-init c = find-start (called false c.args.t.now) c.args.json.now c.args.at c.args.symbols

pub returns-in-Some : goal.returns-in-Some
returns-in-Some c = find-here (called false c.args.t.now) c.args.json.now c.args.at c.args.symbols c.loop-value.value c.loop-value.invariant c.in-Some.place c.in-Some.ensures.place
    c.loop-value-test.true c.in-Some.ensures.inside

pub loop-value-preserved : goal.loop-value-preserved
loop-value-preserved c = find-next (called false c.args.t.now) c.args.json.now c.args.at c.args.symbols c.loop-value.value c.loop-value.invariant _ refl c.loop-value-test.true
    c.in_default.ensures.place

pub returns : goal.returns
returns c = find_none (called false c.args.t.now) c.args.json.now c.args.at c.args.symbols c.loop-value.value c.loop-value.invariant c.loop-value-test.false
