use Rattle.std.proofs.Common.{◌-◌, ◌≡◌, false, length}
use Rattle.write_leaves.specs.steps.Printed.{called}
use Rattle.tree_json.specs.Reading.{parsed}
use Rattle.tree_read.specs.laws.Walks.{Walking}
use Rattle.tree_read.proofs.nodes.walk.Given as goal

abbrev pub invariant-loop : goal.invariant-loop
invariant-loop l =
    Walking (called false l.t) l.symbols l.input l.json (parsed (called false l.t) l.symbols l.input l.json) l.initial.nodes l.nodes l.gaps
    (length l.json - l.counter) l.st.depths l.st.number l.st.depth l.st.at
