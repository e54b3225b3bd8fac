use Rattle.std.proofs.Common.{◌≡◌, ◌-◌, false}
use Rattle.write_leaves.specs.steps.Printed.{called}
use Rattle.tree_json.specs.Reading.{named_at}
use Rattle.tree_read.proofs.leaves.find_name.Given as goal

abbrev pub invariant-loop-value : goal.invariant-loop-value
invariant-loop-value l = named_at (called false l.t) l.symbols 0 l.json l.at ≡ named_at (called false l.t) (l.symbols - l.value) l.value l.json l.at
