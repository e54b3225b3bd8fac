use mathlib.Core.Path.{◌≡◌, ap, ◌∙◌}
use native.Mathlib.Omega.{arith}
use lib.ListN.{length, length-replicate}
use Rattle.base_words.specs.Set.{empty}
use Rattle.lake_sets.specs.steps.Steps.{succeed_given}
use Rattle.lake_sets.specs.laws.Edges.{given-long}
use Rattle.base_rounds.specs.laws.Sys.{empties}
use Rattle.lake_sets.proofs.succeed_all.Goals as goal

pub flow-requires : goal.flow-requires
flow-requires c =
    let q : length c.succeed_base.new.base ≡ length c.args.base.now = ap length
    c.succeed_base.ensures.0 ∙ given-long (succeed_given c.args.t.now
    c.args.sets.now (length c.args.base.now)) (empties (length
    c.args.base.now)) ∙ length-replicate (length c.args.base.now) empty in
    (omega arith, omega arith, omega arith, c.succeed_base.ensures.1)

pub returns : goal.returns
returns c =
    let q : length c.succeed_base.new.base ≡ length
    c.args.base.now = ap length c.succeed_base.ensures.0 ∙ given-long
    (succeed_given c.args.t.now c.args.sets.now (length
    c.args.base.now)) (empties (length
    c.args.base.now)) ∙ length-replicate (length
    c.args.base.now) empty in
    c.flow.ensures (length c.args.base.now) (succeed_given
    c.args.t.now c.args.sets.now (length
    c.args.base.now)) c.succeed_base.ensures.0 q
