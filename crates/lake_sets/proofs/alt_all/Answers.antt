use mathlib.Core.Path.{◌≡◌, ap, ◌∙◌}
use native.Mathlib.Omega.{arith}
use lib.ListN.{length, length-replicate}
use Rattle.base_words.specs.Set.{empty}
use Rattle.lake_sets.specs.steps.Steps.{alt_given}
use Rattle.lake_sets.specs.laws.Edges.{given-long}
use Rattle.base_rounds.specs.laws.Sys.{empties}
use Rattle.lake_sets.proofs.alt_all.Goals as goal

pub flow-requires : goal.flow-requires
flow-requires c =
    let q : length c.alt_base.new.base ≡ length c.args.base.now = ap length
    c.alt_base.ensures.0 ∙ given-long (alt_given c.args.t.now
    c.args.sets.now c.args.eps.now
    c.args.succ.now (length c.args.base.now)) (empties (length
    c.args.base.now)) ∙ length-replicate (length c.args.base.now) empty in
    (omega arith, omega arith, omega arith, c.alt_base.ensures.1)

pub returns : goal.returns
returns c =
    let q : length c.alt_base.new.base ≡ length
    c.args.base.now = ap length c.alt_base.ensures.0 ∙ given-long (alt_given
    c.args.t.now c.args.sets.now
    c.args.eps.now c.args.succ.now (length
    c.args.base.now)) (empties (length
    c.args.base.now)) ∙ length-replicate (length
    c.args.base.now) empty in
    c.flow.ensures (length c.args.base.now) (alt_given
    c.args.t.now c.args.sets.now
    c.args.eps.now c.args.succ.now (length
    c.args.base.now)) c.alt_base.ensures.0 q
