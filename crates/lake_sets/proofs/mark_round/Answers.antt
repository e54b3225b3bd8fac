use mathlib.Core.List.{[]}
use mathlib.Core.Path.{ap, ◌∙◌}
use Prim.Native.Nat.{◌-◌}
use mathlib.Core.Bool.{false}
use lib.ListN.{length, get_or}
use Rattle.lake_rules.specs.Beginning.{Beginning, nothing}
use Rattle.lake_sets.specs.steps.Steps.{pair_at, root_in, begins_in}
use Rattle.grammar_table.specs.laws.Places.{up_to-same}
use Rattle.lake_rules.specs.Beginning.{root_eps}
use Rattle.lake_sets.specs.laws.Begins.{root-eps}
use Rattle.lake_sets.proofs.mark_round.Goals as goal

pub returns : goal.returns
returns c = λ x h. c.gather.ensures ∙ up_to-same false
    (λ r. root_eps (pair_at [] c.begin_all.new.eps)
    (root_in c.args.t.now r))
    (λ r. root_eps (λ j. get_or (begins_in c.args.t.now
    c.args.marks.now
    (length c.args.sets.now)) j nothing)
    (root_in c.args.t.now r))
    (length c.args.marks.now)
    (λ i p. root-eps (root_in c.args.t.now i)
    (pair_at [] c.begin_all.new.eps)
    (λ j. get_or (begins_in c.args.t.now
    c.args.marks.now
    (length c.args.sets.now)) j nothing)
    (λ j. ap (λ (z : Beginning). z.eps) (c.begin_all.ensures
    (length c.args.marks.now) x h j)))
