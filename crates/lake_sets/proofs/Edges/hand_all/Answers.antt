use Rattle.std.proofs.Common.{arith, sym, ap, ◌∙◌, ◌≡◌, List, ◌++◌, [], length}
use Rattle.base_rounds.specs.Flow.{Edge}
use Rattle.grammar_table.specs.Table.{part_in}
use Rattle.lake_rules.proofs.laws.Over.{over_none}
use Rattle.lake_sets.specs.steps.Steps.{pair_at, root_in, kept, edges_by, handed}
use Rattle.lake_sets.specs.laws.Edges.{edges-two, kept-long, handed-next}
use Rattle.lake_sets.proofs.Edges.hand_all.Goals as goal

pub loop-e-init : goal.loop-e-init
loop-e-init c = (
  omega arith,
  rw c.requires.1 (sym (over_none (λ i p. kept (length c.args.eps.now) (edges_by c.args.back (pair_at [] c.args.eps.now) (root_in c.args.t.now) i p)) (part_in c.args.t.now))),
)

pub loop-e-preserved : goal.loop-e-preserved
loop-e-preserved c = let es = edges_by c.args.back (pair_at [] c.args.eps.now) (root_in c.args.t.now) c.loop-e.e (part_in c.args.t.now c.loop-e.e) in (
  omega (
    arith,
    c.hand.ensures.most,
    kept-long (length c.args.eps.now) es,
    edges-two (pair_at [] c.args.eps.now) (root_in c.args.t.now) c.loop-e.e c.args.back (part_in c.args.t.now c.loop-e.e),
  ),
  c.hand.ensures.all ∙ ap (λ (l : List Edge). l ++ kept (length c.args.eps.now) es) c.loop-e.invariant.1
      ∙ sym (handed-next c.args.t.now c.args.eps.now c.args.back (length c.args.eps.now) c.loop-e.e),
)

pub returns : goal.returns
returns c = let q : c.loop-e.e ≡ length c.args.eps.now = omega arith in (
  omega arith,
  c.loop-e.invariant.1 ∙ ap (handed c.args.t.now c.args.eps.now c.args.back (length c.args.eps.now)) q,
)
