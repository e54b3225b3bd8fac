use Rattle.std.proofs.Common.{rules, ap, sym, ◌∙◌, ℕ, length, length-set}
use Rattle.std.proofs.lemmas.List.{length_push}
use Rattle.std.proofs.lemmas.Slice.Zip.{zip_turn}
use Rattle.base_rounds.specs.laws.Sys.{pushed}
use Rattle.base_rounds.proofs.laws.Sys.{pushed_more}
use Rattle.base_rounds.proofs.push.Goals as goal

pub loop-from-preserved : goal.loop-from-preserved
loop-from-preserved c =
    let turn = zip_turn c.args.src.now c.args.dst.now c.loop-from.yielded c.into_iter-from-iterator.result c.loop-from.from-iterator c.next.new.self
    _ (search rules) (search rules) c.loop-from.yielded_by _ c.in-Some.is c.next.ensures.steps in (
      simp length-set c.loop-from.invariant.0,
      pushed_more c.args.src.now c.args.dst.now (length c.loop-from.yielded) _ _ c.args.old.now c.args.new.now _ _ (turn.2 0) (turn.3 0) c.loop-from.invariant.1 c.union.ensures
          ∙ ap (λ (m : ℕ). pushed c.args.src.now c.args.dst.now m c.args.old.now c.args.new.now) (sym (length_push c.loop-from.yielded (c.in-Some.from, c.in-Some.to))),
    )
