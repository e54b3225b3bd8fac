use Rattle.std.proofs.Common.{ap, sym, subst, ℕ, ◌+◌, Bool, not, eqb}
use Rattle.lake_step_one.specs.steps.Extents.{from_of, end_of}
use Rattle.lake_step_one.specs.steps.Runs.{BodyTo}
use Rattle.lake_step_one.specs.steps.Made.{Made}
use Rattle.lake_step_one.proofs.laws.Extents.{body-spanned}
use Rattle.lake_step_one.proofs.laws.Next.{next-lt, made-next}
use Rattle.lake_step_one.proofs.symbol.Goals as goal

pub returns : goal.returns
returns c = (
  next-lt c.args.from c.body-b.result c.next_from.result c.next_from.ensures c.requires.1 c.body-b.ensures.1,
  c.body-count.ensures.0,
  λ g h l w old. subst (λ (f : ℕ). Made c.args.t.now g (c.args.r + 1) f c.body-count.result c.store_body.new.t) (sym c.next_from.ensures)
      (made-next c.args.t.now c.args.r (from_of c.args.water) (end_of c.args.water) c.args.from c.args.m c.body-b.result c.body-count.result c.end_word.result
      c.args.mid.now c.body-count.new.mid c.store_body.new.t c.requires.0 c.body-b.ensures.0
      (body-spanned c.args.t.now _ c.args.from c.body-b.result _ _ c.of-own.result c.args.mid.now c.args.m c.body-count.new.mid c.body-count.result c.of-own.ensures
      (subst (λ (b : Bool). BodyTo c.args.t.now b (from_of c.of-own.result) (end_of c.of-own.result) (from_of c.args.water) (end_of c.args.water) c.args.mid.now c.args.m
      c.body-count.new.mid c.body-count.result) c.is_lake.ensures
      c.body-count.ensures.1)) c.end_word.ensures.1 c.store_body.ensures g h l w old),
)
