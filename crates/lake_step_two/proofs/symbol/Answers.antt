use Rattle.std.proofs.Common.{sym, subst, ℕ, ◌+◌, Bool}
use Rattle.lake_step_one.specs.steps.Extents.{from_of, end_of}
use Rattle.lake_step_one.proofs.laws.Next.{next-lt}
use Rattle.lake_step_two.specs.steps.Skips.{PlainTo}
use Rattle.lake_step_two.specs.steps.Stepped.{PlainMade}
use Rattle.lake_step_two.proofs.laws.Skips.{plain-spanned}
use Rattle.lake_step_two.proofs.laws.Stepped.{plain-next}
use Rattle.lake_step_two.proofs.symbol.Goals as goal

pub returns : goal.returns
returns c = (
  next-lt c.args.from c.body-b.result c.next_from.result c.next_from.ensures c.requires.1 c.body-b.ensures.1,
  c.body-count.ensures.0,
  λ g a er ex l old. subst (λ (f : ℕ). PlainMade c.args.t.now g (c.args.s + 1) f c.body-count.result c.store_body.new.t) (sym c.next_from.ensures)
      (plain-next c.args.t.now c.args.alts.now c.args.among.symbols c.args.among.terminals c.args.s c.args.from c.args.m c.body-b.result
      c.body-count.result c.cap.result c.alt_of-alt.result c.args.out.now c.body-count.new.out c.store_body.new.t c.requires.0 c.body-b.ensures.0
      c.alt_of-alt.ensures
      (plain-spanned c.args.t.now _ c.alt_of-alt.result c.args.among.symbols c.args.among.terminals c.args.from c.body-b.result c.of-own.result
      c.args.out.now c.args.m c.body-count.new.out c.body-count.result c.of-own.ensures
      (subst (λ (k : Bool). PlainTo c.args.t.now k c.alt_of-alt.result c.args.among.symbols c.args.among.terminals (from_of c.of-own.result)
      (end_of c.of-own.result) c.args.out.now c.args.m c.body-count.new.out c.body-count.result) c.is_lake.ensures c.body-count.ensures.1))
      c.cap.ensures.1 c.store_body.ensures g a er ex l old),
)
