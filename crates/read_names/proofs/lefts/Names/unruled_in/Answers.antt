use Rattle.std.proofs.Common.{ℕ, length, subst, arith, Option, Some, None, MatchOption}
use Rattle.grammar_table.specs.Table.{table_words}
use Rattle.read_order.specs.steps.Order.{within}
use Rattle.read_names.specs.steps.Lefts.{Swept4, lacks5}
use Rattle.read_names.specs.laws.Sweeps.{swept-sooner}
use Rattle.read_names.specs.laws.Marks.{knows-none}
use Rattle.read_names.proofs.lefts.Names.unruled_in.Goals as goal

pub sweep-requires : goal.sweep-requires
sweep-requires c = (omega arith, knows-none _ _ _ _ table_words)

pub returns-else-r : goal.returns-else-r
returns-else-r c =
    let s = c.args.self.now in (
      swept-sooner s.mode s.text.now (lacks5 s.mode s.text.now) (within s.text.now s.range.low s.range.high) c.args.limit _ c.requires (c.in_ok-r.ensures.1 c.if-r.false),
      subst (λ (r : ℕ). Swept4 s.mode s.text.now s.range.low s.range.high (length s.text.now) r) c.if-r-end.false c.in_ok-r.ensures.0.0,
    )

pub uses-requires : goal.uses-requires
uses-requires c = (c.requires, c.in_ok-r.ensures.0.1 c.if-r-end.false)

both : (P : ℕ → Type 0) (Q : Type 0) (o : Option ℕ) → MatchOption o (Unit {0}) P → Q → MatchOption o (Unit {0}) (λ r. P r × Q)
both P Q None h q = tt
both P Q (Some r) h q = (h, q)

pub returns-then-r : goal.returns-then-r
returns-then-r c =
    let s = c.args.self.now in
    both _ _ c.uses.result c.uses.ensures
    (subst (λ (r : ℕ). Swept4 s.mode s.text.now s.range.low s.range.high (length s.text.now) r) c.if-r-end.false c.in_ok-r.ensures.0.0)
