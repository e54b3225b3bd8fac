use mathlib.Core.Path.{sym, ◌∙◌}
use Rattle.prepare.specs.laws.Reads.{with-own, refused-both}
use Rattle.prepare.proofs.plainly.Goals as goal

pub returns-then-is_refused : goal.returns-then-is_refused
returns-then-is_refused c = refused-both c.translated-c.ensures (sym c.is_refused.ensures ∙ c.if-is_refused.true)

pub own_again-requires : goal.own_again-requires
own_again-requires c = c.translated-c.ensures.clear (sym c.is_refused.ensures ∙ c.if-is_refused.false)

pub returns : goal.returns
returns c = with-own c.translated-c.ensures c.own_again.ensures
