use Rattle.std.proofs.Common.{sym, ◌∙◌}
use Rattle.read_tokens.specs.declared.Kind.TheVariants.{End}
use Rattle.read_tokens.specs.laws.Tags.{kind-yes, kind-no}
use Rattle.read_grammar.specs.laws.Glue.{over-end, over-next}
use Rattle.read_grammar.proofs.Reader.over.Goals as goal

pub returns-then-eq : goal.returns-then-eq
returns-then-eq c = over-end _ _ _ _ c.token-kind.ensures (kind-yes _ End (sym c.eq.ensures ∙ c.if-eq.true)) c.requires

pub returns-else-eq : goal.returns-else-eq
returns-else-eq c = over-next _ _ _ _ c.token-kind.ensures (kind-no _ End (sym c.eq.ensures ∙ c.if-eq.false))
