use mathlib.Core.Path.{refl, ◌∙◌}
use Rattle.read_tokens.proofs.LiteralSteps.{bad-is}
use Rattle.read_tokens.proofs.ClassSteps.{token-bad, token-class}
use Rattle.read_tokens.proofs.class_token.Goals as goal

pub class_end-requires : goal.class_end-requires
class_end-requires c = refl

pub returns-in-Some : goal.returns-in-Some
returns-in-Some c = c.plain.ensures ∙ token-class c.args.mode c.args.text.now c.args.at _ _ c.in-Some.ensures.0 c.in-Some.ensures.1

pub returns-in-None : goal.returns-in-None
returns-in-None c = c.plain-in-None.ensures ∙ bad-is c.args.at ∙ token-bad c.args.mode c.args.text.now c.args.at c.in-None.ensures
