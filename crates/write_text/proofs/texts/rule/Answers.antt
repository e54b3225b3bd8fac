use Rattle.write_leaves.specs.laws.Pen.{then, said}
use Rattle.write_text.specs.laws.Pages.{rule-text}
use Rattle.write_text.proofs.texts.rule.Goals as goal

pub returns : goal.returns
returns c = said _ (rule-text _ _) (then _ _ _ c.symbol.ensures (then _ _ _ c.emit_all.ensures (then _ _ _ c.exp.ensures c.emit.ensures)))
