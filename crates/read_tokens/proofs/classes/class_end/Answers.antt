use mathlib.Core.Path.{sym, ap, ◌∙◌}
use native.Mathlib.Omega.{arith}
use Prim.Native.Nat.{◌+◌}
use Rattle.read_tokens.specs.steps.Code.{caret_at}
use Rattle.read_tokens.proofs.CharSteps.{byte-is}
use Rattle.read_tokens.proofs.ClassSteps.{class-none, class-caret, class-raw, caret-inside, filled-as}
use Rattle.read_tokens.proofs.classes.class_end.Goals as goal

pub returns-then-text-at : goal.returns-then-text-at
returns-then-text-at c = class-none c.args.mode c.args.text.now c.args.at c.if-text-at.true

pub class_from-requires : goal.class_from-requires
class_from-requires c = (
  omega (arith, caret-inside c.args.mode c.args.text.now (c.args.at + 1) (ap (caret_at c.args.mode) (byte-is c.args.text.now _ c.byte_at.ensures) ∙ sym c.is_caret.ensures ∙ c.if-is_caret.true)),
  c.requires,
)

pub returns-then-is_caret : goal.returns-then-is_caret
returns-then-is_caret c = filled-as _ _ (class-caret c.args.mode c.args.text.now c.args.at (ap (caret_at c.args.mode) (byte-is c.args.text.now _ c.byte_at.ensures) ∙ sym c.is_caret.ensures
    ∙ c.if-is_caret.true)) c.class_from.ensures

pub returns : goal.returns
returns c = filled-as _ _ (class-raw c.args.mode c.args.text.now c.args.at (ap (caret_at c.args.mode) (byte-is c.args.text.now _ c.byte_at.ensures) ∙ sym c.is_caret.ensures
    ∙ c.if-is_caret.false)) c.class_from-2.ensures
