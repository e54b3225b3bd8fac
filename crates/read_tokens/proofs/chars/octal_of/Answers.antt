use mathlib.Core.Path.{refl, ap}
use Prim.Native.Nat.{◌-◌}
use native.Mathlib.Omega.{arith}
use Rattle.std.specs.Prelude.{unwrap_or}
use Rattle.read_tokens.specs.steps.Code.{char_of}
use Rattle.read_tokens.proofs.CharSteps.{octals-1, octals-2, octals-2', octals-3}
use Rattle.read_tokens.proofs.chars.octal_of.Goals.{then-x-le-FIRST_OCTAL+in_default-digit, else-x-le-FIRST_OCTAL}
use Rattle.read_tokens.proofs.chars.octal_of.Goals as goal

pub returns-in_default : goal.returns-in_default
returns-in_default c = ap char_of (octals-1 _ (unwrap_or c.args.d 256) (unwrap_or c.args.e 256) c.args.x (unwrap_or c.args.d 256 - 48) (unwrap_or c.args.e 256 - 48)
    (omega arith) refl refl c.in_default.ensures)

pub returns-in-Some-digit : goal.returns-in-Some-digit
returns-in-Some-digit c = ap char_of (octals-3 _ (unwrap_or c.args.d 256) (unwrap_or c.args.e 256) c.args.x c.in-Some.y c.in-Some-digit.z
    (omega arith) (omega (arith, c.in-Some.ensures.1)) (omega (arith, c.in-Some-digit.ensures.1)) c.in-Some.ensures.0 (omega (arith, c.if-x-le-FIRST_OCTAL.true)) c.in-Some-digit.ensures.0)

pub returns : goal.returns
returns c =
    elim c.if-x-le-FIRST_OCTAL.branch [
      | then-x-le-FIRST_OCTAL+in_default-digit w ↦ ap char_of (octals-2' _ (unwrap_or c.args.d 256) (unwrap_or c.args.e 256) c.args.x c.in-Some.y (unwrap_or c.args.e 256 - 48)
          (omega arith) (omega (arith, c.in-Some.ensures.1)) refl c.in-Some.ensures.0 (omega (arith, w.if-x-le-FIRST_OCTAL.true)) w.in_default-digit.ensures)
      | else-x-le-FIRST_OCTAL w ↦ ap char_of (octals-2 _ (unwrap_or c.args.d 256) (unwrap_or c.args.e 256) c.args.x c.in-Some.y (unwrap_or c.args.e 256 - 48)
          (omega arith) (omega (arith, c.in-Some.ensures.1)) refl c.in-Some.ensures.0 (omega (arith, w.if-x-le-FIRST_OCTAL.false)))
    ]
