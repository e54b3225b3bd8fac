use mathlib.Core.Path.{sym, ap}
use Prim.Native.Nat.{ℕ}
use native.Mathlib.Omega.{arith}
use Rattle.read_tokens.proofs.CharSteps.{letters-no, letters-quote, letters-near}
use Rattle.read_tokens.specs.Chars.{letters}
use Rattle.read_tokens.specs.steps.Code.{char_of}
use Rattle.read_tokens.proofs.chars.letter_of.Goals as goal

pub returns-in-110 : goal.returns-in-110
unfolding letters
returns-in-110 c = ap (λ (x : ℕ). char_of (letters x)) (sym c.in-110.is)

pub returns-in-114 : goal.returns-in-114
unfolding letters
returns-in-114 c = ap (λ (x : ℕ). char_of (letters x)) (sym c.in-114.is)

pub returns-in-116 : goal.returns-in-116
unfolding letters
returns-in-116 c = ap (λ (x : ℕ). char_of (letters x)) (sym c.in-116.is)

pub returns-in_default : goal.returns-in_default
returns-in_default c = ap char_of (letters-no c.args.c (λ e. omega (arith, e)) (λ e. omega (arith, e)) (λ e. omega (arith, e)) (λ e. grind (arith, e))
    (λ e. grind (arith, e)) (λ e. omega (arith, e)) (λ e. omega (arith, e)) (λ e. omega (arith, e)))

pub returns-in_default-2 : goal.returns-in_default-2
returns-in_default-2 c = ap char_of (letters-no c.args.c (λ e. omega (arith, e)) (λ e. omega (arith, e)) (λ e. omega (arith, e)) (λ e. grind (arith, e))
    (λ e. grind (arith, e)) (λ e. omega (arith, e)) (λ e. omega (arith, e)) (λ e. omega (arith, e)))

pub returns-in-39 : goal.returns-in-39
returns-in-39 c = ap char_of (letters-quote c.args.c c.in-39.is)

pub returns-in-39-2 : goal.returns-in-39-2
returns-in-39-2 c = ap char_of (letters-near c.args.c (omega arith) (omega arith))
