use Prim.Native.Nat.{◌-◌, ◌≤◌, ◌<◌}
use mathlib.Core.Path.{◌≡◌}
use lib.ListN.{length}
use Rattle.read_tokens.specs.Tokens.{lexemes}
use Rattle.read_tokens.specs.laws.Forward.{lexemes_at}
use Rattle.read_syntax.specs.Machine.{judge, start}
use Rattle.read_syntax.specs.Reading.{offence}
use Rattle.read_syntax.specs.steps.Numbers.{state_of, judged_at}
use Rattle.read_syntax.proofs.syntax.offending.Given as goal

abbrev pub invariant-loop-mode : goal.invariant-loop-mode
invariant-loop-mode l =
    (l.c < 7) × (l.d ≤ l.at) × (l.at ≤ length l.text) × (l.c < 2 → l.d ≡ 0) ×
    (judged_at l.mode (length l.text) (state_of l.c l.d) (lexemes_at l.mode l.text l.at) ≡ offence (length l.text) (lexemes l.mode l.text) (judge l.mode 0 start (lexemes l.mode l.text)))

abbrev pub decreases-loop-mode : goal.decreases-loop-mode
decreases-loop-mode l = length l.text - l.at
