use Prim.Native.Nat.{◌-◌, ◌≤◌}
use mathlib.Core.Path.{◌≡◌}
use lib.ListN.{length}
use Rattle.read_tokens.specs.Tokens.{lexemes}
use Rattle.read_tokens.specs.laws.Forward.{lexemes_at}
use Rattle.read_syntax.specs.Reading.{lefts_in, unruled}
use Rattle.read_walks.proofs.unruled_walked.Given as goal

abbrev pub invariant-loop-mode : goal.invariant-loop-mode
invariant-loop-mode l = (l.at ≤ length l.text) × (unruled (lefts_in (lexemes l.mode l.text)) (lexemes_at l.mode l.text l.at) ≡ unruled (lefts_in (lexemes l.mode l.text)) (lexemes l.mode l.text))

abbrev pub decreases-loop-mode : goal.decreases-loop-mode
decreases-loop-mode l = length l.text - l.at
