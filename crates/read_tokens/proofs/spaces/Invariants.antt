use mathlib.Core.Path.{◌≡◌}
use mathlib.Core.Bool.{false}
use lib.ListN.{drop}
use Rattle.read_tokens.specs.Tokens.{skip}
use Rattle.read_tokens.proofs.spaces.Given as goal

abbrev pub invariant-loop-i : goal.invariant-loop-i
invariant-loop-i l = skip false l.i (drop l.i l.text) ≡ skip false l.at (drop l.at l.text)
