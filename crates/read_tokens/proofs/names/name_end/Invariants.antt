use mathlib.Core.Path.{◌≡◌}
use Prim.Native.Nat.{◌+◌}
use lib.ListN.{length, drop}
use Rattle.read_tokens.specs.Tokens.{name_span}
use Rattle.read_tokens.proofs.names.name_end.Given as goal

abbrev pub invariant-loop-i : goal.invariant-loop-i
invariant-loop-i l = l.i + length (name_span (drop l.i l.text)) ≡ l.from + length (name_span (drop l.from l.text))
