-- What is decided, as evaluation has it. Assumes nothing: these are definitions.
use Rattle.std.specs.Prelude.{ℕ}
use Rattle.match_firsts.specs.declared.Decided.{Decided}
use Rattle.match_firsts.specs.declared.Decided.TheVariants.{Fails, Empty, Takes}

-- 0 for failure, else 1 + the bytes taken
abbrev pub taken_of : Decided → ℕ
taken_of Fails = 0
taken_of Empty = 1
taken_of Takes = 2
