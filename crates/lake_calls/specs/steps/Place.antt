-- A place among n, n where there is none. Assumes nothing: these are definitions.
use Rattle.std.specs.Prelude.{ℕ, Option as Optional, Some, None}
use Rattle.std.proofs.Math.Option.{Option, none, some}

abbrev pub placed : ℕ → Option ℕ → ℕ
placed n none = n
placed n (some r) = r

-- a place that code has found, if it has
abbrev pub found : Optional ℕ → Option ℕ
found None = none
found (Some r) = some r
