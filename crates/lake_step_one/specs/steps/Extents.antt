-- Where a body's expressions stand in a table, by its word there, which is 0 where there is no body. Assumes nothing: these are definitions.
use Rattle.std.specs.Prelude.{ℕ, ◌≡◌, Option, Some, None}
use Rattle.lake_step_one.specs.declared.extent.Extent.{Extent}

abbrev pub from_of : Option Extent → ℕ
from_of None = 0
from_of (Some x) = x.from

abbrev pub end_of : Option Extent → ℕ
end_of None = 0
end_of (Some x) = x.end

-- from `a` on, to a body's word
abbrev pub Spans : ℕ → ℕ → Option Extent → Type 0
Spans a b None = b ≡ 0
Spans a b (Some x) = (x.from ≡ a) × (x.end ≡ b)
