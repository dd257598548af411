-- What the walk over the named sides gives: the first at or after a side, or that there is none.
use Rattle.std.specs.Prelude.{ℕ, ◌+◌, ◌<◌, ◌≡◌, Option, Some, None}
use Rattle.model.specs.Limits.{side_count}
use Rattle.grid.specs.SideLaws.{NextSide}

abbrev pub SideGiven : ℕ → ℕ → Option ℕ → ℕ → ℕ → Type 0
SideGiven mask from (Some side) mask' from' = (NextSide mask from side × (side < side_count)) × ((mask' ≡ mask) × (from' ≡ side + 1))
SideGiven mask from None mask' from' = NextSide mask from side_count × ((mask' ≡ mask) × (from' ≡ from))
