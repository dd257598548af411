-- Document 01, 'The block and its samples': the sides as bits of a mask, and the part of the neighbour list that is a side's.
-- LowX 0, HighX 1, LowY 2, HighY 3, LowZ 4, HighZ 5. Definitions only.
use Rattle.std.specs.Prelude.{ℕ, ◌+◌, ◌*◌, ◌/◌, ◌%◌, ◌^◌, Bool, List, eqb, Float, take, drop}
use Rattle.std.specs.Int.Count.{ones}
use Rattle.model.specs.Samples.{sample_length}

unfoldable pub named : ℕ → ℕ → Bool
named mask side = eqb (mask / 2 ^ side % 2) 1

-- a neighbour block has 2n subdivisions
abbrev pub neighbour_length : ℕ → ℕ
neighbour_length n = sample_length (2 * n)

-- the number of sides named by the mask times the length of one neighbour block
abbrev pub neighbours_length : ℕ → ℕ → ℕ
neighbours_length n mask = ones mask * neighbour_length n

-- the samples of a block and of its neighbours
abbrev pub sample_count : ℕ → ℕ → ℕ
sample_count n mask = sample_length n + neighbours_length n mask

-- how many sides below this one the mask names
abbrev pub named_below : ℕ → ℕ → ℕ
named_below mask side = ones (mask % 2 ^ side)

-- the samples of the neighbour at a named side
unfoldable pub neighbour_of : ℕ → ℕ → List Float → ℕ → List Float
neighbour_of n mask neighbours side =
    take (neighbour_length n) (drop (named_below mask side * neighbour_length n) neighbours)
