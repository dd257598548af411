-- Document 01, 'Answers by number', and document 02, [9]: the limits, each by its one name. Definitions only.
use Rattle.std.specs.Prelude.{ℕ, ◌*◌}

-- n is at most this; a neighbour block has twice as many subdivisions
abbrev pub most_subdivisions : ℕ
most_subdivisions = 64

abbrev pub most_fine : ℕ
most_fine = 2 * most_subdivisions

-- LowX, HighX, LowY, HighY, LowZ, HighZ, as bits of a mask
abbrev pub side_count : ℕ
side_count = 6

abbrev pub most_mask : ℕ
most_mask = 63

-- a base, a threshold and a sample are at most this in size, and a block's size too; a block's size is at least one part of so many
abbrev pub most_size : ℕ
most_size = 1048576

abbrev pub least_part : ℕ
least_part = 1024
