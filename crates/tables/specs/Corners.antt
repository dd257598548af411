-- The corners and edges of a regular cell (document 01, 'Regular cells'). An edge is the low byte of its code: corner a, then corner b.
use Rattle.std.specs.Prelude.{List, [], ◌∷◌, ℕ, ◌-◌, ◌/◌, ◌%◌, ◌^◌}
use Rattle.tables.specs.Codes.{point_a, point_b}

unfoldable pub bit : ℕ → ℕ → ℕ
bit k a = k / 2 ^ a % 2

-- 'case number adds 2^k for each inside corner': 1 if corner k is inside, else 0
abbrev pub regular_inside : ℕ → ℕ → ℕ
regular_inside case k = bit case k

-- 'Corner k of a cell is offset (k bit 0, k bit 1, k bit 2)'
abbrev pub corner_x : ℕ → ℕ
corner_x k = k % 2

abbrev pub corner_y : ℕ → ℕ
corner_y k = k / 2 % 2

abbrev pub corner_z : ℕ → ℕ
corner_z k = k / 4 % 2

-- the direction of an edge, from a to b: 0, 1, 2 for x, y, z
abbrev pub axis_of : ℕ → ℕ
axis_of edge = (point_b edge - point_a edge) / 2

-- 'Used codes, twelve'
unfoldable pub regular_used : List ℕ
regular_used =
    0x6201 ∷ 0x5102 ∷ 0x3304 ∷ 0x2315 ∷ 0x4113 ∷ 0x4223 ∷
    0x1326 ∷ 0x2245 ∷ 0x1146 ∷ 0x8337 ∷ 0x8157 ∷ 0x8267 ∷
    []

-- the twelve edges of a cell
unfoldable pub regular_edges : List ℕ
regular_edges = 0x01 ∷ 0x02 ∷ 0x04 ∷ 0x15 ∷ 0x13 ∷ 0x23 ∷ 0x26 ∷ 0x45 ∷ 0x46 ∷ 0x37 ∷ 0x57 ∷ 0x67 ∷ []
