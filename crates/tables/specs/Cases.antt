-- The tables by case number and position: what every later definition reads of them. Outside a table the answer is 0.
use Rattle.std.specs.Prelude.{Bool, cond, List, [], ℕ, ◌+◌, ◌-◌, ◌*◌, ◌/◌, ◌%◌, leb, get_or}
use Rattle.tables.specs.RegularRows as regular
use Rattle.tables.specs.TransitionRows as transition

-- what a class's row of cell data says: the counts byte has the vertices in its high nibble and the triangles in its low one, and the corners
-- of the triangles follow
abbrev pub vertices_of : List ℕ → ℕ
vertices_of cell = get_or cell 0 0 / 16

abbrev pub triangles_of : List ℕ → ℕ
triangles_of cell = get_or cell 0 0 % 16

abbrev pub corner_of : List ℕ → ℕ → ℕ
corner_of cell j = get_or cell (j + 1) 0

-- ---- regular cells

unfoldable pub regular_class : ℕ → ℕ
regular_class case = get_or regular.classes case 0

-- a case's row of vertex codes, and its class's row of cell data
unfoldable pub regular_codes : ℕ → List ℕ
regular_codes case = get_or regular.vertex_rows case []

unfoldable pub regular_cell : ℕ → List ℕ
regular_cell case = get_or regular.cell_rows (regular_class case) []

unfoldable pub regular_code : ℕ → ℕ → ℕ
regular_code case i = get_or (regular_codes case) i 0

unfoldable pub regular_vertices : ℕ → ℕ
regular_vertices case = vertices_of (regular_cell case)

unfoldable pub regular_triangles : ℕ → ℕ
regular_triangles case = triangles_of (regular_cell case)

-- the j-th corner of the case's triangles: a position in its row of codes
unfoldable pub regular_corner : ℕ → ℕ → ℕ
regular_corner case j = corner_of (regular_cell case) j

-- ---- transition cells

unfoldable pub transition_class : ℕ → ℕ
transition_class case = get_or transition.classes case 0

unfoldable pub transition_codes : ℕ → List ℕ
transition_codes case = get_or transition.vertex_rows case []

-- class & 0x7F picks the cell data
unfoldable pub transition_cell : ℕ → List ℕ
transition_cell case = get_or transition.cell_rows (transition_class case % 128) []

unfoldable pub transition_code : ℕ → ℕ → ℕ
transition_code case i = get_or (transition_codes case) i 0

unfoldable pub transition_vertices : ℕ → ℕ
transition_vertices case = vertices_of (transition_cell case)

unfoldable pub transition_triangles : ℕ → ℕ
transition_triangles case = triangles_of (transition_cell case)

unfoldable pub transition_corner : ℕ → ℕ → ℕ
transition_corner case j = corner_of (transition_cell case) j

-- bit 0x80 of the class: a triangle's corners go out 3, 2, 1
unfoldable pub transition_turned : ℕ → Bool
transition_turned case = leb 128 (transition_class case)

-- the winding: clear sends a triangle's corners out 1, 2, 3 and set sends them 3, 2, 1
abbrev pub sent : Bool → ℕ → ℕ
sent turned j = cond turned (3 * (j / 3) + (2 - j % 3)) j
