-- The directed sides of a regular case's triangles, and what a face shows of them: the words of T4. An edge of the cell is its code's low byte;
-- d is 0, 1, 2 for x, y, z; the near face in direction d has the corners whose bit d is clear, the far face those whose bit d is set.
use Rattle.std.specs.Prelude.{◌≡◌, refl, Bool, false, List, [], ◌∷◌, ◌++◌, map, ℕ, suc, ◌+◌, ◌*◌, ◌/◌, ◌%◌, ◌^◌, eqb, get_or}
use Rattle.tables.specs.Codes.{point_a, point_b, edge_of}
use Rattle.tables.specs.Corners.{bit, regular_edges}
use Rattle.laws.specs.Tests.{both, either}
use Rattle.laws.specs.Counting.{one, gather, has, only, weighed}
use Rattle.tables.specs.Cases.{triangles_of, corner_of, regular_codes, regular_cell, regular_code, regular_triangles, regular_corner, sent}

-- a directed side: from the edge p to the edge q
unfoldable pub side : ℕ → ℕ → ℕ
side p q = 256 * p + q

unfoldable pub back : ℕ → ℕ
back s = side (s % 256) (s / 256)

-- the three sides of triangle t, where `edge j` is the edge at the j-th corner
unfoldable pub sides_of : (ℕ → ℕ) → ℕ → List ℕ
sides_of edge t =
    side (edge (3 * t)) (edge (3 * t + 1)) ∷ side (edge (3 * t + 1)) (edge (3 * t + 2)) ∷ side (edge (3 * t + 2)) (edge (3 * t)) ∷ []

-- those of all triangles of a row of codes and its class's row of cell data, as they are sent
unfoldable pub row_sides : Bool → List ℕ → List ℕ → List ℕ
row_sides turned codes cell = gather (sides_of (λ j. edge_of (get_or codes (corner_of cell (sent turned j)) 0))) (triangles_of cell)

unfoldable pub regular_sides : ℕ → List ℕ
regular_sides case = row_sides false (regular_codes case) (regular_cell case)

-- by case number and position
pub regular_sides_lem : (case : ℕ)
    → regular_sides case ≡ gather (sides_of (λ j. edge_of (regular_code case (regular_corner case j)))) (regular_triangles case)
unfolding regular_sides row_sides regular_code regular_corner regular_triangles
regular_sides_lem case = refl

-- how many sides of a list run from the edge p to the edge q
unfoldable pub runs : List ℕ → ℕ → ℕ → ℕ
runs sides p q = weighed (λ s. one (eqb s (side p q))) sides

-- ---- faces

-- how many of an edge's two ends have the bit d set
unfoldable pub far_ends : ℕ → ℕ → ℕ
far_ends d e = bit (point_a e) d + bit (point_b e) d

-- e is an edge of the near face
unfoldable pub near_edge : ℕ → ℕ → Bool
near_edge d e = both (eqb (far_ends d e) 0) (has e regular_edges)

-- the ends of both edges lie all on the near face, or all on the far face
unfoldable pub common_face : ℕ → ℕ → ℕ → Bool
common_face d p q = either (eqb (far_ends d p + far_ends d q) 0) (eqb (far_ends d p + far_ends d q) 4)

unfoldable pub near_side : ℕ → ℕ → Bool
near_side d s = both (near_edge d (s / 256)) (near_edge d (s % 256))

-- an edge of the near face, as the cell on its other side has it: on its far face; and a side alike
unfoldable pub far_edge : ℕ → ℕ → ℕ
far_edge d e = e + 17 * 2 ^ d

unfoldable pub far_side : ℕ → ℕ → ℕ
far_side d s = s + 257 * (17 * 2 ^ d)

-- the j-th corner of the near face
unfoldable pub near_corner : ℕ → ℕ → ℕ
near_corner d j = j / 2 ^ d * 2 ^ suc d + j % 2 ^ d

-- which corners of a face are inside, as four bits
unfoldable pub near_bits : ℕ → ℕ → ℕ
near_bits d case =
    bit case (near_corner d 0) + 2 * bit case (near_corner d 1) + 4 * bit case (near_corner d 2) + 8 * bit case (near_corner d 3)

unfoldable pub far_bits : ℕ → ℕ → ℕ
far_bits d case =
    bit case (near_corner d 0 + 2 ^ d) + 2 * bit case (near_corner d 1 + 2 ^ d)
    + 4 * bit case (near_corner d 2 + 2 ^ d) + 8 * bit case (near_corner d 3 + 2 ^ d)

-- the case with the bits f at its near face and no corner inside elsewhere
unfoldable pub spread : ℕ → ℕ → ℕ
spread d f =
    bit f 0 * 2 ^ near_corner d 0 + bit f 1 * 2 ^ near_corner d 1 + bit f 2 * 2 ^ near_corner d 2 + bit f 3 * 2 ^ near_corner d 3

-- the sides that a near face with the bits f shows
unfoldable pub shown : ℕ → ℕ → List ℕ
shown d f = only (near_side d) (regular_sides (spread d f))

-- ---- a case's sides, with what its six faces show of the neighbours

unfoldable pub nears : ℕ → ℕ → List ℕ
nears d case = shown d (near_bits d case)

unfoldable pub fars : ℕ → ℕ → List ℕ
fars d case = map (far_side d) (shown d (far_bits d case))

unfoldable pub inflow : ℕ → List ℕ
inflow case =
    regular_sides case
    ++ (fars 0 case ++ map back (nears 0 case)) ++ (fars 1 case ++ map back (nears 1 case)) ++ (fars 2 case ++ map back (nears 2 case))

unfoldable pub outflow : ℕ → List ℕ
outflow case =
    map back (regular_sides case)
    ++ (map back (fars 0 case) ++ nears 0 case) ++ (map back (fars 1 case) ++ nears 1 case) ++ (map back (fars 2 case) ++ nears 2 case)
