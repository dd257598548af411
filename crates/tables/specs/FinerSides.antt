-- The directed sides of a transition case's triangles, as they are sent, and what a cell's four borders and its coarse face show of them: the words of
-- the law at the finer face. An edge of the cell is its code's low byte; d is 0, 1 for u, v. The low border across d has the points at place 0 along it,
-- the high border those at place 2: three edges, two on the fine face and one on the coarse one.
use Rattle.std.specs.Prelude.{◌≡◌, refl, Bool, not, List, ◌++◌, map, ℕ, ◌+◌, ◌-◌, ◌*◌, ◌/◌, ◌%◌, ◌^◌, eqb, ltb}
use Rattle.laws.specs.Tests.{both, either}
use Rattle.laws.specs.Counting.{pick, one, gather, has, only}
use Rattle.tables.specs.Codes.{point_a, point_b, edge_of}
use Rattle.tables.specs.Corners.{bit}
use Rattle.tables.specs.Points.{contribution_of, fine_of, point_u, point_v, point_face, transition_inside}
use Rattle.tables.specs.Sides.{side, back, sides_of, row_sides, near_corner}
use Rattle.tables.specs.Cases.{transition_codes, transition_cell, transition_code, transition_triangles, transition_corner, transition_turned, sent}
use Rattle.tables.specs.RulesTransition.{transition_edges}

unfoldable pub transition_sides : ℕ → List ℕ
transition_sides case = row_sides (transition_turned case) (transition_codes case) (transition_cell case)

-- by case number and position
pub transition_sides_lem : (case : ℕ)
    → transition_sides case
    ≡ gather (sides_of (λ j. edge_of (transition_code case (transition_corner case (sent (transition_turned case) j))))) (transition_triangles case)
unfolding transition_sides row_sides transition_code transition_corner transition_triangles
transition_sides_lem case = refl

-- ---- the four borders

unfoldable pub fine_edge : ℕ → Bool
fine_edge e = eqb (point_face (point_a e)) 0

-- the places of an edge's two ends across direction d, added: 0 on the low border, 4 on the high one
unfoldable pub across : ℕ → ℕ → ℕ
across d e = pick (eqb d 0) (point_u (point_a e) + point_u (point_b e)) (point_v (point_a e) + point_v (point_b e))

unfoldable pub low_edge : ℕ → ℕ → Bool
low_edge d e = both (eqb (across d e) 0) (has e transition_edges)

-- an edge of the low border, as the cell on its other side has it: on its high border
unfoldable pub high_edge : ℕ → ℕ → ℕ
high_edge d e = e + 17 * pick (fine_edge e) (2 * 3 ^ d) (2 ^ d)

unfoldable pub low_side : ℕ → ℕ → Bool
low_side d s = both (low_edge d (s / 256)) (low_edge d (s % 256))

unfoldable pub high_side : ℕ → ℕ → ℕ
high_side d s = side (high_edge d (s / 256)) (high_edge d (s % 256))

-- the j-th fine point of a low border, and of a high one
unfoldable pub low_point : ℕ → ℕ → ℕ
low_point d j = j * 3 ^ (1 - d)

unfoldable pub high_point : ℕ → ℕ → ℕ
high_point d j = low_point d j + 2 * 3 ^ d

-- which of a border's three fine points are inside
unfoldable pub low_bits : ℕ → ℕ → ℕ
low_bits d case =
    transition_inside case (low_point d 0) + 2 * transition_inside case (low_point d 1) + 4 * transition_inside case (low_point d 2)

unfoldable pub high_bits : ℕ → ℕ → ℕ
high_bits d case =
    transition_inside case (high_point d 0) + 2 * transition_inside case (high_point d 1) + 4 * transition_inside case (high_point d 2)

-- the case with the bits f at its low border and no point inside elsewhere
unfoldable pub spread_low : ℕ → ℕ → ℕ
spread_low d f =
    bit f 0 * contribution_of (low_point d 0) + bit f 1 * contribution_of (low_point d 1) + bit f 2 * contribution_of (low_point d 2)

-- the sides that a low border with the bits f shows
unfoldable pub shown_low : ℕ → ℕ → List ℕ
shown_low d f = only (low_side d) (transition_sides (spread_low d f))

-- ---- the coarse face

unfoldable pub coarse_edge : ℕ → Bool
coarse_edge e = both (not (fine_edge e)) (has e transition_edges)

unfoldable pub coarse_side : ℕ → Bool
coarse_side s = both (coarse_edge (s / 256)) (coarse_edge (s % 256))

-- which of its four corners are inside
unfoldable pub corner_bits : ℕ → ℕ
corner_bits case =
    transition_inside case 9 + 2 * transition_inside case 10 + 4 * transition_inside case 11 + 8 * transition_inside case 12

-- the case with the bits f at the coarse face's corners and no point inside elsewhere
unfoldable pub spread_corners : ℕ → ℕ
spread_corners f =
    bit f 0 * contribution_of (fine_of 9) + bit f 1 * contribution_of (fine_of 10) + bit f 2 * contribution_of (fine_of 11)
    + bit f 3 * contribution_of (fine_of 12)

unfoldable pub shown_coarse : ℕ → List ℕ
shown_coarse f = only coarse_side (transition_sides (spread_corners f))

-- ---- the fine face

-- both edges lie on the low border across direction d, or both on the high border
unfoldable pub common_border : ℕ → ℕ → ℕ → Bool
common_border d p q = either (eqb (across d p + across d q) 0) (eqb (across d p + across d q) 8)

-- both edges on the fine face, and no border has both
unfoldable pub on_fine : ℕ → ℕ → Bool
on_fine p q = both (both (fine_edge p) (fine_edge q)) (not (either (common_border 0 p q) (common_border 1 p q)))

unfoldable pub fine_side : ℕ → Bool
fine_side s = on_fine (s / 256) (s % 256)

-- ---- a case's sides, with what its borders show of the neighbours, what its coarse face shows, and what lies on the fine face

unfoldable pub lows : ℕ → ℕ → List ℕ
lows d case = shown_low d (low_bits d case)

unfoldable pub highs : ℕ → ℕ → List ℕ
highs d case = map (high_side d) (shown_low d (high_bits d case))

unfoldable pub coarses : ℕ → List ℕ
coarses case = shown_coarse (corner_bits case)

-- sides, then what the high and the low border across u show, those across v, the coarse face and the fine face
unfoldable pub in_of : List ℕ → List ℕ → List ℕ → List ℕ → List ℕ → List ℕ → List ℕ
in_of sides highU lowU highV lowV coarse =
    sides ++ (highU ++ map back lowU) ++ (highV ++ map back lowV) ++ (map back coarse ++ map back (only fine_side sides))

unfoldable pub out_of : List ℕ → List ℕ → List ℕ → List ℕ → List ℕ → List ℕ → List ℕ
out_of sides highU lowU highV lowV coarse =
    map back sides ++ (map back highU ++ lowU) ++ (map back highV ++ lowV) ++ (coarse ++ only fine_side sides)

unfoldable pub finer_in : ℕ → List ℕ
finer_in case = in_of (transition_sides case) (highs 0 case) (lows 0 case) (highs 1 case) (lows 1 case) (coarses case)

unfoldable pub finer_out : ℕ → List ℕ
finer_out case = out_of (transition_sides case) (highs 0 case) (lows 0 case) (highs 1 case) (lows 1 case) (coarses case)

-- ---- the coarse face laid on a face of a regular cell

-- the eight ways p to lay a square on a square: which corner the corner j comes to lie on, both counted u fastest. Bit 2 of p exchanges u and v, then
-- bit 0 turns u round and bit 1 turns v round
unfoldable pub laid_on : ℕ → ℕ → ℕ
laid_on p j =
    let u = pick (eqb (bit p 2) 0) (j % 2) (j / 2) in
    let v = pick (eqb (bit p 2) 0) (j / 2) (j % 2) in
    (u + bit p 0) % 2 + 2 * ((v + bit p 1) % 2)

-- the way back
unfoldable pub undone : ℕ → ℕ
undone p = pick (eqb (bit p 2) 0) p (4 + bit p 1 + 2 * bit p 0)

-- a coarse edge, and a side, as an edge and a side of the near face across direction d
unfoldable pub edge_between : ℕ → ℕ → ℕ
edge_between a b = pick (ltb a b) (16 * a + b) (16 * b + a)

unfoldable pub laid_edge : ℕ → ℕ → ℕ → ℕ
laid_edge d p e = edge_between (near_corner d (laid_on p (point_a e - 9))) (near_corner d (laid_on p (point_b e - 9)))

unfoldable pub laid_side : ℕ → ℕ → ℕ → ℕ
laid_side d p s = side (laid_edge d p (s / 256)) (laid_edge d p (s % 256))

-- which corners of the near face are inside, where f says it of the coarse face's
unfoldable pub laid_bits : ℕ → ℕ → ℕ
laid_bits p f =
    bit f (laid_on (undone p) 0) + 2 * bit f (laid_on (undone p) 1) + 4 * bit f (laid_on (undone p) 2) + 8 * bit f (laid_on (undone p) 3)

-- 0 if u, v and the direction across, from the coarse face on, are right-handed; the near face across y counts its corners left-handed
unfoldable pub mirrored : ℕ → ℕ → ℕ
mirrored d p = (bit p 0 + bit p 1 + bit p 2 + one (eqb d 1)) % 2
