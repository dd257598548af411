-- The statements at small blocks that are computed in full: they are about sides that are there, and wrong meshes do not have them. LowZ is the finer
-- side of each block.
use Rattle.std.specs.Prelude.{◌≡◌, refl, ◌≢◌, List, [], ◌∷◌, ℕ, T}
use Rattle.std.proofs.Common.{arith}
use Rattle.std.specs.Int.Count.{ones}
use Rattle.tables.specs.Points.{point_u, point_v, point_face, fine_of}
use Rattle.tables.specs.TransitionRows as rows
use Rattle.tables.specs.Cases as tables
use Rattle.model.specs.Sides.{named, neighbour_of}
use Rattle.model.specs.Rotations.{point_from, rotation_of, rotations}
use Rattle.model.specs.Star.{Star, subdivisions}
use Rattle.model.specs.Points.{fine_sample, transition_case}
use Rattle.model.specs.Mesh.{Mesh, regular_mesh, transition_place, transition_leaves, transition_use, transition_cell}
use Rattle.closed.specs.Clauses.{Edge, edge, number, runs}
use Rattle.closed.specs.Wrong.{last_dropped}
use Rattle.closed.proofs.Refuted.{star_of, of_block_test, of_block}
use Rattle.closed.specs.Indices.{IsSideCell}
use Rattle.finer.specs.Labels.{edge_between, face_edge, fine_number, label_at, side_cell, mesh_with, labelled_mesh}
use Rattle.finer.specs.Clauses.{InSide, CoarseClosed, border_label, BorderClosed}
use Rattle.finer.specs.Wrong.{unwound, stepped_out}

-- ---- small blocks

abbrev low_z : ℕ
low_z = 4

-- whoever unfolds it can compute its meshes
unfoldable pub block_of : ℕ → List ℕ → List ℕ → Star
unfolding star_of ones mesh_with side_cell label_at fine_number face_edge edge_between point_u point_v point_face fine_of named neighbour_of point_from rotation_of rotations fine_sample transition_case transition_place transition_leaves transition_use transition_cell rows.classes rows.cell_rows rows.vertex_rows tables.transition_class tables.transition_codes tables.transition_cell tables.transition_code tables.transition_vertices tables.transition_triangles tables.transition_corner tables.transition_turned
block_of n centre neighbour = star_of n 16 centre neighbour

-- one cell with (0, 0, 0) inside, and of the neighbour's points the one there
unfoldable pub corner : Star
corner = block_of 1 (0 ∷ []) (2 ∷ [])

-- and the one beside it along x too: a case whose triangles are turned
unfoldable pub slope : Star
slope = block_of 1 (0 ∷ []) (2 ∷ 11 ∷ [])

-- eight cells with no point inside, and of the neighbour's points one, in the middle of the border between the cells (0, 0) and (1, 0) of the side
unfoldable pub bump : Star
bump = block_of 2 [] (59 ∷ [])

-- ---- (a)

-- the grid edges from (0, 0, 0) along x and along y
abbrev along_x : Edge
along_x = edge 0 0 0 0

abbrev along_y : Edge
along_y = edge 0 0 0 1

-- the regular triangle's side from the one to the other has its opposite among the transition triangles alone
pub corner_sides : (runs (regular_mesh corner) (number corner along_x) (number corner along_y) ≡ 1)
    × (runs (regular_mesh corner) (number corner along_y) (number corner along_x) ≡ 0)
    × (runs (labelled_mesh corner) (number corner along_x) (number corner along_y) ≡ 1)
    × (runs (labelled_mesh corner) (number corner along_y) (number corner along_x) ≡ 1)
unfolding corner block_of
corner_sides = (refl, refl, refl, refl)

-- both lie in the face of LowZ
in_low_z : (s : Star) → InSide s low_z along_x × InSide s low_z along_y
in_low_z s = (record { low_in = omega arith; high_in = omega arith }, record { low_in = omega arith; high_in = omega arith })

breaks_coarse : (s : Star) (m : Mesh) → T (of_block_test (subdivisions s) along_x) → T (of_block_test (subdivisions s) along_y)
    → runs m (number s along_x) (number s along_y) ≢ runs m (number s along_y) (number s along_x) → CoarseClosed s m low_z → ⊥
breaks_coarse s m tx ty differ closed =
    let i = in_low_z s in
    differ (closed along_x along_y (of_block s along_x tx) (of_block s along_y ty) i.0 i.1)

pub unwound_not_closed : CoarseClosed slope (unwound slope) low_z → ⊥
unfolding slope block_of of_block_test
unwound_not_closed = breaks_coarse slope (unwound slope) tt tt (λ e. omega arith)

pub stepped_out_not_closed : CoarseClosed corner (stepped_out corner) low_z → ⊥
unfolding corner block_of of_block_test
stepped_out_not_closed = breaks_coarse corner (stepped_out corner) tt tt (λ e. omega arith)

pub last_dropped_not_closed : CoarseClosed corner (last_dropped (labelled_mesh corner)) low_z → ⊥
unfolding corner block_of of_block_test
last_dropped_not_closed = breaks_coarse corner (last_dropped (labelled_mesh corner)) tt tt (λ e. omega arith)

-- ---- (b)

-- the two fine edges of that border: the triangle of the one cell has a side from the one to the other, and that of the other cell one back
abbrev first : ℕ
first = border_label bump low_z 0 1 0 0

abbrev second : ℕ
second = border_label bump low_z 0 1 0 1

pub bump_sides : (runs (labelled_mesh bump) first second ≡ 1) × (runs (labelled_mesh bump) second first ≡ 1)
unfolding bump block_of
bump_sides = (refl, refl)

is_cell : IsSideCell bump low_z 1 0
unfolding bump block_of
is_cell = record { side_in = omega arith; side_named = refl; u_in = omega arith; v_in = omega arith }

pub last_dropped_not_border_closed : BorderClosed bump (last_dropped (labelled_mesh bump)) low_z → ⊥
unfolding bump block_of
last_dropped_not_border_closed closed =
    let e : runs (last_dropped (labelled_mesh bump)) first second ≡ runs (last_dropped (labelled_mesh bump)) second first =
    closed 0 1 0 0 1 (omega arith) (omega arith) (omega arith) is_cell (omega arith) in
    omega arith
