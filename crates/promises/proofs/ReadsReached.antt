-- The bound of the sample reads is reached: two blocks of one subdivision whose samples alternate, with no finer side and with six, computed in full.
use Rattle.std.specs.Prelude.{ℕ, ◌≡◌, refl, List, [], ◌∷◌}
use Rattle.std.specs.Int.Count.{ones, ones_in}
use Rattle.std.specs.Float.Ieee as Ieee
use Rattle.tables.specs.TransitionRows as rows
use Rattle.tables.specs.Cases as tables
use Rattle.model.specs.Limits.{most_mask}
use Rattle.model.specs.Sides.{named, neighbour_of}
use Rattle.model.specs.Rotations.{point_from, rotation_of, rotations}
use Rattle.model.specs.Star.{Star}
use Rattle.model.specs.Points.{fine_sample, transition_case}
use Rattle.model.specs.Judging.{judge_measures, judge_missing, judge_samples, judge_lent, judge_star, faces_agree, judge_faces}
use Rattle.model.specs.Mesh.{transition_place, transition_leaves, transition_use, transition_cell, transition_row, transition_side, mesh_of}
use Rattle.closed.proofs.Refuted.{star_of}
use Rattle.promises.specs.Reads.{Costly}

-- one cell with the corners inside that lie two steps from one another; whoever unfolds it can judge it and compute its mesh
unfoldable alternating : ℕ → List ℕ → Star
unfolding star_of ones ones_in named neighbour_of point_from rotation_of rotations fine_sample transition_case transition_place transition_leaves transition_use transition_cell transition_row transition_side mesh_of judge_measures judge_missing judge_samples judge_lent judge_star faces_agree judge_faces Ieee.neg Ieee.div Ieee.of_int Ieee.round Ieee.units Ieee.odd Ieee.size Ieee.climb Ieee.span rows.classes rows.cell_rows rows.vertex_rows tables.transition_class tables.transition_codes tables.transition_cell tables.transition_code tables.transition_vertices tables.transition_triangles tables.transition_corner tables.transition_turned
alternating mask neighbours = star_of 1 mask (0 ∷ 3 ∷ 5 ∷ 6 ∷ []) neighbours

unfoldable pub alone : Star
unfolding alternating
alone = alternating 0 []

-- of each neighbour's points on its face the middle one is inside, and of the corners those of the cell; a neighbour has 81 samples
unfoldable pub among : Star
unfolding alternating
among =
    alternating most_mask
    (18 ∷ 22 ∷ 26 ∷ 83 ∷ 85 ∷ 87 ∷ 168 ∷ 178 ∷ 188 ∷ 245 ∷ 253 ∷ 261 ∷ 326 ∷ 338 ∷ 350 ∷ 411 ∷ 417 ∷ 423 ∷ [])

pub alone_mask : alone.mask ≡ 0
unfolding alone
alone_mask = refl

pub alone_costly : Costly alone
unfolding alone
alone_costly = record { accepted = refl; faces = refl; reads = refl }

pub among_mask : among.mask ≡ most_mask
unfolding among
among_mask = refl

pub among_costly : Costly among
unfolding among
among_costly = record { accepted = refl; faces = refl; reads = refl }
