-- Two of the model's small blocks, with their meshes. The ledge, which was blank and is not: 8 passes, and there are two triangles. And the one whose
-- neighbour is wholly inside while the centre is not: each of the two is on one side, so the mesh has no triangle, and yet it is not blank. That 8 refuses
-- it is why the theorem asks for 8.
use Rattle.std.specs.Prelude.{◌≡◌, refl, ℕ, length, Err, Ok}
use Rattle.std.specs.Int.Count.{ones, ones_in}
use Rattle.std.specs.Float.Ieee as Ieee
use Rattle.tables.specs.RegularRows as regular
use Rattle.tables.specs.TransitionRows as transition
use Rattle.tables.specs.Cases as tables
use Rattle.model.specs.declared.Refusal.TheVariants.{FaceMismatch}
use Rattle.model.specs.Answers.{Verdict}
use Rattle.model.specs.Samples.{place_of, value_at, reading_at, sampled, outside}
use Rattle.model.specs.Sides.{named, neighbour_of}
use Rattle.model.specs.Rotations.{point_from, rotation_of, rotations}
use Rattle.model.specs.Star.{Star}
use Rattle.model.specs.Judging.{faces_agree, judge_faces}
use Rattle.model.specs.Points.{regular_case, fine_sample, transition_case}
use Rattle.model.specs.Mesh.{mesh_of}
use Rattle.model.specs.Ledges.{ledge, apart}
use Rattle.blankness.specs.Counted.{triangles_counted}

-- what 8 says of a block, and how many triangles its mesh has
abbrev pub Shown : Star → Verdict → ℕ → Type 0
Shown s verdict triangles = (judge_faces s ≡ verdict) × (length (mesh_of s).triangles ≡ triangles)

pub shown : Shown ledge (Ok tt) 2 × Shown apart (Err (FaceMismatch (record { side = 4; u = 0; v = 0 }))) 0
unfolding judge_faces faces_agree regular_case transition_case fine_sample value_at reading_at sampled outside place_of named neighbour_of point_from rotation_of rotations ones ones_in Ieee.le Ieee.lt Ieee.eq regular.classes regular.cell_rows tables.regular_class tables.regular_cell tables.regular_triangles transition.classes transition.cell_rows tables.transition_class tables.transition_cell tables.transition_triangles
shown = ((refl, triangles_counted ledge), (refl, triangles_counted apart))
