-- What the counting pass asks for and what it leaves, by name.
use Rattle.std.specs.Prelude.{ℕ, ◌+◌, ◌*◌, ◌≤◌, ◌≡◌, List, Float, Option, Some, None, length}
use Rattle.model.specs.declared.Counts.{Counts}
use Rattle.model.specs.declared.Header.{Header}
use Rattle.model.specs.Limits.{most_subdivisions, most_mask, side_count}
use Rattle.model.specs.Sides.{neighbours_length}
use Rattle.model.specs.Star.{Star}
use Rattle.model.specs.Mesh.{Mesh}
use Rattle.cases.specs.Sheets.{sheet_places}
use Rattle.cases.specs.Pairs.{point_bit}

abbrev pub plus : Counts → Counts → Counts
plus a b = record { vertices = a.vertices + b.vertices; triangles = a.triangles + b.triangles }

-- the cells of all sheets: a layer a subdivision, and one sheet a side
abbrev pub most_cells : ℕ
most_cells = sheet_places * most_subdivisions + sheet_places * side_count

-- the bits of the plane whose points are the second of each pair; 0 where there is none yet
abbrev pub paired_bits : Star → Option ℕ → ℕ → ℕ → ℕ
paired_bits s None y z = 0
paired_bits s (Some x) y z = point_bit s x y z

-- the neighbours of the named sides are all there
pub record SidesThere (h : Header) (neighbours : List Float) : Type 0 where
  pub some : 1 ≤ h.block.subdivisions
  pub few : h.block.subdivisions ≤ most_subdivisions
  pub sides : h.mask ≤ most_mask
  pub neighbours_are : length neighbours ≡ neighbours_length h.block.subdivisions h.mask

-- what a step adds, whatever was there before it
pub record Grows (step : Mesh → Mesh) (counts : Counts) : Type 0 where
  pub vertices : (m : Mesh) → length (step m).made ≡ length m.made + counts.vertices
  pub triangles : (m : Mesh) → length (step m).triangles ≡ length m.triangles + counts.triangles

pub record Counted (m : Mesh) (counts : Counts) : Type 0 where
  pub vertices_are : counts.vertices ≡ length m.made
  pub triangles_are : counts.triangles ≡ length m.triangles
