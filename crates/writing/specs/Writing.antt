-- What the writing pass asks for and what it leaves, by name.
use Rattle.std.specs.Prelude.{ℕ, ◌+◌, ◌*◌, ◌≤◌, ◌≡◌, List, Float, length, take}
use Rattle.laws.specs.Steps.{each}
use Rattle.model.specs.Limits.{most_subdivisions, side_count}
use Rattle.model.specs.declared.Buffers.{Buffers}
use Rattle.model.specs.Star.{Star, subdivisions}
use Rattle.model.specs.Mesh.{Mesh, store_length, mesh_of}
use Rattle.model.specs.Extraction.{vertex_floats, triangle_indices}
use Rattle.cases.specs.Sheets.{most_sheet_reads}
use Rattle.cells.specs.declared.Progress.{Progress}
use Rattle.vertices.specs.Buffers.{lay_edges}
use Rattle.vertices.specs.Puts.{Room}
use Rattle.cells.specs.Puts.{ReadSoFar}

-- the buffers have room for the mesh, of which each index fits a u32
pub record Fits (s : Star) (vertices : List Float) (triangles store : List ℕ) : Type 0 where
  pub vertices_fit : Room 6 (length (mesh_of s).made) vertices
  pub triangles_fit : Room 3 (length (mesh_of s).triangles) triangles
  pub store_fits : length store ≡ store_length (subdivisions s)

-- the numbers of a mesh's grid edges are laid into the further list, as far as it has places
pub record Numbered (m : Mesh) (edges : List ℕ) : Type 0 where
  pub before : List ℕ
  pub edges_are : edges ≡ lay_edges before 0 m.made

-- the buffers hold a mesh in their first places, and the store is the mesh's
pub record Holds (m : Mesh) (counts : Progress) (vertices : List Float) (triangles store edges : List ℕ) : Type 0 where
  pub vertex_count_lem : counts.vertices ≡ length m.made
  pub triangle_count_lem : counts.triangles ≡ length m.triangles
  pub read_so_far : ReadSoFar counts
  pub vertices_are : take (6 * counts.vertices) vertices ≡ each vertex_floats m.made
  pub triangles_are : take (3 * counts.triangles) triangles ≡ each triangle_indices m.triangles
  pub store_is : store ≡ m.store
  pub numbered : Numbered m edges

-- what the case numbers of the cells of so many sheets have read, and that is no large number
pub record ReadTo (cases sheets reads : ℕ) : Type 0 where
  pub reads_are : reads ≡ cases
  pub few : reads ≤ most_sheet_reads * sheets

-- a sheet a layer, and one a side
abbrev pub most_sheets : ℕ
most_sheets = most_subdivisions + side_count

-- the lent buffers are as long as they were
pub record SameLengths (vertices₀ vertices : List Float) (triangles₀ triangles store₀ store edges₀ edges : List ℕ) : Type 0 where
  pub vertices_same : length vertices ≡ length vertices₀
  pub triangles_same : length triangles ≡ length triangles₀
  pub store_same : length store ≡ length store₀
  pub edges_same : length edges ≡ length edges₀

-- the same of the buffers as they are lent
abbrev pub KeptLengths : Buffers → Buffers → Type 0
KeptLengths old new =
    SameLengths old.vertices.now new.vertices.now old.triangles.now new.triangles.now old.store.now new.store.now old.edges.now new.edges.now

abbrev pub FitsIn : Star → Buffers → Type 0
FitsIn s out = Fits s out.vertices.now out.triangles.now out.store.now

abbrev pub HoldsIn : Mesh → Progress → Buffers → Type 0
HoldsIn m counts out = Holds m counts out.vertices.now out.triangles.now out.store.now out.edges.now

-- room that is just enough, and then what the buffers hold
pub record Exact (s : Star) (vertices : List Float) (triangles store : List ℕ) : Type 0 where
  pub fits : Fits s vertices triangles store
  pub vertices_fill : length vertices ≡ 6 * length (mesh_of s).made
  pub triangles_fill : length triangles ≡ 3 * length (mesh_of s).triangles

pub record Written (m : Mesh) (vertices : List Float) (triangles store : List ℕ) : Type 0 where
  pub vertices_are : vertices ≡ each vertex_floats m.made
  pub triangles_are : triangles ≡ each triangle_indices m.triangles
  pub store_is : store ≡ m.store
