-- What the functions over a cell ask for and what they leave, by name. One set of names serves both kinds of cell.
use Rattle.std.specs.Prelude.{ℕ, ◌+◌, ◌*◌, ◌≤◌, ◌≡◌, List, Float, length}
use Rattle.laws.specs.Steps.{listed}
use Rattle.model.specs.declared.Counts.{Counts}
use Rattle.model.specs.Mesh.{Cell, Mesh, fill_to, triangle_of, vertex_reads}
use Rattle.vertices.specs.Buffers.{lay_vertices, lay_triangles}
use Rattle.cells.specs.declared.Progress.{Progress}

-- the samples that the vertices made so far have read
abbrev pub ReadSoFar : Progress → Type 0
ReadSoFar counts = counts.reads ≡ vertex_reads * counts.vertices

-- a whole cell, after nv vertices and nt triangles; reads are those of all vertices then
pub record CellPut (c : Cell) (nv nt : ℕ) (vertices : List Float) (triangles store : List ℕ)
    (nv' nt' reads : ℕ) (vertices' : List Float) (triangles' store' : List ℕ) : Type 0 where
  pub nv_is : nv' ≡ nv + length (fill_to c nv store c.vertices).made
  pub nt_is : nt' ≡ nt + c.triangles
  pub reads_are : reads ≡ vertex_reads * nv'
  pub vertices_are : vertices' ≡ lay_vertices vertices nv (fill_to c nv store c.vertices).made
  pub triangles_are : triangles'
      ≡ lay_triangles triangles nt (listed (triangle_of c (fill_to c nv store c.vertices).index) c.triangles)
  pub store_is : store' ≡ (fill_to c nv store c.vertices).store

-- what a cell adds, whatever was there before it
pub record Adds (c : Cell) (dv dt : ℕ) : Type 0 where
  pub vertices : (base : ℕ) (store : List ℕ) → length (fill_to c base store c.vertices).made ≡ dv
  pub triangles : c.triangles ≡ dt

-- a cell makes at most so many of each
abbrev pub most_of_cell : ℕ
most_of_cell = 12

-- so many cells make few vertices and triangles
pub record Few (cells : ℕ) (counts : Counts) : Type 0 where
  pub vertices : counts.vertices ≤ most_of_cell * cells
  pub triangles : counts.triangles ≤ most_of_cell * cells

-- a cell that adds nothing
pub record Nothing (c : Cell) : Type 0 where
  pub no_vertices : c.vertices ≡ 0
  pub no_triangles : c.triangles ≡ 0

-- two meshes of which only the reads may differ
pub record SameMade (m m' : Mesh) : Type 0 where
  pub made_same : m.made ≡ m'.made
  pub triangles_same : m.triangles ≡ m'.triangles
  pub store_same : m.store ≡ m'.store
