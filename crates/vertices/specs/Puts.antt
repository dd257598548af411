-- What the functions over a cell's vertices ask for and what they leave, by name. One set of names serves both kinds of cell.
use Rattle.std.specs.Prelude.{ℕ, ◌+◌, ◌*◌, ◌≤◌, ◌<◌, ◌^◌, ◌≡◌, cond, List, Float, length, get_or, set}
use Rattle.model.specs.Mesh.{CodeUse, Fill, made_by, vertex_reads}
use Rattle.vertices.specs.Buffers.{lay_vertices, pad}

-- a buffer has room for so many items of so many places, and the items' indices fit a u32
pub record Room {A : Type 0} (width wanted : ℕ) (buffer : List A) : Type 0 where
  pub room : width * wanted ≤ length buffer
  pub short : wanted < 2 ^ 32

-- one vertex of a cell: its index, the samples read, and the buffers once it is made or found
pub record CodePut (t : CodeUse) (next : ℕ) (vertices : List Float) (store : List ℕ)
    (index next' reads : ℕ) (vertices' : List Float) (store' : List ℕ) : Type 0 where
  pub index_is : index ≡ cond t.makes next (get_or store t.place 0)
  pub next_is : next' ≡ next + length (made_by t)
  pub reads_are : reads ≡ vertex_reads * length (made_by t)
  pub vertices_are : vertices' ≡ lay_vertices vertices next (made_by t)
  pub store_is : store' ≡ cond t.stores (set store t.place next) store

-- a cell's vertices so far, from the index base on
pub record FillPut (f : Fill) (base : ℕ) (vertices : List Float)
    (index : List ℕ) (count next reads : ℕ) (vertices' : List Float) (store' : List ℕ) : Type 0 where
  pub index_is : index ≡ pad f.index
  pub count_is : count ≡ length f.index
  pub next_is : next ≡ base + length f.made
  pub reads_are : reads ≡ vertex_reads * length f.made
  pub vertices_are : vertices' ≡ lay_vertices vertices base f.made
  pub store_is : store' ≡ f.store
