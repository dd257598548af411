-- Laws of a whole cell, whatever cell it is: how many vertices it makes, its triangles, and what the buffers hold after it.
use Rattle.std.specs.Prelude.{ℕ, ◌+◌, ◌*◌, ◌≡◌, refl, List, [], ◌∷◌, Float, length}
use Rattle.std.proofs.Common.{ap, add-one, arith, length-append}
use Rattle.model.specs.declared.Triangle.{Triangle}
use Rattle.laws.specs.Steps.{listed, total}
use Rattle.laws.specs.Counting.{one}
use Rattle.laws.specs.Lists.{length_listed, listed_same}
use Rattle.laws.specs.Laying.{lay_append}
use Rattle.model.specs.Mesh.{Cell, Mesh, fill_to, cell_step, triangle_of, vertex_reads}
use Rattle.model.specs.Extraction.{triangle_indices}
use Rattle.vertices.specs.Buffers.{lay_triangles, pad}
use Rattle.vertices.specs.Puts.{FillPut}
use Rattle.vertices.specs.Fills.{get_d_pad, made_total, made_one}
use Rattle.cells.specs.Puts.{CellPut}

-- one for each of its codes that makes one
abbrev pub made_of : Cell → ℕ
made_of c = total (λ i. one (c.uses i).makes) c.vertices

pub cell_made : (c : Cell) (m : Mesh) → length (cell_step c m).made ≡ length m.made + made_of c
unfolding cell_step
cell_made c m =
    rw length-append
    (ap (λ (k : ℕ). length m.made + k)
    (made_total c (λ i. one (c.uses i).makes) (λ i. made_one (c.uses i)) (length m.made) m.store c.vertices))

-- ---- a cell's triangles

pub triangles_more : (f : ℕ → Triangle) (base k : ℕ) (triangle : Triangle) (triangles₀ triangles triangles' : List ℕ)
    → triangle ≡ f k → triangles ≡ lay_triangles triangles₀ base (listed f k) → triangles' ≡ lay_triangles triangles (base + k) (triangle ∷ [])
    → triangles' ≡ lay_triangles triangles₀ base (listed f (k + 1))
triangles_more f base k triangle triangles₀ triangles triangles' et es e =
    rw add-one
    (cc (lay_append 3 triangle_indices (λ t. refl) triangles₀ base (listed f k) (f k ∷ []), length_listed f k))

-- the places beyond the cell's indices are not read
triangle_pad : (c : Cell) (index : List ℕ) (t : ℕ) → triangle_of c (pad index) t ≡ triangle_of c index t
unfolding triangle_of
triangle_pad c index t = simp get_d_pad

-- ---- a whole cell

module _ (c : Cell) (nv nt : ℕ) (vertices : List Float) (triangles store : List ℕ) where
  pub cell_put : (index : List ℕ) (count nv' nt' reads more : ℕ) (vertices' : List Float) (triangles' store' : List ℕ)
      → reads ≡ vertex_reads * nv → FillPut (fill_to c nv store c.vertices) nv vertices index count nv' more vertices' store'
      → nt' ≡ nt + c.triangles → triangles' ≡ lay_triangles triangles nt (listed (triangle_of c index) c.triangles)
      → CellPut c nv nt vertices triangles store nv' nt' (reads + more) vertices' triangles' store'
  cell_put index count nv' nt' reads more vertices' triangles' store' before f e l =
      let i = (fill_to c nv store c.vertices).index in
      record {
        nv_is = f.next_is;
        nt_is = e;
        reads_are = omega (arith, before, f.next_is, f.reads_are);
        vertices_are = f.vertices_are;
        triangles_are = cc (listed_same (triangle_of c (pad i)) (triangle_of c i) (triangle_pad c i) c.triangles);
        store_is = f.store_is;
      }
