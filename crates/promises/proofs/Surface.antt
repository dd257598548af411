-- The regular part of what stands in the buffers, read back vertex by vertex and triangle by triangle, is the mesh of the regular cells. So it has no
-- hole.
use Rattle.std.specs.Prelude.{ℕ, ◌+◌, ◌*◌, ◌<◌, ◌≡◌, refl, List, ◌++◌, Float, length, get_or}
use Rattle.std.proofs.Common.{mul-suc, mul-le-mul_left, arith, sym, ap, ◌∙◌, subst₂, length-append}
use Rattle.std.specs.Float.{nan}
use Rattle.std.proofs.Math.ListN.{get_or-append}
use Rattle.model.specs.declared.Triangle.{Triangle}
use Rattle.laws.specs.Steps.{each, laid}
use Rattle.laws.specs.Lists.{length_each, listed_is}
use Rattle.laws.specs.LaidBuffers.{laid_first}
use Rattle.laws.specs.Rounds.{each_at}
use Rattle.model.specs.Formulas.{vector}
use Rattle.model.specs.Star.{Star}
use Rattle.model.specs.Mesh.{Made, Mesh, regular_mesh, mesh_of}
use Rattle.model.specs.Extraction.{vertex_floats, triangle_indices}
use Rattle.closed.specs.Clauses.{no_vertex, edge_at, no_triangle, sides, runs, OwnVertex, NoHole}
use Rattle.closed.proofs.NoHole.{no_hole}
use Rattle.closed.proofs.Front.{regular_first}
use Rattle.promises.specs.Left.{Lent, number_in, corner_in, vertex_in, triangle_in, regular_part}

-- place j of item k of what is laid into a buffer
module _ {A B : Type 0} (f : A → List B) (w : ℕ) (wide : (a : A) → length (f a) ≡ w) (l : List A) (before after : List B)
    (left : after ≡ laid (each f l) before) where
  pub laid_at : (k j : ℕ) (d : A) (e : B) → k < length l → j < w → get_or after (w * k + j) e ≡ get_or (f (get_or l k d)) j e
  laid_at k j d e h small =
      ap (λ (b : List B). get_or b (w * k + j) e) left
      ∙ laid_first (each f l) before (w * k + j) e (rw (length_each f w l wide) (omega (arith, mul-le-mul_left w h, mul-suc w k)))
      ∙ each_at f w wide l k j d e h small

-- what a mesh begins with
begun_at : {A : Type 0} (all first more : List A) (d : A) (k : ℕ) → all ≡ first ++ more → k < length first
    → (k < length all) × (get_or all k d ≡ get_or first k d)
begun_at {A} all first more d k e h =
    (rw (e, length-append) (omega arith), ap (λ (l : List A). get_or l k d) e ∙ get_or-append first more d k h)

-- a surface is its vertices and its triangles, whatever its store and its reads
pub as_surface : (s : Star) (m : Mesh) (made : List Made) (triangles : List Triangle) (store : List ℕ) → m.made ≡ made → m.triangles ≡ triangles
    → NoHole s m → NoHole s (record { made = made; triangles = triangles; store = store; reads = 0 })
unfolding runs sides
as_surface s m made triangles store e f h =
    subst₂ (λ (made : List Made) (triangles : List Triangle). NoHole s (record { made = made; triangles = triangles; store = store; reads = 0 })) e f
    (record {
      carried = h.carried;
      corners = λ t l.
          let o = h.corners t l in
          record { x = o.x; y = o.y; z = o.z; sent = o.sent; a = own o.a; b = own o.b; c = own o.c };
      balanced = h.balanced;
      lying = h.lying;
    })
  where
    own : {x y z i : ℕ} → OwnVertex s m x y z i → OwnVertex s (record { made = m.made; triangles = m.triangles; store = store; reads = 0 }) x y z i
    own o = record { made = o.made; on = o.on; own = o.own; named = o.named }

module _ (s : Star) (b : Lent) (vertices : List Float) (triangles : List ℕ)
    (vertices_left : b.vertices ≡ laid (each vertex_floats (mesh_of s).made) vertices)
    (triangles_left : b.triangles ≡ laid (each triangle_indices (mesh_of s).triangles) triangles) where
  pub number_is : (i k : ℕ) → i < length (mesh_of s).made → k < 6 → number_in b i k ≡ get_or (vertex_floats (get_or (mesh_of s).made i no_vertex)) k nan
  number_is i k h small = laid_at vertex_floats 6 (λ m. refl) (mesh_of s).made vertices b.vertices vertices_left i k no_vertex nan h small

  pub vertex_is : (i : ℕ) → i < length (mesh_of s).made
      → ◌≡◌ {A = Made} (record { vertex = vertex_in b i; edge = edge_at (mesh_of s).made i }) (get_or (mesh_of s).made i no_vertex)
  vertex_is i h =
      λ j.
      record {
        vertex = record {
          position = vector (number_is i 0 h (omega arith) j) (number_is i 1 h (omega arith) j) (number_is i 2 h (omega arith) j);
          gradient = vector (number_is i 3 h (omega arith) j) (number_is i 4 h (omega arith) j) (number_is i 5 h (omega arith) j);
        };
        edge = edge_at (mesh_of s).made i;
      }

  corner_is : (t k : ℕ) → t < length (mesh_of s).triangles → k < 3 → corner_in b t k ≡ get_or (triangle_indices (get_or (mesh_of s).triangles t no_triangle)) k 0
  corner_is t k h small = laid_at triangle_indices 3 (λ m. refl) (mesh_of s).triangles triangles b.triangles triangles_left t k no_triangle 0 h small

  pub triangle_is : (t : ℕ) → t < length (mesh_of s).triangles → triangle_in b t ≡ get_or (mesh_of s).triangles t no_triangle
  triangle_is t h =
      λ j. record { a = corner_is t 0 h (omega arith) j; b = corner_is t 1 h (omega arith) j; c = corner_is t 2 h (omega arith) j }

  made_back : (regular_part s b).made ≡ (regular_mesh s).made
  made_back =
      let f = regular_first s in
      listed_is _ (regular_mesh s).made no_vertex
      (λ i h. let r = begun_at (mesh_of s).made (regular_mesh s).made f.made no_vertex i f.made_are h in vertex_is i r.0 ∙ r.1)

  triangles_back : (regular_part s b).triangles ≡ (regular_mesh s).triangles
  triangles_back =
      let f = regular_first s in
      listed_is _ (regular_mesh s).triangles no_triangle
      (λ t h.
      let r = begun_at (mesh_of s).triangles (regular_mesh s).triangles f.triangles no_triangle t f.triangles_are h in
      triangle_is t r.0 ∙ r.1)

  pub no_hole_left : NoHole s (regular_part s b)
  no_hole_left = as_surface s (regular_mesh s) _ _ b.store (sym made_back) (sym triangles_back) (no_hole s)
