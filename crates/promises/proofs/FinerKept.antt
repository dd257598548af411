-- What stands in the buffers, read back vertex by vertex and triangle by triangle, is the labelled mesh; an accepted block's faces agree. So no gap is
-- left at a finer face; and two vertices there on one grid edge are near each other.
use Rattle.std.specs.Prelude.{ℕ, ◌<◌, ◌≡◌, Bool, true, false, cond, List, Float, length, get_or, Ok}
use Rattle.std.proofs.Common.{arith, sym, ap, ◌∙◌, subst, subst₂}
use Rattle.laws.specs.Steps.{listed, each, laid}
use Rattle.laws.specs.Lists.{length_listed, listed_is}
use Rattle.model.specs.declared.Counts.{Counts}
use Rattle.model.specs.declared.Triangle.{Triangle}
use Rattle.model.specs.Star.{Star}
use Rattle.model.specs.Points.{regular_point}
use Rattle.model.specs.Judging.{judge_star}
use Rattle.model.specs.Mesh.{Made, Mesh, mesh_of}
use Rattle.model.specs.Extraction.{vertex_floats, triangle_indices}
use Rattle.agreement.specs.Faces.{faces_agree_lem}
use Rattle.closed.specs.Clauses.{high, Crossed, no_vertex, vertex_at, edge_at, vertex_on, no_triangle, sides, runs}
use Rattle.finer.specs.Labels.{labelled_mesh, SameBut}
use Rattle.finer.specs.Clauses.{Agreed, vertex_back, runs_down, NoGap, SameBits}
use Rattle.finer.specs.InStep.{as_many, same_vertex}
use Rattle.finer.proofs.SideWhole.{labelled_sound}
use Rattle.finer.proofs.NoGap.{no_gap}
use Rattle.finer.proofs.Vertices.{on_one_edge, same_bits}
use Rattle.weights.specs.Clauses.{AreF32, NearVertices}
use Rattle.weights.proofs.BothEnds.{near_itself, vertices_near}
use Rattle.promises.specs.Left.{Lent, answered, left, vertex_in, triangle_in}
use Rattle.promises.specs.Finer.{labelled_part, NearBy, NoGapIsLeft}
use Rattle.promises.proofs.Surface.{vertex_is, triangle_is}
use Rattle.promises.proofs.Extracted.{passed, faces_passed, vertices_left, triangles_left, equal_mesh}

-- what is said of a mesh is said of its vertices and its triangles, whatever its store and its reads
as_left : (s : Star) (m : Mesh) (made : List Made) (triangles : List Triangle) (store : List ℕ) → m.made ≡ made → m.triangles ≡ triangles
    → NoGap s m → NoGap s (record { made = made; triangles = triangles; store = store; reads = 0 })
unfolding runs sides
as_left s m made triangles store e f h =
    subst₂ (λ (made : List Made) (triangles : List Triangle). NoGap s (record { made = made; triangles = triangles; store = store; reads = 0 })) e f
    (record {
      coarse = h.coarse;
      borders = h.borders;
      corners = h.corners;
      regular = h.regular;
      lying = h.lying;
    })

-- two vertices on one grid edge: the one of the side is worked out from the high end, or from the low one as the regular vertex is
near_by : (s : Star) → AreF32 s → judge_star s ≡ Ok tt → NearBy s (labelled_mesh s).made
near_by s fit sound side i j e h by he ei ej =
    let o = on_one_edge s side i j e h by he ei ej in
    rw (o.regular_is, o.side_is) (go (runs_down side e.axis) o.crossed)
  where
    go : (b : Bool) → Crossed s e
        → NearVertices (regular_point s e.low) (regular_point s (high e)) (vertex_on s e) (cond b (vertex_back s e) (vertex_on s e))
    go true crossed = vertices_near s fit sound e.low (high e) (omega arith) (omega arith) crossed
    go false crossed = near_itself _ _ (vertex_on s e)

module _ (s : Star) (b : Lent) (vertices : List Float) (triangles : List ℕ)
    (vertices-laid : b.vertices ≡ laid (each vertex_floats (mesh_of s).made) vertices)
    (triangles-laid : b.triangles ≡ laid (each triangle_indices (mesh_of s).triangles) triangles) where
  in_step : SameBut (mesh_of s) (labelled_mesh s)
  in_step = (labelled_sound s).in_step

  abbrev labelled_in : ℕ → Made
  labelled_in i = record { vertex = vertex_in b i; edge = edge_at (labelled_mesh s).made i }

  labelled_is : (i : ℕ) → i < length (labelled_mesh s).made → labelled_in i ≡ get_or (labelled_mesh s).made i no_vertex
  labelled_is i h =
      let at = vertex_is s b vertices triangles vertices-laid triangles-laid i (omega (arith, (as_many in_step).0)) in
      let same : vertex_in b i ≡ vertex_at (labelled_mesh s).made i = ap (λ (m : Made). m.vertex) at ∙ same_vertex in_step i in
      λ j. record { vertex = same j; edge = edge_at (labelled_mesh s).made i }

  made_back : (labelled_part s b).made ≡ (labelled_mesh s).made
  made_back = ap (listed labelled_in) (as_many in_step).0 ∙ listed_is labelled_in (labelled_mesh s).made no_vertex labelled_is

  triangles_back : (labelled_part s b).triangles ≡ (labelled_mesh s).triangles
  triangles_back =
      listed_is (triangle_in b) (mesh_of s).triangles no_triangle (triangle_is s b vertices triangles vertices-laid triangles-laid) ∙ in_step.triangles

  no_gap_in : Agreed s → NoGap s (labelled_part s b)
  no_gap_in all-agreed = as_left s (labelled_mesh s) _ _ b.store (sym made_back) (sym triangles_back) (no_gap s all-agreed)

  same_bits_in : SameBits s (labelled_part s b).made
  same_bits_in = subst (SameBits s) (sym made_back) (same_bits s)

  near_by_in : AreF32 s → judge_star s ≡ Ok tt → NearBy s (labelled_part s b).made
  near_by_in fit sound = subst (NearBy s) (sym made_back) (near_by s fit sound)

pub no_gap_is_left : (s : Star) (lent : Lent) (c : Counts) → answered s lent ≡ Ok c → NoGapIsLeft s lent c
no_gap_is_left s lent c e =
    let vl = vertices_left s lent c e in
    let tl = triangles_left s lent c e in
    let counted = (equal_mesh s lent c e).counted in
    let agreed : Agreed s = λ side u v a. faces_agree_lem s (faces_passed s lent c e) side u v a.side_in a.side_named in
    record {
      no_gap = no_gap_in s (left s lent) lent.vertices lent.triangles vl tl agreed;
      same_bits = same_bits_in s (left s lent) lent.vertices lent.triangles vl tl;
      near_by = λ fit. near_by_in s (left s lent) lent.vertices lent.triangles vl tl fit (passed s lent c e);
      vertices_are = length_listed _ _ ∙ sym (ap (λ (k : Counts). k.vertices) counted);
      triangles_are = length_listed _ _ ∙ sym (ap (λ (k : Counts). k.triangles) counted);
    }
