-- What extraction leaves, welded: the lists pass, each vertex stands at its new index with its edge and its six numbers, and so what is told of the
-- lists before the pass and after it is one mesh whose vertices are named anew.
use Rattle.std.specs.Prelude.{ℕ, ◌+◌, ◌*◌, ◌≤◌, ◌<◌, ◌≡◌, List, Float, length, get_or, take, Ok}
use Rattle.std.proofs.Math.Decide.{dec_lt}
use Rattle.std.proofs.Common.{arith, sym, ◌∙◌, length-take}
use Rattle.std.proofs.Math.Path.{refl, ap}
use Rattle.std.specs.Float.{nan}
use Rattle.laws.specs.Lists.{length_listed, get_d_listed}
use Rattle.laws.specs.Counting.{Which, which_one}
use Rattle.model.specs.declared.Counts.{Counts}
use Rattle.model.specs.declared.Triangle.{Triangle}
use Rattle.model.specs.declared.Vertex.{Vertex}
use Rattle.model.specs.Formulas.{vector}
use Rattle.model.specs.Star.{Star}
use Rattle.model.specs.Mesh.{Made, no_edge, regular_mesh, mesh_of}
use Rattle.model.specs.Extraction.{vertex_floats}
use Rattle.closed.specs.Clauses.{no_vertex, edge_at, triangle_at, no_triangle, NamesVertices}
use Rattle.closed.proofs.NoHole.{one_vertex}
use Rattle.closed.proofs.Marks.{made_regular}
use Rattle.closed.specs.Renamed.{renamed, Renamed}
use Rattle.stl.specs.Definition.{vertex_count}
use Rattle.weld.specs.Definition.{kept, kept_before, keeper, new_index, weld_answer, weld}
use Rattle.weld.specs.Kept.{kept_mark, keeper_keeps, new_below, new_first, kept_index}
use Rattle.weld.specs.Welded.{Whole, passes, corner_below, corner_is, same_number, kept_numbers}
use Rattle.promises.specs.Left.{Lent, answered, left, number_in, vertex_in, triangle_in, mesh_in}
use Rattle.promises.proofs.Extracted.{equal_mesh, vertices_left, triangles_left, no_hole_is_left}
use Rattle.promises.proofs.Surface.{number_is}
use Rattle.promises.proofs.StlKept.{stl_kept}
use Rattle.promises.specs.Weld.{LentWhole, answered_whole, left_whole, weld_outcome, left_welded, corner_at, edge_in}
use Rattle.promises.proofs.WeldExtracted.{answered_alike, left_alike, edges_fit, all_made, edge_told, whole_extraction}

-- the vertices and triangles of lists, read back
module _ (b : Lent) (edge : ℕ → ℕ) (v t : ℕ) where
  pub made_at : (i : ℕ) → i < v → get_or (mesh_in b edge v t).made i no_vertex ≡ record { vertex = vertex_in b i; edge = edge i }
  made_at i h = get_d_listed _ v i no_vertex h

  triangle_at_lem : (k : ℕ) → k < t → triangle_at (mesh_in b edge v t) k ≡ triangle_in b k
  triangle_at_lem k h = get_d_listed (triangle_in b) t k no_triangle h

module _ (s : Star) (lent : LentWhole) (c : Counts) (e : answered_whole s lent ≡ Ok c) where
  abbrev lists : LentWhole
  lists = left_whole s lent

  abbrev es : List ℕ
  es = lists.edges

  abbrev floats : List Float
  floats = lists.mesh.vertices

  abbrev indices : List ℕ
  indices = lists.mesh.triangles

  abbrev R : ℕ
  R = length (regular_mesh s).made

  -- without the further list
  pub alone : answered s lent.mesh ≡ Ok c
  alone = answered_alike s lent c e

  pub mesh_is : left s lent.mesh ≡ lists.mesh
  mesh_is = left_alike s lent c e

  pub regular_in : R ≤ length (mesh_of s).made
  regular_in = rw (all_made s lent c e) at (no_hole_is_left s lent.mesh c alone).vertices_in

  -- ---- what the lists tell of a vertex

  pub edge_regular : (i : ℕ) → i < R → edge_in lists i ≡ edge_at (regular_mesh s).made i
  edge_regular i h = edge_told s lent c e i (omega (arith, regular_in)) ∙ ap (λ (v : Made). v.edge) (made_regular s i h)

  number_told : (i k : ℕ) → i < length (mesh_of s).made → k < 6 → number_in lists.mesh i k ≡ get_or (vertex_floats (get_or (mesh_of s).made i no_vertex)) k nan
  number_told =
      number_is s lists.mesh lent.mesh.vertices lent.mesh.triangles
      (ap (λ (b : Lent). b.vertices) (sym mesh_is) ∙ vertices_left s lent.mesh c alone)
      (ap (λ (b : Lent). b.triangles) (sym mesh_is) ∙ triangles_left s lent.mesh c alone)

  -- two regular vertices with one number are the same
  same_vertex : (i j k : ℕ) → i < R → j < R → edge_in lists i ≡ edge_in lists j → k < 6 → number_in lists.mesh i k ≡ number_in lists.mesh j k
  same_vertex i j k hi hj same small =
      let told : (n : ℕ) (h : n < R) → number_in lists.mesh n k ≡ get_or (vertex_floats (get_or (regular_mesh s).made n no_vertex)) k nan =
      λ n h. number_told n k (omega (arith, regular_in)) small ∙ ap (λ (v : Made). get_or (vertex_floats v) k nan) (made_regular s n h) in
      let one = one_vertex s i j hi hj (sym (edge_regular i hi) ∙ same ∙ edge_regular j hj) in
      told i hi ∙ ap (λ (v : Vertex). get_or (vertex_floats (record { vertex = v; edge = no_edge })) k nan) one ∙ sym (told j hj)

  -- of a vertex and the one that is kept for it: both are regular and on one edge, or they are the same
  pub by_kind : (P : ℕ → ℕ → Type 0) (i : ℕ) → i < c.vertices → ((f : ℕ) → f < R → i < R → edge_in lists f ≡ edge_in lists i → P f i) → P i i → P (keeper es i) i
  by_kind P i h regular itself = go (dec_lt i R)
    where
      go : Dec (i < R) → P (keeper es i) i
      go (yes l) = let keeps = keeper_keeps es i in regular (keeper es i) (omega (arith, keeps.first)) l keeps.same
      go (no l) =
          let mark : edge_in lists i ≡ no_edge = ((whole_extraction.accepted s lent c e).marks i h).1 (omega arith) in
          rw ((keeper_keeps es i).itself (kept_mark es i mark)) itself

  -- ---- the lists pass

  floats_are : (left s lent.mesh).vertices ≡ floats
  floats_are = ap (λ (b : Lent). b.vertices) mesh_is

  indices_are : (left s lent.mesh).triangles ≡ indices
  indices_are = ap (λ (b : Lent). b.triangles) mesh_is

  pub whole_lists : Whole c.vertices c.triangles floats indices es
  whole_lists =
      let mesh = equal_mesh s lent.mesh c alone in
      let vertices : length (take (6 * c.vertices) (left s lent.mesh).vertices) ≡ 6 * c.vertices = ap length mesh.vertices.first ∙ mesh.vertices.long in
      let triangles : length (take (3 * c.triangles) (left s lent.mesh).triangles) ≡ 3 * c.triangles = ap length mesh.triangles.first ∙ mesh.triangles.long in
      let held : vertex_count (take (6 * c.vertices) (left s lent.mesh).vertices) ≡ c.vertices = omega arith in
      record {
        floats = omega (arith, vertices, length-take (6 * c.vertices) (left s lent.mesh).vertices, ap length floats_are);
        indices = omega (arith, triangles, length-take (3 * c.triangles) (left s lent.mesh).triangles, ap length indices_are);
        numbers = omega (arith, all_made s lent c e, edges_fit s lent c e, (whole_extraction.accepted s lent c e).edges.as_long);
        named = rw (held, indices_are) at (stl_kept.writable s lent.mesh c alone).named;
      }

  pub outcome_is : weld_outcome c lists ≡ weld_answer c.vertices c.triangles floats indices es (Ok tt)
  unfolding weld
  outcome_is = ap (weld_answer c.vertices c.triangles floats indices es) (passes c.vertices c.triangles floats indices es whole_lists)

  abbrev after : LentWhole
  after = left_welded c lists

  pub corner_low : (p : ℕ) → p < 3 * c.triangles → corner_at lists p < c.vertices
  corner_low = corner_below c.vertices c.triangles floats indices es whole_lists

  -- ---- a vertex and a corner at the new index

  pub edge_anew : (i : ℕ) → i < c.vertices → edge_in after (new_index es i) ≡ edge_in lists i
  unfolding weld_answer
  edge_anew i h = rw outcome_is (same_number es c.vertices i h)

  pub numbers_anew : (i k : ℕ) → i < c.vertices → k < 6 → number_in after.mesh (new_index es i) k ≡ number_in lists.mesh i k
  unfolding weld_answer
  numbers_anew i k h small =
      let found : number_in after.mesh (new_index es i) k ≡ number_in lists.mesh (keeper es i) k = rw outcome_is (kept_numbers es c.vertices floats i k h small) in
      found ∙ by_kind (λ f j. number_in lists.mesh f k ≡ number_in lists.mesh j k) i h (λ f hf hi same. same_vertex f i k hf hi same small) refl

  pub corner_anew : (p : ℕ) → p < 3 * c.triangles → corner_at after p ≡ new_index es (corner_at lists p)
  unfolding weld_answer
  corner_anew p l = rw outcome_is (corner_is c.vertices c.triangles floats indices es whole_lists p l)

  vertex_anew : (i : ℕ) → i < c.vertices → vertex_in after.mesh (new_index es i) ≡ vertex_in lists.mesh i
  vertex_anew i h =
      let same : (k : ℕ) → k < 6 → number_in after.mesh (new_index es i) k ≡ number_in lists.mesh i k = λ k. numbers_anew i k h in
      λ q.
      record {
        position = vector (same 0 (omega arith) q) (same 1 (omega arith) q) (same 2 (omega arith) q);
        gradient = vector (same 3 (omega arith) q) (same 4 (omega arith) q) (same 5 (omega arith) q);
      }

  triangle_anew : (k : ℕ) → k < c.triangles → triangle_in after.mesh k ≡ renamed (new_index es) (triangle_in lists.mesh k)
  triangle_anew k h =
      let corner : (j : ℕ) → j < 3 → corner_at after (3 * k + j) ≡ new_index es (corner_at lists (3 * k + j)) = λ j small. corner_anew (3 * k + j) (omega arith) in
      λ q. record { a = corner 0 (omega arith) q; b = corner 1 (omega arith) q; c = corner 2 (omega arith) q }

  -- ---- so a mesh of the first of them is named anew, whatever is told of its vertices' edges

  module _ (edge edge' : ℕ → ℕ) (v t : ℕ) (few : v ≤ c.vertices) (few_triangles : t ≤ c.triangles) where
    pub named_anew : ((i : ℕ) → i < v → edge' (new_index es i) ≡ edge i) → Renamed (mesh_in lists.mesh edge v t) (mesh_in after.mesh edge' (kept_before es v) t) (new_index es)
    named_anew told =
        let K = kept_before es v in
        let before = mesh_in lists.mesh edge v t in
        let then = mesh_in after.mesh edge' K t in
        let long_before : length before.made ≡ v = length_listed _ v in
        let long_then : length then.made ≡ K = length_listed _ K in
        let many_before : length before.triangles ≡ t = length_listed _ t in
        let many_then : length then.triangles ≡ t = length_listed _ t in
        let in_v : (i : ℕ) → i < length before.made → i < v = λ i h. rw long_before at h in
        let new : (i : ℕ) → i < v → new_index es i < K = λ i h. new_below es i v h in
        let pair : (i : ℕ) → i < v → get_or then.made (new_index es i) no_vertex ≡ get_or before.made i no_vertex =
        λ i h. made_at after.mesh edge' K t (new_index es i) (new i h)
        ∙ (λ q. record { vertex = vertex_anew i (omega arith) q; edge = told i h q })
        ∙ sym (made_at lists.mesh edge v t i h) in
        let which : (j : ℕ) → j < length then.made → Which (kept es) v j = λ j h. which_one (kept es) v j (rw long_then at h) in
        record {
          there = λ i h. rw long_then (new i (in_v i h));
          lower = new_first es;
          edge_is = λ i h. ap (λ (m : Made). m.edge) (pair i (in_v i h));
          vertex_is = λ i h. ap (λ (m : Made). m.vertex) (pair i (in_v i h));
          of = λ j h. (which j h).one_is;
          of_there = λ j h. rw long_before (which j h).below;
          of_named = λ j h. let w = which j h in kept_index es w.one_is w.passes ∙ w.before;
          as_many = many_then ∙ sym many_before;
          triangles_are = λ k h.
              let l : k < t = rw many_before at h in
              triangle_at_lem after.mesh edge' K t k l ∙ triangle_anew k (omega arith) ∙ ap (renamed (new_index es)) (sym (triangle_at_lem lists.mesh edge v t k l));
        }

  pub names_vertices : (edge : ℕ → ℕ) (k : ℕ) → k < length (mesh_in lists.mesh edge c.vertices c.triangles).triangles
      → NamesVertices (mesh_in lists.mesh edge c.vertices c.triangles) k
  names_vertices edge k h =
      let l : k < c.triangles = rw length_listed at h in
      let corner : (j : ℕ) → j < 3 → corner_at lists (3 * k + j) < length (mesh_in lists.mesh edge c.vertices c.triangles).made =
      λ j small. rw length_listed (corner_low (3 * k + j) (omega arith)) in
      let at = triangle_at_lem lists.mesh edge c.vertices c.triangles k l in
      record {
        a = rw (ap (λ (q : Triangle). q.a) at) (corner 0 (omega arith));
        b = rw (ap (λ (q : Triangle). q.b) at) (corner 1 (omega arith));
        c = rw (ap (λ (q : Triangle). q.c) at) (corner 2 (omega arith));
      }
