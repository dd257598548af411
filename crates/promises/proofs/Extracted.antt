-- Extraction, by the two things that its judges can come to, passed and refused. What it leaves when it is accepted is laid by the definition's own
-- words, into buffers in which 9 and 10 have found room.
use Rattle.std.specs.Prelude.{◌*◌, ◌/◌, ◌≤◌, ◌≡◌, leb, Err, Ok}
use Rattle.std.proofs.Common.{arith, sym, ◌∙◌, length-append}
use Rattle.std.proofs.Math.Path.{refl, ap}
use Rattle.std.proofs.Math.Bool.{and-eq-true_iff}
use borrow.Author.Tests.{leb-true}
use Rattle.std.proofs.Math.ListN.{length}
use Rattle.laws.specs.Steps.{laid, each}
use Rattle.laws.specs.Lists.{length_each}
use Rattle.model.specs.declared.Counts.{Counts}
use Rattle.model.specs.declared.Refusal.{Refusal}
use Rattle.model.specs.declared.Refusal.TheVariants.{NoRoom, IndexStoreTooShort}
use Rattle.model.specs.Answers.{Verdict}
use Rattle.model.specs.Star.{Star, subdivisions}
use Rattle.model.specs.Judging.{judge_star, judge_faces, judge_store}
use Rattle.model.specs.Mesh.{Mesh, store_length, regular_mesh, mesh_of}
use Rattle.model.specs.Extraction.{vertex_floats, triangle_indices, Outcome, judge_extraction, outcome, extract}
use Rattle.judge.specs.First.{both_passed, unless_passed}
use Rattle.closed.proofs.Front.{regular_first, store_long, none_named}
use Rattle.promises.specs.Left.{Lent, answered, left, counts}
use Rattle.promises.specs.Orders.{Judged, extraction_judges}
use Rattle.promises.specs.Promises.{EqualMesh, NoHoleIsLeft}
use Rattle.promises.proofs.Judges.{judged, extraction_in_order, extraction_numbered, no_room}
use Rattle.promises.proofs.ReadBack.{is_laid}
use Rattle.promises.proofs.Surface.{no_hole_left}

module _ (m : Mesh) (lent : Lent) where
  abbrev came : Verdict → Outcome
  came = outcome m lent.store lent.vertices lent.triangles

  abbrev meshed : Counts
  meshed = record { vertices = length m.made; triangles = length m.triangles }

  pub mesh_answered : (v : Verdict) (c : Counts) → (came v).answer ≡ Ok c → (v ≡ Ok tt) × (c ≡ meshed)
  unfolding outcome
  mesh_answered (Ok _) c e = (refl, cc)
  mesh_answered (Err q) c e = (cc, cc)

module _ (s : Star) (lent : Lent) where
  abbrev verdict : Verdict
  verdict = judge_extraction s (length lent.store) (length lent.vertices) (length lent.triangles)

  pub extraction : Judged (extraction_judges s lent) (λ r. answered s lent ≡ Err r) (answered s lent ≡ Ok (counts s))
  unfolding extract outcome
  extraction =
      judged Err (Ok (counts s)) (λ v. (came (mesh_of s) lent v).answer) refl (λ r. refl) (λ q r e. cc) (λ r e. cc)
      (extraction_judges s lent) verdict (extraction_in_order s lent) (extraction_numbered s lent)

  pub extraction_untouched : (r : Refusal) → answered s lent ≡ Err r → left s lent ≡ lent
  unfolding extract outcome
  extraction_untouched r e =
      ap (λ (v : Verdict). let o = came (mesh_of s) lent v in record { store = o.store; vertices = o.vertices; triangles = o.triangles })
      (sym (extraction_in_order s lent) ∙ (extraction.refused_by_first r).0 e)

  pub wanted : (c : Counts) → answered s lent ≡ Err (NoRoom c) → c ≡ counts s
  wanted c e = no_room s lent c ((extraction.refused_by_first (NoRoom c)).0 e)

  -- ---- an accepted one

  module _ (c : Counts) (e : answered s lent ≡ Ok c) where
    accepted : (verdict ≡ Ok tt) × (c ≡ counts s)
    unfolding extract
    accepted = mesh_answered (mesh_of s) lent verdict c e

    -- 1 to 7 have passed
    pub passed : judge_star s ≡ Ok tt
    unfolding judge_extraction
    passed = (both_passed (judge_star s) _ accepted.0).0

    -- 8 has passed
    pub faces_passed : judge_faces s ≡ Ok tt
    unfolding judge_extraction
    faces_passed = (both_passed (judge_faces s) _ (both_passed (judge_star s) _ accepted.0).1).0

    -- 9 and 10 have passed
    record Room : Type 0 where
      store_fits : store_length (subdivisions s) ≤ length lent.store
      vertices_fit : 6 * length (mesh_of s).made ≤ length lent.vertices
      triangles_fit : 3 * length (mesh_of s).triangles ≤ length lent.triangles

    room : Room
    unfolding judge_extraction
    room =
        let wantedStore = store_length (subdivisions s) in
        let nv = length (mesh_of s).made in
        let nt = length (mesh_of s).triangles in
        let past-7 = (both_passed (judge_star s) _ accepted.0).1 in
        let past-8 = (both_passed (judge_faces s) _ past-7).1 in
        let past-9 = both_passed (judge_store (subdivisions s) (length lent.store)) _ past-8 in
        let both = (and-eq-true_iff (leb nv (length lent.vertices / 6)) (leb nt (length lent.triangles / 3))).0 (unless_passed _ (NoRoom (counts s)) past-9.1) in
        let few_vertices = leb-true nv (length lent.vertices / 6) both.0 in
        let few_triangles = leb-true nt (length lent.triangles / 3) both.1 in
        record {
          store_fits = leb-true wantedStore (length lent.store) (unless_passed _ (IndexStoreTooShort wantedStore) past-9.0);
          vertices_fit = omega arith;
          triangles_fit = omega arith;
        }

    pub vertices_left : (left s lent).vertices ≡ laid (each vertex_floats (mesh_of s).made) lent.vertices
    unfolding extract outcome
    vertices_left = ap (λ (v : Verdict). (came (mesh_of s) lent v).vertices) accepted.0

    pub triangles_left : (left s lent).triangles ≡ laid (each triangle_indices (mesh_of s).triangles) lent.triangles
    unfolding extract outcome
    triangles_left = ap (λ (v : Verdict). (came (mesh_of s) lent v).triangles) accepted.0

    store_left : (left s lent).store ≡ laid (mesh_of s).store lent.store
    unfolding extract outcome
    store_left = ap (λ (v : Verdict). (came (mesh_of s) lent v).store) accepted.0

    pub equal_mesh : EqualMesh s lent c
    equal_mesh =
        let floats : length (each vertex_floats (mesh_of s).made) ≡ 6 * length (mesh_of s).made = length_each vertex_floats 6 (mesh_of s).made (λ m. refl) in
        let indices : length (each triangle_indices (mesh_of s).triangles) ≡ 3 * length (mesh_of s).triangles =
        length_each triangle_indices 3 (mesh_of s).triangles (λ m. refl) in
        rw accepted.1
        (record {
          counted = refl;
          vertices = rw vertices_left (is_laid _ _ _ floats room.vertices_fit);
          triangles = rw triangles_left (is_laid _ _ _ indices room.triangles_fit);
          store = rw store_left (is_laid _ _ _ (store_long s) room.store_fits);
        })

    pub no_hole_is_left : NoHoleIsLeft s lent c
    no_hole_is_left =
        let first = regular_first s in
        rw accepted.1
        (record {
          no_hole = no_hole_left s (left s lent) lent.vertices lent.triangles vertices_left triangles_left;
          vertices_in = omega (arith, ap length first.made_are, length-append (regular_mesh s).made first.made);
          triangles_in = omega (arith, ap length first.triangles_are, length-append (regular_mesh s).triangles first.triangles);
          all_regular = none_named s;
        })
