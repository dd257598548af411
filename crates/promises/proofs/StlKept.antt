-- What was promised of STL holds: its two calls are judged by their judges in order; and what extraction leaves can be written, since its triangles are
-- few and closed's theorem says that each names a vertex with each corner.
use Rattle.std.specs.Prelude.{ℕ, ◌+◌, ◌*◌, ◌≤◌, ◌<◌, ◌≡◌, List, eqb, leb, Float, length, get_or, Err, Ok}
use Rattle.std.proofs.Common.{add-zero, arith, sym, ◌∙◌, subst, ⊎_elim, le-leb}
use Rattle.std.proofs.Math.Path.{refl, ap}
use Rattle.std.specs.Int.Count.{ones, ones_in}
use Rattle.laws.specs.Steps.{each}
use Rattle.laws.specs.Lists.{length_each}
use Rattle.laws.specs.Rounds.{each_at}
use Rattle.model.specs.declared.Counts.{Counts}
use Rattle.model.specs.declared.Refusal.{Refusal}
use Rattle.model.specs.declared.Refusal.TheVariants.{StlLength, NoVertex}
use Rattle.model.specs.Answers.{Verdict}
use Rattle.model.specs.Star.{Star}
use Rattle.model.specs.Judging.{judge_star}
use Rattle.model.specs.Mesh.{mesh_of}
use Rattle.model.specs.Extraction.{vertex_floats, triangle_indices}
use Rattle.judge.specs.First.{or_else_passed}
use Rattle.judge.specs.Passing.{star_shaped}
use Rattle.closed.specs.Clauses.{no_triangle, triangle_at}
use Rattle.closed.proofs.Indices.{names_vertices}
use Rattle.model.specs.Corners.{triangle_count, named, judge_named}
use Rattle.stl.specs.Definition.{vertex_count, file_of, start_length, file_length, most_triangles, judge_many, judge_writing, write_answer, write_stl, count_in, float_count, positions_in, judge_file, judge_reading, ReadOutcome, read_answer, read_stl}
use Rattle.stl.specs.Named.{AllName, all_name_passes}
use Rattle.stl.specs.Parts.{length_file}
use Rattle.stl.specs.Read.{was_read, length_positions, same_read}
use Rattle.stl.specs.Written.{wrote, written_plain, written_count}
use Rattle.stl.specs.RoundTrip.{write_read, corner_back, read_write}
use Rattle.promises.specs.Left.{Laid, Lent, answered, left}
use Rattle.promises.specs.Orders.{in_order, Numbered, Judged}
use Rattle.promises.specs.Stl.{stl_writing_judges, stl_reading_judges, vertices_left, triangles_left, WritableAsStl, StlPromises}
use Rattle.promises.proofs.Judges.{◌&◌, judged, one_or_other, Refuses, by_unless, by_first, buffer_number}
use Rattle.promises.proofs.ReadBack.{is_laid}
use Rattle.promises.proofs.Extracted.{passed, equal_mesh}
use Rattle.promises.proofs.LargerKept.{triangles_few}

-- ---- writing

module _ (vertices : List Float) (triangles bytes : List ℕ) where
  abbrev count : ℕ
  count = triangle_count triangles

  abbrev held : ℕ
  held = vertex_count vertices

  named_number : Refuses 17 (judge_named held triangles)
  unfolding judge_named
  named_number = by_first 17 _ (λ t. by_unless (named held triangles t) (NoVertex t)) count

  writing_in_order : in_order (stl_writing_judges vertices triangles bytes) ≡ judge_writing held triangles (length bytes)
  unfolding judge_writing
  writing_in_order = simp or_else_passed

  writing_numbered : Numbered (stl_writing_judges vertices triangles bytes)
  writing_numbered =
      by_unless (leb count most_triangles) (StlLength 0) & named_number & buffer_number (file_length count) (length bytes) & tt

  writing : Judged (stl_writing_judges vertices triangles bytes) (λ r. (write_stl vertices triangles bytes).answer ≡ Err r)
      ((write_stl vertices triangles bytes).answer ≡ Ok (file_length count))
  unfolding write_stl
  writing =
      judged Err (Ok (file_length count)) (λ v. (write_answer vertices triangles bytes v).answer) refl (λ r. refl) (λ q r e. cc)
      (λ r e. cc) _ _ writing_in_order writing_numbered

  writing_untouched : (r : Refusal) → (write_stl vertices triangles bytes).answer ≡ Err r → (write_stl vertices triangles bytes).bytes ≡ bytes
  unfolding write_stl
  writing_untouched r e =
      ap (λ (v : Verdict). (write_answer vertices triangles bytes v).bytes) (sym writing_in_order ∙ (writing.refused_by_first r).0 e)

  file_laid : (k : ℕ) → (write_stl vertices triangles bytes).answer ≡ Ok k
      → Laid k (file_of vertices triangles) bytes (write_stl vertices triangles bytes).bytes
  file_laid k e =
      let w = wrote vertices triangles bytes k e in
      subst (Laid k (file_of vertices triangles) bytes) (sym w.left)
      (is_laid _ _ _ (length_file vertices triangles ∙ sym w.long) (omega (arith, w.long, w.whole.fits)))

-- ---- reading

module _ (bytes : List ℕ) (positions : List Float) where
  file_number : Refuses 16 (judge_file bytes)
  file_number r e =
      let wanted = file_length (count_in bytes) in
      ⊎_elim (by_unless (leb start_length (length bytes)) (StlLength start_length) r) (by_unless (eqb (length bytes) wanted) (StlLength wanted) r)
      (one_or_other _ _ r e)

  reading_in_order : in_order (stl_reading_judges bytes positions) ≡ judge_reading bytes (length positions)
  unfolding judge_reading
  reading_in_order = simp or_else_passed

  reading : Judged (stl_reading_judges bytes positions) (λ r. (read_stl bytes positions).answer ≡ Err r)
      ((read_stl bytes positions).answer ≡ Ok (count_in bytes))
  unfolding read_stl
  reading =
      judged Err (Ok (count_in bytes)) (λ v. (read_answer bytes positions v).answer) refl (λ r. refl) (λ q r e. cc) (λ r e. cc) _ _
      reading_in_order (file_number & buffer_number (float_count * count_in bytes) (length positions) & tt)

  reading_untouched : (r : Refusal) → (read_stl bytes positions).answer ≡ Err r → (read_stl bytes positions).positions ≡ positions
  unfolding read_stl
  reading_untouched r e = ap (λ (v : Verdict). (read_answer bytes positions v).positions) (sym reading_in_order ∙ (reading.refused_by_first r).0 e)

  positions_laid : (count : ℕ) → (read_stl bytes positions).answer ≡ Ok count
      → Laid (float_count * count) (positions_in bytes) positions (read_stl bytes positions).positions
  positions_laid count e =
      let r = was_read bytes positions count e in
      subst (Laid (float_count * count) (positions_in bytes) positions) (sym r.left)
      (is_laid _ _ _ (length_positions bytes ∙ ap (λ (k : ℕ). float_count * k) r.counted) (omega (arith, r.counted, r.whole.fits)))

-- ---- what extraction leaves

-- where 16 and 17 pass, 14 is left
module _ (vertices : List Float) (triangles : List ℕ) (few : judge_many (triangle_count triangles) ≡ Ok tt)
    (named : judge_named (vertex_count vertices) triangles ≡ Ok tt) where
  writable : WritableAsStl vertices triangles (triangle_count triangles)
  unfolding write_stl judge_writing
  writable =
      record {
        few = few;
        named = named;
        written = λ bytes.
            let long = file_length (triangle_count triangles) in
            judged Err (Ok long) (λ v. (write_answer vertices triangles bytes v).answer) refl (λ r. refl) (λ q r e. cc) (λ r e. cc)
            _ (judge_writing (vertex_count vertices) triangles (length bytes)) (rw (few, named, or_else_passed))
            (buffer_number long (length bytes), tt);
      }

-- ---- the definition's mesh, in lists as extraction leaves them

module _ (s : Star) where
  abbrev floats : List Float
  floats = each vertex_floats (mesh_of s).made

  abbrev indices : List ℕ
  indices = each triangle_indices (mesh_of s).triangles

  vertex_count_lem : vertex_count floats ≡ length (mesh_of s).made
  vertex_count_lem = rw (length_each vertex_floats 6 (mesh_of s).made (λ m. refl)) (omega arith)

  triangle_count_lem : triangle_count indices ≡ length (mesh_of s).triangles
  triangle_count_lem = rw (length_each triangle_indices 3 (mesh_of s).triangles (λ t. refl)) (omega arith)

  all_name : AllName floats indices
  all_name t h =
      let in_mesh : t < length (mesh_of s).triangles = rw triangle_count_lem at h in
      let names = names_vertices s t in_mesh in
      record {
        one = rw add-zero at (corner t in_mesh 0 (omega arith) names.a);
        two = corner t in_mesh 1 (omega arith) names.b;
        three = corner t in_mesh 2 (omega arith) names.c;
      }
    where
      corner : (t : ℕ) → t < length (mesh_of s).triangles → (k : ℕ) → k < 3
          → get_or (triangle_indices (triangle_at (mesh_of s) t)) k 0 < length (mesh_of s).made → get_or indices (3 * t + k) 0 < vertex_count floats
      corner t h k small l = rw (each_at triangle_indices 3 (λ t. refl) (mesh_of s).triangles t k no_triangle 0 h small, vertex_count_lem) l

  few_triangles : judge_star s ≡ Ok tt → triangle_count indices ≤ most_triangles
  unfolding ones ones_in
  few_triangles e =
      let shape = star_shaped s e in
      omega (arith, triangle_count_lem, triangles_few s shape.few shape.sides)

to_stl : (s : Star) (lent : Lent) (c : Counts) → answered s lent ≡ Ok c
    → WritableAsStl (vertices_left c (left s lent)) (triangles_left c (left s lent)) c.triangles
to_stl s lent c e =
    let mesh = equal_mesh s lent c e in
    let vertices : vertices_left c (left s lent) ≡ floats s = mesh.vertices.first in
    let triangles : triangles_left c (left s lent) ≡ indices s = mesh.triangles.first in
    let few : judge_many (triangle_count (indices s)) ≡ Ok tt = rw (le-leb _ _ (few_triangles s (passed s lent c e))) in
    rw (vertices, triangles, mesh.counted, ← triangle_count_lem s)
    (writable (floats s) (indices s) few (all_name_passes (floats s) (indices s) (all_name s)))

pub stl_kept : StlPromises
stl_kept =
    record {
      answered_always = record {
        writing = writing;
        writing_untouched = writing_untouched;
        file = file_laid;
        reading = reading;
        reading_untouched = reading_untouched;
        positions = positions_laid;
      };
      files = record {
        plain = written_plain;
        counted = written_count;
        corners = corner_back;
        read_back = λ vertices triangles bytes k positions fit e room.
            ap (λ (o : ReadOutcome). o.answer) (write_read vertices triangles bytes k positions fit e room);
        dropped = same_read;
        written_back = read_write;
      };
      writable = to_stl;
    }
