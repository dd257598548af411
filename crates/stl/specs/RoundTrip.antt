-- Document 02, [1]: writing then reading gives each corner the position of the vertex that its triangle names; reading then writing gives
-- the file back where header, normals and attributes are zero and no corner is a NaN.
use Rattle.std.specs.Prelude.{ℕ, ◌+◌, ◌*◌, ◌≤◌, ◌<◌, ◌≡◌, refl, Float, take, drop, Ok}
use Rattle.std.proofs.Common.{zero-add, add-zero, sym, ◌∙◌, length-drop, take-append-drop, ext_get_or, get_or-take, get_or-drop, take-add, take_all, drop-drop, length-take-le}
use native.Mathlib.Omega.{arith}
use Rattle.std.proofs.Math.Path.{ap, ap₂}
use mathlib.Core.List.{List, ◌++◌}
use Rattle.std.specs.Float.Ieee.{nan}
use Rattle.std.proofs.Math.ListN.{length, get_or}
use Rattle.laws.specs.Steps.{each, laid}
use Rattle.laws.specs.Counting.{gather}
use Rattle.laws.specs.Lists.{get_d_listed}
use Rattle.laws.specs.LaidBuffers.{laid_first}
use Rattle.laws.specs.Gathered.{length_gather, get_d_gather, gather_pieces, three_pieces}
use Rattle.model.specs.Words.{little_float_at, little_float_bytes}
use Rattle.words.specs.Orders.{Bytes, little}
use Rattle.words.specs.Floats.{Fit, floats_back}
use Rattle.model.specs.Corners.{triangle_count, corner_of}
use Rattle.stl.specs.Definition.{vertex_count, corners_of, header_length, start_length, normal_length, corners_length, attribute_length, triangle_length, zeros, triangle_bytes, file_of, file_length, write_answer, write_stl, count_in, float_count, corners_from, corners_in, positions_in, ReadOutcome, read_answer, read_stl}
use Rattle.stl.specs.Parts.{length_zeros, zero_at, start_of, facet_of, file_parts, length_file}
use Rattle.stl.specs.Passing.{Writable, writing_passes, Readable, reading_passes}
use Rattle.stl.specs.Corners.{nine, corners_by, corner_at_lem}
use Rattle.stl.specs.Files.{attribute_from, Plain, ThreeEach, NumbersIn}
use Rattle.stl.specs.Read.{was_read}
use Rattle.stl.specs.Written.{wrote, count_in_file, positions_in_file}

-- ---- writing then reading

module _ (vertices : List Float) (triangles out : List ℕ) (k : ℕ) (positions : List Float) (fit : Fit vertices)
    (e : (write_stl vertices triangles out).answer ≡ Ok k) (room : float_count * triangle_count triangles ≤ length positions) where
  abbrev count : ℕ
  count = triangle_count triangles

  abbrev file : List ℕ
  file = file_of vertices triangles

  file_readable : Readable file (length positions)
  file_readable =
      let w = wrote vertices triangles out k e in
      let told = count_in_file vertices triangles w.whole.few in
      let long = length_file vertices triangles in
      record { file = record { long = omega arith; counted = rw told long }; fits = rw told room }

  pub write_read : read_stl (take k (write_stl vertices triangles out).bytes) positions
      ≡ record { answer = Ok count; positions = laid (gather (corners_of vertices triangles) count) positions }
  unfolding read_stl
  write_read =
      let w = wrote vertices triangles out k e in
      ap (λ (b : List ℕ). read_stl b positions) w.taken
      ∙ ap (read_answer file positions) (reading_passes file (length positions) file_readable)
      ∙ (λ i. record {
        answer = Ok (count_in_file vertices triangles w.whole.few i);
        positions = laid (positions_in_file vertices triangles w.whole.few fit i) positions;
      })

  -- corner by corner
  pub corner_back : (t corner axis : ℕ) → t < count → corner < 3 → axis < 3
      → get_or (read_stl (take k (write_stl vertices triangles out).bytes) positions).positions (float_count * t + (3 * corner + axis)) nan
      ≡ get_or vertices (6 * corner_of triangles t corner + axis) nan
  corner_back t corner axis h c a =
      let corners = corners_of vertices triangles in
      let at = float_count * t + (3 * corner + axis) in
      let inside : at < length (gather corners count) = rw (length_gather corners float_count (nine vertices triangles)) (omega arith) in
      ap (λ (o : ReadOutcome). get_or o.positions at nan) write_read
      ∙ laid_first (gather corners count) positions at nan inside
      ∙ get_d_gather corners float_count (nine vertices triangles) count t (3 * corner + axis) nan h (omega arith)
      ∙ corner_at_lem vertices triangles t corner axis c a

-- ---- reading then writing

-- a stretch of zeros, as they stand
zeros_are : (bytes : List ℕ) (n at : ℕ) → at + n ≤ length bytes → ((i : ℕ) → i < n → get_or bytes (at + i) 0 ≡ 0) → zeros n ≡ take n (drop at bytes)
zeros_are bytes n at room zero =
    let long : length (take n (drop at bytes)) ≡ n = length-take-le n (drop at bytes) (rw length-drop (omega arith)) in
    ext_get_or 0 (zeros n) (take n (drop at bytes)) (length_zeros n ∙ sym long)
    (λ i h.
    let l : i < n = rw (length_zeros n) at h in
    zero_at n i l ∙ sym (get_or-take n (drop at bytes) i 0 l ∙ get_or-drop at bytes i 0 ∙ zero i l))

module _ (bytes : List ℕ) (positions vertices : List Float) (triangles : List ℕ) (small : Bytes bytes) (plain : Plain bytes) (numbers : NumbersIn bytes)
    (r : Readable bytes (length positions)) (mesh : ThreeEach (count_in bytes) (laid (positions_in bytes) positions) vertices triangles) where
  abbrev read_count : ℕ
  read_count = count_in bytes

  -- a triangle lies within the file
  within : (t : ℕ) → t < read_count → file_length t + triangle_length ≤ length bytes
  within t h = omega (arith, r.file.counted)

  axis_is : (t : ℕ) → t < read_count → (corner axis : ℕ) → corner < 3 → axis < 3
      → get_or vertices (6 * corner_of triangles t corner + axis) nan ≡ little_float_at bytes (corners_from t + 4 * (3 * corner + axis))
  unfolding positions_in
  axis_is t h corner axis c a =
      let v = 3 * t + corner in
      let at = float_count * t + (3 * corner + axis) in
      let there : 3 * v + axis ≡ at = omega arith in
      let inside : at < length (positions_in bytes) = rw (length_gather (corners_in bytes) float_count (λ t. refl)) (omega arith) in
      ap (λ (v : ℕ). get_or vertices (6 * v + axis) nan) (mesh.index v (omega arith))
      ∙ mesh.position v axis (omega arith) a
      ∙ ap (λ (k : ℕ). get_or (laid (positions_in bytes) positions) k nan) there
      ∙ laid_first (positions_in bytes) positions at nan inside
      ∙ get_d_gather (corners_in bytes) float_count (λ t. refl) read_count t (3 * corner + axis) nan h (omega arith)
      ∙ get_d_listed (λ k. little_float_at bytes (corners_from t + 4 * k)) float_count (3 * corner + axis) nan (omega arith)

  facet_back : (t : ℕ) → t < read_count → facet_of vertices triangles t ≡ take triangle_length (drop (triangle_length * t) (drop start_length bytes))
  unfolding triangle_bytes
  facet_back t h =
      let fits = within t h in
      let corners : corners_of vertices triangles t ≡ corners_in bytes t =
      corners_by vertices triangles t (λ k. little_float_at bytes (corners_from t + 4 * k)) (axis_is t h) in
      ap (λ (l : List Float). zeros normal_length ++ each little_float_bytes l ++ zeros attribute_length) corners
      ∙ ap₂ ◌++◌
      (ap₂ ◌++◌ (zeros_are bytes normal_length (file_length t) (omega arith) (λ i. plain.normals t i h))
      (floats_back little bytes small (corners_from t) float_count (omega arith) (λ k. numbers t k h)))
      (zeros_are bytes attribute_length (attribute_from t) (omega arith) (λ i. plain.attributes t i h))
      ∙ three_pieces bytes (file_length t) normal_length corners_length attribute_length
      ∙ ap (take triangle_length) (sym (drop-drop (triangle_length * t) start_length bytes))

  start_back : start_of read_count ≡ take start_length bytes
  start_back =
      let long = r.file.long in
      ap₂ ◌++◌ (zeros_are bytes header_length 0 (omega arith) (λ i h. rw zero-add (plain.header i h))) (little.back bytes small header_length (omega arith))
      ∙ sym (take-add header_length 4 bytes)

  file_back : file_of vertices triangles ≡ bytes
  file_back =
      let facet = facet_of vertices triangles in
      let rest : length (drop start_length bytes) ≤ triangle_length * read_count = rw length-drop (omega (arith, r.file.counted)) in
      file_parts vertices triangles ∙ ap (λ (n : ℕ). start_of n ++ gather facet n) mesh.as_many
      ∙ ap₂ ◌++◌ start_back
      (gather_pieces facet triangle_length (drop start_length bytes) read_count facet_back ∙ take_all (triangle_length * read_count) (drop start_length bytes) rest)
      ∙ take-append-drop start_length bytes

  mesh_writable : (room : ℕ) → length bytes ≤ room → Writable vertices triangles room
  mesh_writable room h =
      let many = mesh.as_many in
      let named : (t corner : ℕ) → t < triangle_count triangles → corner < 3 → get_or triangles (3 * t + corner) 0 < vertex_count vertices =
      λ t corner l c. omega (arith, mesh.index (3 * t + corner) (omega arith), mesh.enough) in
      record {
        few = omega (arith, little.small bytes small header_length);
        named = λ t l. record { one = rw add-zero at (named t 0 l (omega arith)); two = named t 1 l (omega arith); three = named t 2 l (omega arith) };
        fits = omega (arith, r.file.counted);
      }

pub read_write : (bytes : List ℕ) (positions vertices : List Float) (triangles out : List ℕ) (count : ℕ) → Bytes bytes → Plain bytes → NumbersIn bytes
    → (read_stl bytes positions).answer ≡ Ok count → ThreeEach count (read_stl bytes positions).positions vertices triangles → length bytes ≤ length out
    → write_stl vertices triangles out ≡ record { answer = Ok (length bytes); bytes = laid bytes out }
unfolding read_stl write_stl
read_write bytes positions vertices triangles out count small plain numbers e mesh room =
    let read = was_read bytes positions count e in
    let r = read.whole in
    let same : ThreeEach (count_in bytes) (laid (positions_in bytes) positions) vertices triangles = rw (read.counted, ← read.left) mesh in
    let whole = file_back bytes positions vertices triangles small plain numbers r same in
    let long : file_length (triangle_count triangles) ≡ length bytes = ap file_length same.as_many ∙ sym r.file.counted in
    ap (write_answer vertices triangles out)
    (writing_passes vertices triangles (length out) (mesh_writable bytes positions vertices triangles small plain numbers r same (length out) room))
    ∙ (λ i. record { answer = Ok (long i); bytes = laid (whole i) out })
