-- What was promised of sixty-four subdivisions holds: the verdict on 1 is the only thing in which the calls differ, and each number grows with n and with the
-- sides that are named.
use Rattle.std.specs.Prelude.{ℕ, ◌+◌, ◌-◌, ◌*◌, ◌≤◌, ◌<◌, ◌≡◌, refl, List, length, Err, Ok}
use Rattle.std.proofs.Math.Nat.{mul-le-mul}
use native.Mathlib.Omega.{arith}
use Rattle.std.proofs.Common.{le-leb}
use Rattle.std.proofs.lemmas.Bool.{lt-leb}
use Rattle.std.specs.Int.Count.{ones, ones_in}
use Rattle.std.proofs.lemmas.Nat.{ones-le}
use Rattle.model.specs.declared.Refusal.TheVariants.{Subdivisions}
use Rattle.model.specs.Answers.{Verdict}
use Rattle.model.specs.Limits.{most_subdivisions, most_fine, most_mask, side_count}
use Rattle.model.specs.Refusals.{or_else}
use Rattle.model.specs.Samples.{sample_length}
use Rattle.model.specs.Sides.{sample_count}
use Rattle.model.specs.Star.{Star, subdivisions}
use Rattle.model.specs.Judging.{judge_subdivisions, judge_lent, judge_star, judge_buffer}
use Rattle.model.specs.Mesh.{store_length, regular_mesh}
use Rattle.model.specs.Extraction.{outcome, judge_extraction, extract, read_point}
use Rattle.model.specs.Record.{header_of, count_of, judge_length, judge_version, judge_record, read_answer, read_record, write_record}
use Rattle.model.specs.Viewer.{subdivisions_answer, blank_answer, record_point, sample_answer}
use Rattle.grid.specs.Places.{small, in_block_lem, place_in}
use Rattle.grid.specs.StorePlaces.{small_store, regular_place_in, transition_place_in}
use Rattle.closed.specs.Clauses.{edge_at}
use Rattle.closed.proofs.NoHole.{no_hole}
use Rattle.closed.proofs.Indices.{names_vertices}
use Rattle.promises.specs.Left.{counts}
use Rattle.promises.specs.Enough.{enough_vertices, enough_triangles}
use Rattle.promises.specs.Former.{former_most, former_verdict, record_by, extract_by, point_by, read_by, write_by, subdivisions_by, blank_by, record_point_by, sample_by}
use Rattle.promises.specs.Larger.{AnsweredBy, LargerRefused, largest_count, largest_vertices, largest_triangles, largest_edge, CornersBelow, Reached, LargerPromises}
use Rattle.promises.proofs.Room.{enough}

-- ---- a verdict that is the same leaves every call the same

module _ (verdict : ℕ → Verdict) (These : ℕ → Type 0) (same : (n : ℕ) → These n → judge_subdivisions n ≡ verdict n) where
  of_record : (bytes : List ℕ) → These (header_of bytes).block.subdivisions
      → judge_subdivisions (header_of bytes).block.subdivisions ≡ verdict (header_of bytes).block.subdivisions
  of_record bytes = same (header_of bytes).block.subdivisions

  answered_by : AnsweredBy verdict These
  unfolding extract judge_extraction judge_lent judge_star read_point write_record read_record judge_record subdivisions_answer blank_answer record_point sample_answer
  answered_by =
      record {
        extraction = λ s store vertices triangles h i. extract_by (same (subdivisions s) h i) s store vertices triangles;
        point = λ n samples x y z h i. point_by (same n h i) n samples x y z;
        writing = λ b centre neighbours bytes h i. write_by (same b.block.subdivisions h i) b centre neighbours bytes;
        reading = λ bytes samples h i. read_by (of_record bytes h i) bytes samples;
        viewer_subdivisions = λ bytes h i. subdivisions_by (of_record bytes h i) bytes;
        viewer_blank = λ bytes h i. blank_by (of_record bytes h i) bytes;
        viewer_point = λ bytes x y z h i. record_point_by (of_record bytes h i) bytes x y z;
        viewer_sample = λ bytes x y z h i. sample_by (of_record bytes h i) bytes x y z;
      }

same_verdict : (n : ℕ) → n ≤ former_most → judge_subdivisions n ≡ former_verdict n
same_verdict n h = rw (le-leb n most_subdivisions (omega arith), le-leb n former_most h)

-- ---- a larger one was refused

was_refused : (n : ℕ) → former_most < n → former_verdict n ≡ Err (Subdivisions n)
was_refused n h = rw (le-leb 1 n (omega arith), lt-leb n former_most h)

record_was_refused : (bytes : List ℕ) → judge_length bytes ≡ Ok tt → judge_version bytes ≡ Ok tt
    → let n = (header_of bytes).block.subdivisions in
    former_most < n → record_by (former_verdict n) bytes ≡ Err (Subdivisions n)
record_was_refused bytes length-right version-right h = rw (length-right, version-right, was_refused (header_of bytes).block.subdivisions h)

larger_refused : LargerRefused
unfolding outcome
larger_refused =
    record {
      extraction = λ s store vertices triangles h i. (extract_by (was_refused (subdivisions s) h i) s store vertices triangles).answer;
      reading = λ bytes samples length-right version-right h i.
          (read_answer bytes samples (or_else (record_was_refused bytes length-right version-right h i) (judge_buffer (count_of bytes) (length samples)))).answer;
    }

-- ---- each number grows with n

fewer_samples : (n : ℕ) → n ≤ most_fine → sample_length n ≤ sample_length most_fine
fewer_samples n h = let most = small n h in omega (arith, most.cube, most.square)

few_sides : (mask : ℕ) → mask ≤ most_mask → ones mask ≤ side_count
few_sides mask h = ones-le side_count mask (omega arith)

fewer_counted : (n mask : ℕ) → n ≤ most_subdivisions → mask ≤ most_mask → sample_count n mask ≤ largest_count
unfolding ones ones_in
fewer_counted n mask few sides =
    let m : n + 1 ≤ most_subdivisions + 1 = omega arith in
    let square = mul-le-mul m m in
    let cube = mul-le-mul square m in
    let neighbours = mul-le-mul (few_sides mask sides) (fewer_samples (2 * n) (omega arith)) in
    omega (arith, square, cube, neighbours)

fewer_stored : (n : ℕ) → n ≤ most_subdivisions → store_length n ≤ store_length most_subdivisions
fewer_stored n h = let most = small_store n h in omega (arith, most.cube, most.square)

module _ (n mask : ℕ) (few : n ≤ most_subdivisions) (sides : mask ≤ most_mask) where
  fewer_vertices : enough_vertices n mask ≤ largest_vertices
  unfolding ones ones_in
  fewer_vertices =
      let square = (small_store n few).square in
      let layers : n * n + 4 * n - 1 ≤ most_subdivisions * most_subdivisions + 4 * most_subdivisions - 1 = omega (arith, square) in
      let rows : 2 * n + 1 ≤ 2 * most_subdivisions + 1 = omega arith in
      let face : 4 * (n * (2 * n + 1)) ≤ 4 * (most_subdivisions * (2 * most_subdivisions + 1)) = omega (arith, mul-le-mul few rows) in
      omega (arith, mul-le-mul few layers, mul-le-mul (few_sides mask sides) face)

  fewer_triangles : enough_triangles n mask ≤ largest_triangles
  unfolding ones ones_in
  fewer_triangles =
      let most = small_store n few in
      let face : 12 * (n * n) ≤ 12 * (most_subdivisions * most_subdivisions) = omega (arith, most.square) in
      omega (arith, most.cube, mul-le-mul (few_sides mask sides) face)

module _ (s : Star) (few : subdivisions s ≤ most_subdivisions) where
  module _ (sides : s.mask ≤ most_mask) where
    vertices_few : (counts s).vertices ≤ largest_vertices
    vertices_few = omega (arith, (enough s sides).vertices, fewer_vertices (subdivisions s) s.mask few sides)

    pub triangles_few : (counts s).triangles ≤ largest_triangles
    triangles_few = omega (arith, (enough s sides).triangles, fewer_triangles (subdivisions s) s.mask few sides)

    corners_below : (t : ℕ) → t < (counts s).triangles → CornersBelow s t largest_vertices
    corners_below t h =
        let names = names_vertices s t h in
        record {
          a = omega (arith, vertices_few, names.a);
          b = omega (arith, vertices_few, names.b);
          c = omega (arith, vertices_few, names.c);
        }

  small_edge : (i : ℕ) → i < length (regular_mesh s).made → edge_at (regular_mesh s).made i ≤ largest_edge
  small_edge i h =
      let n = subdivisions s in
      let l = (no_hole s).lying i h in
      let low = l.on.low in
      let within = l.of_block in
      let below = in_block_lem n low.x low.y low.z (omega arith) (omega arith) (omega arith) in
      let most = mul-le-mul (mul-le-mul m m) m in
      omega (arith, below, most, l.named.held, within.axis_is)
    where
      m : subdivisions s + 1 ≤ most_subdivisions + 1
      m = omega arith

reached : Reached
reached =
    record {
      place = λ n x y z h in_reach. omega (arith, place_in n x y z in_reach, fewer_samples n h);
      count = fewer_counted;
      regular_place_lem = λ n x y z r c. omega (arith, regular_place_in n x y z r c, (small_store n c.few).cube);
      transition_place_lem = λ n side u v r c. omega (arith, transition_place_in n side u v r c, fewer_stored n c.few);
      vertices = vertices_few;
      triangles = triangles_few;
      index = corners_below;
      edge = small_edge;
    }

-- ---- all of it

pub larger_kept : LargerPromises
unfolding ones ones_in
larger_kept =
    record {
      as_now = answered_by judge_subdivisions (λ n. Unit {0}) (λ n u. refl);
      as_before = answered_by former_verdict (λ n. n ≤ former_most) same_verdict;
      larger_refused = larger_refused;
      all_fit_lem = tt;
      reached = reached;
    }
