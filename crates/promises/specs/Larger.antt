-- What was promised of sixty-four subdivisions (document 02, [9]): stored records, and every call on a block of at most 16 subdivisions, are answered as they
-- were (Former), and a larger one was refused with 1; and at the limit, with six sides, every place, length, count, edge number and vertex index fits its
-- width. Definitions only.
use Rattle.std.specs.Prelude.{ℕ, ◌+◌, ◌-◌, ◌*◌, ◌^◌, ◌≤◌, ◌<◌, ◌≡◌, Bool, true, ◌&&◌, List, [], ◌∷◌, T, ltb, ℤ, Float, length, Err, Ok}
use Rattle.model.specs.declared.Header.{Header}
use Rattle.model.specs.declared.Refusal.TheVariants.{Subdivisions}
use Rattle.model.specs.Answers.{Verdict}
use Rattle.model.specs.Limits.{most_subdivisions, most_fine, most_mask}
use Rattle.model.specs.Samples.{sample_length, in_block, place_of, sampled}
use Rattle.model.specs.Sides.{neighbour_length, neighbours_length, sample_count}
use Rattle.model.specs.Star.{Star, subdivisions}
use Rattle.model.specs.Judging.{judge_subdivisions}
use Rattle.model.specs.Mesh.{store_length, regular_place, transition_place, no_edge, regular_mesh, mesh_of}
use Rattle.model.specs.Extraction.{extract, read_point}
use Rattle.model.specs.Record.{header_length, header_of, judge_length, judge_version, read_record, write_record}
use Rattle.model.specs.Viewer.{subdivisions_answer, blank_answer, record_point, sample_answer}
use Rattle.grid.specs.StorePlaces.{RegularCell, TransitionCell}
use Rattle.closed.specs.Clauses.{triangle_at, edge_at}
use Rattle.promises.specs.Left.{counts}
use Rattle.promises.specs.Enough.{enough_vertices, enough_triangles}
use Rattle.promises.specs.Former.{former_most, former_verdict, extract_by, point_by, read_by, write_by, subdivisions_by, blank_by, record_point_by, sample_by}

-- ---- stored records and today's blocks

-- every call on a block or a record whose n is one of these is answered as with this verdict on 1
pub record AnsweredBy (verdict : ℕ → Verdict) (These : ℕ → Type 0) : Type 0 where
  pub extraction : (s : Star) (store : List ℕ) (vertices : List Float) (triangles : List ℕ) → These (subdivisions s)
      → extract s store vertices triangles ≡ extract_by (verdict (subdivisions s)) s store vertices triangles
  pub point : (n : ℕ) (samples : List Float) (x y z : ℤ) → These n → read_point n samples x y z ≡ point_by (verdict n) n samples x y z
  pub writing : (h : Header) (centre neighbours : List Float) (bytes : List ℕ) → These h.block.subdivisions
      → write_record h centre neighbours bytes ≡ write_by (verdict h.block.subdivisions) h centre neighbours bytes
  pub reading : (bytes : List ℕ) (samples : List Float) → let n = (header_of bytes).block.subdivisions in
      These n → read_record bytes samples ≡ read_by (verdict n) bytes samples
  pub viewer_subdivisions : (bytes : List ℕ) → let n = (header_of bytes).block.subdivisions in These n → subdivisions_answer bytes ≡ subdivisions_by (verdict n) bytes
  pub viewer_blank : (bytes : List ℕ) → let n = (header_of bytes).block.subdivisions in These n → blank_answer bytes ≡ blank_by (verdict n) bytes
  pub viewer_point : (bytes : List ℕ) (x y z : ℤ) → let n = (header_of bytes).block.subdivisions in
      These n → record_point bytes x y z ≡ record_point_by (verdict n) bytes x y z
  pub viewer_sample : (bytes : List ℕ) (x y z : ℤ) → let n = (header_of bytes).block.subdivisions in
      These n → sample_answer bytes x y z ≡ sample_by (verdict n) bytes x y z

-- a larger block was refused with 1, and so was a larger record whose length and version are right
pub record LargerRefused : Type 0 where
  pub extraction : (s : Star) (store : List ℕ) (vertices : List Float) (triangles : List ℕ) → let n = subdivisions s in
      former_most < n → (extract_by (former_verdict n) s store vertices triangles).answer ≡ Err (Subdivisions n)
  pub reading : (bytes : List ℕ) (samples : List Float) → judge_length bytes ≡ Ok tt → judge_version bytes ≡ Ok tt
      → let n = (header_of bytes).block.subdivisions in
      former_most < n → (read_by (former_verdict n) bytes samples).answer ≡ Err (Subdivisions n)

-- ---- widths

-- a number that is kept: the largest that it gets to be, and what it has to stay below
pub record Size : Type 0 where
  pub largest : ℕ
  pub below : ℕ

abbrev pub size : ℕ → ℕ → Size
size largest below = record { largest = largest; below = below }

-- what a usize and a u32 hold is below these; of a u32 that is an index or an edge number, 4,294,967,295 stands for none
abbrev pub word64 : ℕ
word64 = 2 ^ 64

abbrev pub word32 : ℕ
word32 = 2 ^ 32

-- the largest of each: a place among the samples of a block, the centre or a neighbour; how many samples the block and its neighbours have, whose places
-- refusal 7 counts; a record's length field; a place of the index store; vertices and triangles; an edge number
abbrev pub largest_place : ℕ
largest_place = sample_length most_fine - 1

abbrev pub largest_count : ℕ
largest_count = sample_count most_subdivisions most_mask

abbrev pub largest_length : ℕ
largest_length = header_length - 4 + 4 * largest_count

abbrev pub largest_store_place : ℕ
largest_store_place = store_length most_subdivisions - 1

abbrev pub largest_vertices : ℕ
largest_vertices = enough_vertices most_subdivisions most_mask

abbrev pub largest_triangles : ℕ
largest_triangles = enough_triangles most_subdivisions most_mask

abbrev pub largest_edge : ℕ
largest_edge = 3 * in_block most_subdivisions most_subdivisions most_subdivisions most_subdivisions + 2

abbrev pub sizes : List Size
sizes =
    -- places and lengths of samples
    size largest_place word64 ∷
    size (sample_length most_subdivisions) word64 ∷
    size (neighbour_length most_subdivisions) word64 ∷
    size (neighbours_length most_subdivisions most_mask) word64 ∷
    size largest_count word64 ∷
    -- a record's length field, and its bytes
    size largest_length word32 ∷
    size (largest_length + 4) word64 ∷
    -- the index store
    size largest_store_place word64 ∷
    size (store_length most_subdivisions) word64 ∷
    -- counts, and the numbers of both buffers
    size largest_vertices word64 ∷
    size largest_triangles word64 ∷
    size (6 * largest_vertices) word64 ∷
    size (3 * largest_triangles) word64 ∷
    -- the last vertex's index, and an edge number
    size (largest_vertices - 1) no_edge ∷
    size largest_edge no_edge ∷
    []

abbrev pub all_fit : List Size → Bool
all_fit [] = true
all_fit (s ∷ rest) = ltb s.largest s.below && all_fit rest

-- the corners of a triangle are vertices' indices below
pub record CornersBelow (s : Star) (t most : ℕ) : Type 0 where
  pub a : (triangle_at (mesh_of s) t).a < most
  pub b : (triangle_at (mesh_of s) t).b < most
  pub c : (triangle_at (mesh_of s) t).c < most

-- no block that 1 and 2 accept has a larger one
pub record Reached : Type 0 where
  pub place : (n x y z : ℕ) → n ≤ most_fine → sampled n x y z ≡ true → place_of n x y z ≤ largest_place
  pub count : (n mask : ℕ) → n ≤ most_subdivisions → mask ≤ most_mask → sample_count n mask ≤ largest_count
  pub regular_place_lem : (n x y z r : ℕ) → RegularCell n x y z r → regular_place n x y z r ≤ largest_store_place
  pub transition_place_lem : (n side u v r : ℕ) → TransitionCell n side u v r → transition_place n side u v r ≤ largest_store_place
  pub vertices : (s : Star) → subdivisions s ≤ most_subdivisions → s.mask ≤ most_mask → (counts s).vertices ≤ largest_vertices
  pub triangles : (s : Star) → subdivisions s ≤ most_subdivisions → s.mask ≤ most_mask → (counts s).triangles ≤ largest_triangles
  pub index : (s : Star) → subdivisions s ≤ most_subdivisions → s.mask ≤ most_mask → (t : ℕ) → t < (counts s).triangles → CornersBelow s t largest_vertices
  -- a vertex of a transition cell has none
  pub edge : (s : Star) → subdivisions s ≤ most_subdivisions → (i : ℕ) → i < length (regular_mesh s).made → edge_at (regular_mesh s).made i ≤ largest_edge

-- ---- all of it

pub record LargerPromises : Type 0 where
  -- the calls of Former, with the model's verdict, are the model's, of every n
  pub as_now : AnsweredBy judge_subdivisions (λ n. Unit {0})
  -- and with document 01's verdict they answer the same of at most 16
  pub as_before : AnsweredBy former_verdict (λ n. n ≤ former_most)
  pub larger_refused : LargerRefused
  -- at n = 64 with six sides
  pub all_fit_lem : T (all_fit sizes)
  pub reached : Reached
