-- What the buyer was promised, part by part, for every input; `Kept.kept` is the theorem that all of it holds. It speaks of what the public calls
-- answer and leave in the buffers lent to them: the model's `extract`, `read_record`, `write_record`, `read_point`, `record_point` and the viewer's three answers, to
-- each of which the `ensures` of the call says that the code is equal. The words are set down in Orders (judging), Left (buffers) and closed's Clauses (no hole);
-- what was promised for a request of document 02 stands in a file of its own. Definitions only.
use Rattle.std.specs.Prelude.{ℕ, ◌+◌, ◌*◌, ◌^◌, ◌≤◌, ◌<◌, ◌≡◌, cond, List, [], ◌∷◌, ◌++◌, map, T, ℤ, Float, length, get_or, take, Err, Ok}
use Rattle.std.specs.Float.Ieee as Ieee
use Rattle.std.specs.Float.{nan, binary32}
use Rattle.std.specs.Float.Ieee.{fits}
use Rattle.laws.specs.Steps.{each, laid}
use Rattle.model.specs.declared.Counts.{Counts}
use Rattle.model.specs.declared.Header.{Header}
use Rattle.model.specs.declared.Refusal.{Refusal}
use Rattle.model.specs.declared.Refusal.TheVariants.{NoRoom}
use Rattle.model.specs.Limits.{most_mask}
use Rattle.model.specs.Star.{Star, subdivisions}
use Rattle.model.specs.Mesh.{store_length, regular_mesh, mesh_of}
use Rattle.model.specs.Extraction.{vertex_floats, triangle_indices, read_point}
use Rattle.model.specs.Record.{header_length, header_of, count_of, samples_of, star_of, record_of, read_record, write_record}
use Rattle.model.specs.Blank.{is_blank}
use Rattle.model.specs.Viewer.{subdivisions_answer, blank_answer, sample_answer}
use Rattle.model.specs.Figures.{Figure, figures}
use Rattle.closed.specs.Clauses.{NoHole}
use Rattle.promises.specs.Left.{Laid, Lent, answered, left, counts, regular_part, centre_of, neighbours_of}
use Rattle.promises.specs.Orders.{Judged, Packed, extraction_judges, writing_judges, record_judges, reading_judges, point_judges, sample_judges}
use Rattle.promises.specs.Points.{point_value, point_kind}
use Rattle.promises.specs.Enough.{Enough}
use Rattle.promises.specs.Stl.{StlPromises}
use Rattle.promises.specs.Nesting.{NestingPromises}
use Rattle.promises.specs.PlaceKinds.{PlaceKindPromises}
use Rattle.promises.specs.Blank.{BlankPromises}
use Rattle.promises.specs.Weights.{WeightsPromises}
use Rattle.promises.specs.Finer.{NoGapIsLeft}
use Rattle.promises.specs.Reads.{ReadsPromises}
use Rattle.promises.specs.Volume.{VolumePromises}
use Rattle.promises.specs.Larger.{LargerPromises}
use Rattle.promises.specs.Sheet.{SheetPromises}
use Rattle.promises.specs.Repair.{RepairPromises}
use Rattle.promises.specs.Weld.{WeldPromises}
use Rattle.promises.specs.Layers.{LayerPromises}
use Rattle.promises.specs.Layered.{LayeredPromises}

-- ---- 1. every call is answered

pub record EveryCallIsAnswered : Type 0 where
  -- extraction is refused exactly as the first of 1 to 10 that refuses says, and otherwise accepted with the counts of the definition's mesh
  pub extraction : (s : Star) (lent : Lent)
      → Judged (extraction_judges s lent) (λ r. answered s lent ≡ Err r) (answered s lent ≡ Ok (counts s))
  -- refused, it leaves every lent buffer as it was
  pub extraction_untouched : (s : Star) (lent : Lent) (r : Refusal) → answered s lent ≡ Err r → left s lent ≡ lent
  -- the reader is refused exactly as the first of 11, 12, 1, 2, 3, 13, 7, 14 says, and otherwise answers the record's block
  pub reading : (bytes : List ℕ) (samples : List Float)
      → Judged (reading_judges bytes samples) (λ r. (read_record bytes samples).answer ≡ Err r)
      ((read_record bytes samples).answer ≡ Ok (header_of bytes))
  -- refused, it leaves the lent samples as they were
  pub reading_untouched : (bytes : List ℕ) (samples : List Float) (r : Refusal) → (read_record bytes samples).answer ≡ Err r
      → (read_record bytes samples).samples ≡ samples
  -- the writer is refused exactly as the first of 1 to 7 and 14 says, and otherwise answers the record's length
  pub writing : (h : Header) (centre neighbours : List Float) (bytes : List ℕ)
      → Judged (writing_judges h centre neighbours bytes) (λ r. (write_record h centre neighbours bytes).answer ≡ Err r)
      ((write_record h centre neighbours bytes).answer ≡ Ok (header_length + 4 * length (centre ++ neighbours)))
  -- refused, it leaves the lent bytes as they were
  pub writing_untouched : (h : Header) (centre neighbours : List Float) (bytes : List ℕ) (r : Refusal)
      → (write_record h centre neighbours bytes).answer ≡ Err r → (write_record h centre neighbours bytes).bytes ≡ bytes
  -- a point read is refused exactly as the first of 1, 4, 15 says, and otherwise answers the point's value and where it is stored
  pub point : (n : ℕ) (samples : List Float) (x y z : ℤ)
      → Judged (point_judges n samples x y z) (λ r. read_point n samples x y z ≡ Err r)
      (read_point n samples x y z ≡ Ok (point_value n samples x y z, point_kind n x y z))
  -- the viewer's calls answer n, whether the block is blank, and a point's bits; or 100 and 2^32 plus the number of the first refusal
  pub viewer_subdivisions : (bytes : List ℕ) → Packed (record_judges bytes) 100 (header_of bytes).block.subdivisions (subdivisions_answer bytes)
  pub viewer_blank : (bytes : List ℕ) → Packed (record_judges bytes) 100 (cond (is_blank (star_of bytes)) 1 0) (blank_answer bytes)
  pub viewer_sample : (bytes : List ℕ) (x y z : ℤ)
      → Packed (sample_judges bytes x y z) (2 ^ 32)
      (Ieee.to_bits binary32 (point_value (header_of bytes).block.subdivisions (samples_of bytes) x y z)) (sample_answer bytes x y z)

-- ---- 2. equal to the definition

-- the first places of the buffers hold the definition's mesh, six numbers a vertex and three a triangle, and all beyond is as it was
pub record EqualMesh (s : Star) (lent : Lent) (c : Counts) : Type 0 where
  pub counted : c ≡ counts s
  pub vertices : Laid (6 * c.vertices) (each vertex_floats (mesh_of s).made) lent.vertices (left s lent).vertices
  pub triangles : Laid (3 * c.triangles) (each triangle_indices (mesh_of s).triangles) lent.triangles (left s lent).triangles
  pub store : Laid (store_length (subdivisions s)) (mesh_of s).store lent.store (left s lent).store

pub record EqualToTheDefinition : Type 0 where
  -- accepted, extraction answers and leaves the definition's mesh and nothing else
  pub mesh : (s : Star) (lent : Lent) (c : Counts) → answered s lent ≡ Ok c → EqualMesh s lent c
  -- the counts that refusal 10 asks for are those of the definition's mesh
  pub wanted : (s : Star) (lent : Lent) (c : Counts) → answered s lent ≡ Err (NoRoom c) → c ≡ counts s
  -- accepted, the reader leaves the record's samples in the first places, and the writer the block's record
  pub samples : (bytes : List ℕ) (samples : List Float) (h : Header) → (read_record bytes samples).answer ≡ Ok h
      → Laid (count_of bytes) (samples_of bytes) samples (read_record bytes samples).samples
  pub bytes : (h : Header) (centre neighbours : List Float) (bytes : List ℕ) (k : ℕ)
      → (write_record h centre neighbours bytes).answer ≡ Ok k
      → Laid k (record_of h (centre ++ neighbours)) bytes (write_record h centre neighbours bytes).bytes

-- ---- 3. no hole: regular cells, and with Finer the named sides; not the outer faces where no neighbour is finer

pub record NoHoleIsLeft (s : Star) (lent : Lent) (c : Counts) : Type 0 where
  -- of what the regular cells leave in the buffers: a grid edge carries a vertex exactly if it is crossed; each triangle corner names a vertex on an edge
  -- of its own cell; between two grid edges that do not both lie in one outer face as many sides run one way as the other; and the six numbers of a
  -- vertex are those between the two ends of its grid edge
  pub no_hole : NoHole s (regular_part s (left s lent))
  -- it is the first part of the mesh, and the whole of it where no neighbour is finer
  pub vertices_in : length (regular_mesh s).made ≤ c.vertices
  pub triangles_in : length (regular_mesh s).triangles ≤ c.triangles
  pub all_regular : s.mask ≡ 0 → mesh_of s ≡ regular_mesh s

-- ---- 4. records round trip

-- what any lent bytes and floats are: below 256, and values of f32
abbrev pub AreBytes : List ℕ → Type 0
AreBytes bytes = (k : ℕ) → get_or bytes k 0 < 256

abbrev pub AreFloats : List Float → Type 0
AreFloats floats = (k : ℕ) → T (fits binary32 (get_or floats k nan))

abbrev pub header_floats : Header → List Float
header_floats h = h.threshold ∷ h.block.base.x ∷ h.block.base.y ∷ h.block.base.z ∷ h.block.size ∷ []

pub record RecordsRoundTrip : Type 0 where
  -- reading then writing gives the same bytes
  pub read_write : (bytes : List ℕ) (samples : List Float) (out : List ℕ) (h : Header)
      → AreBytes bytes → (read_record bytes samples).answer ≡ Ok h → length bytes ≤ length out
      → let read = (read_record bytes samples).samples in
      write_record h (centre_of h read) (neighbours_of h read) out ≡ record { answer = Ok (length bytes); bytes = laid bytes out }
  -- writing then reading gives the same block
  pub write_read : (h : Header) (centre neighbours : List Float) (out : List ℕ) (samples : List Float) (k : ℕ)
      → AreFloats (header_floats h) → AreFloats (centre ++ neighbours)
      → (write_record h centre neighbours out).answer ≡ Ok k → length (centre ++ neighbours) ≤ length samples
      → read_record (take k (write_record h centre neighbours out).bytes) samples
      ≡ record { answer = Ok h; samples = laid (centre ++ neighbours) samples }

-- ---- all, with 5, room that is enough, and 6: the starred figures of document 01, and the requests of document 02

pub record Promises : Type 0 where
  pub every_call : EveryCallIsAnswered
  pub definition : EqualToTheDefinition
  -- accepted, the regular part of what extraction leaves has no hole
  pub no_hole : (s : Star) (lent : Lent) (c : Counts) → answered s lent ≡ Ok c → NoHoleIsLeft s lent c
  -- and there is no gap at its named sides
  pub no_gap : (s : Star) (lent : Lent) (c : Counts) → answered s lent ≡ Ok c → NoGapIsLeft s lent c
  pub round_trips : RecordsRoundTrip
  -- 5: room that is enough, whatever the samples are
  pub room : (s : Star) → s.mask ≤ most_mask → Enough s
  pub stl : StlPromises
  pub nesting : NestingPromises
  pub place_kinds : PlaceKindPromises
  pub blank : BlankPromises
  pub weights : WeightsPromises
  pub reads : ReadsPromises
  pub volume : VolumePromises
  pub larger : LargerPromises
  pub sheet : SheetPromises
  pub repair : RepairPromises
  pub weld : WeldPromises
  pub layers : LayerPromises
  pub layered : LayeredPromises
  -- what the definitions work out is what document 01 states
  pub starred : map (λ (f : Figure). f.worked) figures ≡ map (λ (f : Figure). f.stated) figures
