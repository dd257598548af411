-- What the buyer was promised of STL (document 02, [1]), for every input: what the two calls answer and leave, what a file holds, that each way gives
-- back what the other took, and that what extraction leaves can be written. It speaks of stl's `write_stl` and `read_stl`, to which the `ensures` of the
-- calls say that the code is equal, in the words of stl's Definition and Files. Definitions only.
use Rattle.std.specs.Prelude.{ℕ, ◌+◌, ◌*◌, ◌≤◌, ◌<◌, ◌≡◌, List, [], ◌∷◌, Float, length, get_or, take, Err, Ok}
use Rattle.std.specs.Float.{nan}
use Rattle.laws.specs.Steps.{laid}
use Rattle.model.specs.declared.Counts.{Counts}
use Rattle.model.specs.declared.Refusal.{Refusal}
use Rattle.model.specs.Star.{Star}
use Rattle.model.specs.Judging.{judge_buffer}
use Rattle.words.specs.Orders.{Bytes}
use Rattle.words.specs.Floats.{Fit}
use Rattle.model.specs.Corners.{triangle_count, corner_of, judge_named}
use Rattle.stl.specs.Definition.{vertex_count, file_of, file_length, judge_many, write_stl, count_in, float_count, positions_in, judge_file, read_stl}
use Rattle.stl.specs.Files.{Plain, SameCorners, ThreeEach, NumbersIn}
use Rattle.promises.specs.Left.{Laid, Lent, answered, left}
use Rattle.promises.specs.Orders.{Judge, judge, Judged}

-- ---- every call is answered: 16, 17, 14 of writing, and 16, 14 of reading

module _ (vertices : List Float) (triangles bytes : List ℕ) where
  abbrev pub stl_writing_judges : List Judge
  stl_writing_judges =
      judge 16 (judge_many (triangle_count triangles)) ∷
      judge 17 (judge_named (vertex_count vertices) triangles) ∷
      judge 14 (judge_buffer (file_length (triangle_count triangles)) (length bytes)) ∷
      []

module _ (bytes : List ℕ) (positions : List Float) where
  abbrev pub stl_reading_judges : List Judge
  stl_reading_judges = judge 16 (judge_file bytes) ∷ judge 14 (judge_buffer (float_count * count_in bytes) (length positions)) ∷ []

pub record StlIsAnswered : Type 0 where
  -- writing is refused exactly as the first of 16, 17, 14 says, and otherwise answers the file's length
  pub writing : (vertices : List Float) (triangles bytes : List ℕ)
      → Judged (stl_writing_judges vertices triangles bytes) (λ r. (write_stl vertices triangles bytes).answer ≡ Err r)
      ((write_stl vertices triangles bytes).answer ≡ Ok (file_length (triangle_count triangles)))
  -- refused, it leaves the lent bytes as they were; accepted, the file in the first places
  pub writing_untouched : (vertices : List Float) (triangles bytes : List ℕ) (r : Refusal)
      → (write_stl vertices triangles bytes).answer ≡ Err r → (write_stl vertices triangles bytes).bytes ≡ bytes
  pub file : (vertices : List Float) (triangles bytes : List ℕ) (k : ℕ) → (write_stl vertices triangles bytes).answer ≡ Ok k
      → Laid k (file_of vertices triangles) bytes (write_stl vertices triangles bytes).bytes
  -- reading is refused exactly as the first of 16, 14 says, and otherwise answers the file's count of triangles
  pub reading : (bytes : List ℕ) (positions : List Float)
      → Judged (stl_reading_judges bytes positions) (λ r. (read_stl bytes positions).answer ≡ Err r)
      ((read_stl bytes positions).answer ≡ Ok (count_in bytes))
  -- refused, it leaves the lent positions as they were; accepted, those of the corners in the first places
  pub reading_untouched : (bytes : List ℕ) (positions : List Float) (r : Refusal) → (read_stl bytes positions).answer ≡ Err r
      → (read_stl bytes positions).positions ≡ positions
  pub positions : (bytes : List ℕ) (positions : List Float) (count : ℕ) → (read_stl bytes positions).answer ≡ Ok count
      → Laid (float_count * count) (positions_in bytes) positions (read_stl bytes positions).positions

-- ---- files

-- what was written, cut to the length that was answered
abbrev pub written : List Float → List ℕ → List ℕ → ℕ → List ℕ
written vertices triangles bytes k = take k (write_stl vertices triangles bytes).bytes

pub record StlFiles : Type 0 where
  -- header, normals and attributes of a file that was written are zero, and its count is that of the triangles
  pub plain : (vertices : List Float) (triangles bytes : List ℕ) (k : ℕ) → (write_stl vertices triangles bytes).answer ≡ Ok k
      → Plain (written vertices triangles bytes k)
  pub counted : (vertices : List Float) (triangles bytes : List ℕ) (k : ℕ) → (write_stl vertices triangles bytes).answer ≡ Ok k
      → count_in (written vertices triangles bytes k) ≡ triangle_count triangles
  -- reading what was written gives each corner the position of the vertex that its triangle names
  pub corners : (vertices : List Float) (triangles bytes : List ℕ) (k : ℕ) (positions : List Float) → Fit vertices
      → (write_stl vertices triangles bytes).answer ≡ Ok k → float_count * triangle_count triangles ≤ length positions
      → (t corner axis : ℕ) → t < triangle_count triangles → corner < 3 → axis < 3
      → get_or (read_stl (written vertices triangles bytes k) positions).positions (float_count * t + (3 * corner + axis)) nan
      ≡ get_or vertices (6 * corner_of triangles t corner + axis) nan
  -- and is answered with the count
  pub read_back : (vertices : List Float) (triangles bytes : List ℕ) (k : ℕ) (positions : List Float) → Fit vertices
      → (write_stl vertices triangles bytes).answer ≡ Ok k → float_count * triangle_count triangles ≤ length positions
      → (read_stl (written vertices triangles bytes k) positions).answer ≡ Ok (triangle_count triangles)
  -- header, normals and attributes are not looked at: files that differ in nothing else read the same
  pub dropped : (one other : List ℕ) → SameCorners one other → (positions : List Float) → read_stl one positions ≡ read_stl other positions
  -- writing what was read gives the file back, where header, normals and attributes are zero and no corner is a NaN
  pub written_back : (bytes : List ℕ) (positions vertices : List Float) (triangles out : List ℕ) (count : ℕ) → Bytes bytes → Plain bytes → NumbersIn bytes
      → (read_stl bytes positions).answer ≡ Ok count → ThreeEach count (read_stl bytes positions).positions vertices triangles
      → length bytes ≤ length out → write_stl vertices triangles out ≡ record { answer = Ok (length bytes); bytes = laid bytes out }

-- ---- what extraction leaves can be written

-- a mesh that was left in the buffers, cut to its counts
abbrev pub vertices_left : Counts → Lent → List Float
vertices_left c b = take (6 * c.vertices) b.vertices

abbrev pub triangles_left : Counts → Lent → List ℕ
triangles_left c b = take (3 * c.triangles) b.triangles

pub record WritableAsStl (vertices : List Float) (triangles : List ℕ) (count : ℕ) : Type 0 where
  -- the triangles are not too many, which 16 would say, and each names a vertex with each corner, or 17 would say which does not
  pub few : judge_many (triangle_count triangles) ≡ Ok tt
  pub named : judge_named (vertex_count vertices) triangles ≡ Ok tt
  -- so the writer is refused exactly as 14 says, and otherwise answers the file's length
  pub written : (bytes : List ℕ)
      → Judged (judge 14 (judge_buffer (file_length count) (length bytes)) ∷ []) (λ r. (write_stl vertices triangles bytes).answer ≡ Err r)
      ((write_stl vertices triangles bytes).answer ≡ Ok (file_length count))

-- ---- all of it

pub record StlPromises : Type 0 where
  pub answered_always : StlIsAnswered
  pub files : StlFiles
  -- accepted, extraction leaves a mesh that the writer takes
  pub writable : (s : Star) (lent : Lent) (c : Counts) → answered s lent ≡ Ok c
      → WritableAsStl (vertices_left c (left s lent)) (triangles_left c (left s lent)) c.triangles
