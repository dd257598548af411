-- Document 02, [1]: binary STL. The bytes of a mesh's file, what writing and reading refuse and when, and what they leave. All numbers of
-- a file are little-endian; a NaN is written as 0x7fc00000. Definitions only.
use Rattle.std.specs.Prelude.{ℕ, ◌+◌, ◌*◌, ◌/◌, List, ◌++◌, eqb, leb, Float, length, get_or, replicate, Err, Ok}
use Rattle.std.specs.Float.{nan}
use Rattle.laws.specs.Steps.{listed, each, laid}
use Rattle.laws.specs.Counting.{gather}
use Rattle.model.specs.declared.Refusal.TheVariants.{StlLength}
use Rattle.model.specs.Answers.{Verdict}
use Rattle.model.specs.Words.{little_at, little_bytes, little_float_at, little_float_bytes}
use Rattle.model.specs.Refusals.{unless, or_else}
use Rattle.model.specs.Judging.{judge_buffer}
use Rattle.model.specs.Corners.{triangle_count, corner_of, judge_named}
use Rattle.stl.specs.Answers.{StlWritten}
use Rattle.stl.specs.Answers.{StlRead}

-- ---- the lists of a mesh: six f32 a vertex, the first three its position; three indices a triangle (model's Corners). A last part vertex
-- or triangle is not read.

abbrev pub vertex_count : List Float → ℕ
vertex_count vertices = length vertices / 6

abbrev pub position_of : List Float → ℕ → List Float
position_of vertices v = listed (λ axis. get_or vertices (6 * v + axis) nan) 3

-- the nine f32 of a triangle
unfoldable pub corners_of : List Float → List ℕ → ℕ → List Float
corners_of vertices triangles t = gather (λ corner. position_of vertices (corner_of triangles t corner)) 3

-- ---- the file: 80 header bytes, the count of triangles, then for each triangle its normal, its corners and its attribute

abbrev pub header_length : ℕ
header_length = 80

-- the header and the count
abbrev pub start_length : ℕ
start_length = 84

abbrev pub normal_length : ℕ
normal_length = 12

abbrev pub corner_length : ℕ
corner_length = 12

abbrev pub corners_length : ℕ
corners_length = 3 * corner_length

abbrev pub attribute_length : ℕ
attribute_length = 2

-- normal, corners and attribute
abbrev pub triangle_length : ℕ
triangle_length = 50

unfoldable pub zeros : ℕ → List ℕ
zeros n = replicate n 0

unfoldable pub triangle_bytes : List Float → List ℕ
triangle_bytes corners = zeros normal_length ++ each little_float_bytes corners ++ zeros attribute_length

unfoldable pub file_of : List Float → List ℕ → List ℕ
file_of vertices triangles =
    let count = triangle_count triangles in
    zeros header_length ++ little_bytes count ++ gather (λ t. triangle_bytes (corners_of vertices triangles t)) count

abbrev pub file_length : ℕ → ℕ
file_length count = start_length + triangle_length * count

-- ---- writing

-- 16: the count has four bytes
abbrev pub most_triangles : ℕ
most_triangles = 4294967295

abbrev pub judge_many : ℕ → Verdict
judge_many count = unless (leb count most_triangles) (StlLength 0)

-- 16, 17, 14
unfoldable pub judge_writing : ℕ → List ℕ → ℕ → Verdict
judge_writing held triangles room =
    or_else (judge_many (triangle_count triangles))
    (or_else (judge_named held triangles)
    (judge_buffer (file_length (triangle_count triangles)) room))

pub record WriteOutcome : Type 0 where
  pub answer : StlWritten
  pub bytes : List ℕ

abbrev pub write_answer : List Float → List ℕ → List ℕ → Verdict → WriteOutcome
write_answer vertices triangles bytes (Ok _) =
    record {
      answer = Ok (file_length (triangle_count triangles));
      bytes = laid (file_of vertices triangles) bytes;
    }
write_answer vertices triangles bytes (Err r) = record { answer = Err r; bytes = bytes }

unfoldable pub write_stl : List Float → List ℕ → List ℕ → WriteOutcome
write_stl vertices triangles bytes =
    write_answer vertices triangles bytes (judge_writing (vertex_count vertices) triangles (length bytes))

-- ---- reading: header, normals and attributes are not looked at

abbrev pub count_in : List ℕ → ℕ
count_in bytes = little_at bytes header_length

-- where the corners of a triangle begin
abbrev pub corners_from : ℕ → ℕ
corners_from t = file_length t + normal_length

-- the f32 of a triangle's corners
abbrev pub float_count : ℕ
float_count = 9

abbrev pub corners_in : List ℕ → ℕ → List Float
corners_in bytes t = listed (λ k. little_float_at bytes (corners_from t + 4 * k)) float_count

unfoldable pub positions_in : List ℕ → List Float
positions_in bytes = gather (corners_in bytes) (count_in bytes)

-- 16: shorter than a file of no triangle, or not as long as its count says
abbrev pub judge_file : List ℕ → Verdict
judge_file bytes =
    or_else (unless (leb start_length (length bytes)) (StlLength start_length))
    (unless (eqb (length bytes) (file_length (count_in bytes))) (StlLength (file_length (count_in bytes))))

-- 16, 14
unfoldable pub judge_reading : List ℕ → ℕ → Verdict
judge_reading bytes room = or_else (judge_file bytes) (judge_buffer (float_count * count_in bytes) room)

pub record ReadOutcome : Type 0 where
  pub answer : StlRead
  pub positions : List Float

abbrev pub read_answer : List ℕ → List Float → Verdict → ReadOutcome
read_answer bytes positions (Ok _) =
    record { answer = Ok (count_in bytes); positions = laid (positions_in bytes) positions }
read_answer bytes positions (Err r) = record { answer = Err r; positions = positions }

unfoldable pub read_stl : List ℕ → List Float → ReadOutcome
read_stl bytes positions = read_answer bytes positions (judge_reading bytes (length positions))
