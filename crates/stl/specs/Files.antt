-- Document 02, [1]: the words in which the laws of files are said: a file with zeros in all that is not looked at, two files with the same
-- corners, the mesh of what was read, a file without a NaN. Definitions only.
use Rattle.std.specs.Prelude.{ℕ, ◌+◌, ◌*◌, ◌≤◌, ◌<◌, ◌≡◌, not, List, T, Float, length, get_or}
use Rattle.std.specs.Float.{nan}
use Rattle.std.specs.Float.Ieee.{is_nan}
use Rattle.model.specs.Words.{little_float_at}
use Rattle.model.specs.Corners.{triangle_count}
use Rattle.stl.specs.Definition.{vertex_count, header_length, normal_length, corners_length, attribute_length, file_length, count_in, corners_from, float_count}

-- where the attribute of a triangle begins
abbrev pub attribute_from : ℕ → ℕ
attribute_from t = corners_from t + corners_length

-- zeros in header, normals and attributes
pub record Plain (bytes : List ℕ) : Type 0 where
  pub header : (i : ℕ) → i < header_length → get_or bytes i 0 ≡ 0
  pub normals : (t i : ℕ) → t < count_in bytes → i < normal_length → get_or bytes (file_length t + i) 0 ≡ 0
  pub attributes : (t i : ℕ) → t < count_in bytes → i < attribute_length → get_or bytes (attribute_from t + i) 0 ≡ 0

-- two files that are as long, of the same count, with the same bytes in each corner
pub record SameCorners (one other : List ℕ) : Type 0 where
  pub long : length one ≡ length other
  pub count : (i : ℕ) → i < 4 → get_or one (header_length + i) 0 ≡ get_or other (header_length + i) 0
  pub corners : (t i : ℕ) → t < count_in one → i < corners_length → get_or one (corners_from t + i) 0 ≡ get_or other (corners_from t + i) 0

-- the mesh of what was read: three vertices a triangle, indices 0, 1, 2, ..
pub record ThreeEach (count : ℕ) (positions vertices : List Float) (triangles : List ℕ) : Type 0 where
  pub enough : 3 * count ≤ vertex_count vertices
  pub as_many : triangle_count triangles ≡ count
  pub index : (i : ℕ) → i < 3 * count → get_or triangles i 0 ≡ i
  pub position : (v axis : ℕ) → v < 3 * count → axis < 3 → get_or vertices (6 * v + axis) nan ≡ get_or positions (3 * v + axis) nan

-- no corner is a NaN
abbrev pub NumbersIn : List ℕ → Type 0
NumbersIn bytes = (t k : ℕ) → t < count_in bytes → k < float_count → T (not (is_nan (little_float_at bytes (corners_from t + 4 * k))))
