-- The words that the laws of crossing edges, of a run and of its total are said in. Definitions only.
use Rattle.std.specs.Prelude.{◌≡◌, Bool, false, List, [], map, ℕ, ◌≤◌, length, get_or, take, Err}
use Rattle.laws.specs.Steps.{total, each}
use Rattle.laws.specs.Counting.{has}
use Rattle.model.specs.declared.Refusal.TheVariants.{RecordLength}
use Rattle.model.specs.Star.{Star}
use Rattle.model.specs.Mesh.{Made, regular_mesh}
use Rattle.sheet.specs.declared.Figures.{Figures}
use Rattle.sheet.specs.Definition.{line_of, record_length, Row, is_whole, adds}

-- the numbers of the grid edges that vertices stand on
abbrev pub edges_of : List Made → List ℕ
edges_of made = map (λ (v : Made). v.edge) made

-- whether a number is that of a regular vertex's grid edge: 3 times its lower end's place, plus 0, 1, 2 for x, y, z
abbrev pub carries_vertex : Star → ℕ → Bool
carries_vertex s g = has g (edges_of (regular_mesh s).made)

-- the bytes of rows, end to end
abbrev pub bytes_of : List Row → List ℕ
bytes_of = each (λ (r : Row). r.bytes)

abbrev pub no_row : Row
no_row = record { bytes = []; line = Err RecordLength }

abbrev pub row_at : List Row → ℕ → Row
row_at rows k = get_or rows k no_row

-- where row k begins: after the bytes of those before it
abbrev pub begin_of : List Row → ℕ → ℕ
begin_of rows k = length (bytes_of (take k rows))

-- a row is of a whole record: as many bytes as its length field tells, and its line is theirs
pub record OfRecord (row : Row) : Type 0 where
  pub told : length row.bytes ≡ record_length row.bytes
  pub line_is : row.line ≡ line_of row.bytes

-- it is of all that is left, which begins with no whole record
pub record OfCutEnd (rest : List ℕ) (row : Row) : Type 0 where
  pub all : row.bytes ≡ rest
  pub cut : is_whole rest ≡ false
  pub line_is : row.line ≡ Err RecordLength

-- each figure is at most so much
pub record AtMost (most : ℕ) (f : Figures) : Type 0 where
  pub inside : f.inside ≤ most
  pub x : f.edges.x ≤ most
  pub y : f.edges.y ≤ most
  pub z : f.edges.z ≤ most
  pub vertices : f.vertices ≤ most
  pub triangles : f.triangles ≤ most

-- each figure is the sum of those of the lines, to which a refused one adds nothing
abbrev pub column_sum : List Row → (Figures → ℕ) → ℕ
column_sum rows column = total (λ k. column (adds (row_at rows k).line)) (length rows)

pub record AddedUp (rows : List Row) (f : Figures) : Type 0 where
  pub inside : f.inside ≡ column_sum rows (λ g. g.inside)
  pub x : f.edges.x ≡ column_sum rows (λ g. g.edges.x)
  pub y : f.edges.y ≡ column_sum rows (λ g. g.edges.y)
  pub z : f.edges.z ≡ column_sum rows (λ g. g.edges.z)
  pub vertices : f.vertices ≡ column_sum rows (λ g. g.vertices)
  pub triangles : f.triangles ≡ column_sum rows (λ g. g.triangles)
