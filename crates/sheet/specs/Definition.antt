-- Document 02, [2]: totals over a day's blocks. A block's figures from its samples alone, with no mesh and no index store; the line of a
-- record; the lines of a run, which has its records end to end by their length fields; and their total. Definitions only.
use Rattle.std.specs.Prelude.{ℕ, zero, suc, ◌+◌, Bool, cond, not, ◌&&◌, ◌||◌, List, [], ◌∷◌, eqb, leb, ltb, length, take, drop, Err, None, Ok, Some}
use Rattle.std.specs.Bool.{beq}
use Rattle.tables.specs.Codes.{is_new}
use Rattle.tables.specs.Cases.{regular_code, regular_vertices, transition_code, transition_vertices}
use Rattle.laws.specs.Steps.{total}
use Rattle.laws.specs.Counting.{one}
use Rattle.model.specs.declared.Xyz.{Xyz}
use Rattle.model.specs.declared.Refusal.TheVariants.{RecordLength}
use Rattle.model.specs.Answers.{Verdict}
use Rattle.model.specs.Samples.{sample_of}
use Rattle.model.specs.Rotations.{xyz}
use Rattle.model.specs.Formulas.{inside}
use Rattle.model.specs.Refusals.{or_else}
use Rattle.model.specs.Star.{Star, subdivisions}
use Rattle.model.specs.Points.{regular_case, transition_case}
use Rattle.model.specs.Mesh.{regular_leaves, transition_leaves}
use Rattle.model.specs.OverCells.{over_cells, triangles_at, triangles_on_side}
use Rattle.model.specs.Judging.{judge_faces}
use Rattle.model.specs.Words.{word_at}
use Rattle.model.specs.Record.{star_of, judge_record}
use Rattle.sheet.specs.declared.Edges.{Edges}
use Rattle.sheet.specs.declared.Figures.{Figures}
use Rattle.sheet.specs.Answers.{Line}
use Rattle.sheet.specs.Answers.{SheetLine}
use Rattle.sheet.specs.Answers.{SheetTotal}

-- ---- samples and grid edges

-- f at each (x, y, z) with x < a, y < b and z < c, added up
abbrev pub box : (ℕ → ℕ → ℕ → ℕ) → ℕ → ℕ → ℕ → ℕ
box f a b c = total (λ x. total (λ y. total (f x y) c) b) a

module _ (s : Star) where
  abbrev n : ℕ
  n = subdivisions s

  -- the in-block point is inside
  abbrev pub is_inside : Xyz → Bool
  is_inside p = inside s.threshold (sample_of n s.centre p)

  -- inside samples among the (n+1)^3 in-block points
  abbrev pub inside_at : ℕ → ℕ → ℕ → ℕ
  inside_at x y z = one (is_inside (xyz x y z))

  unfoldable pub inside_samples : ℕ
  inside_samples = box inside_at (n + 1) (n + 1) (n + 1)

  -- of the two samples of a grid edge one is inside and the other is not
  abbrev pub crosses : Xyz → Xyz → Bool
  crosses p q = not (beq (is_inside p) (is_inside q))

  -- crossing grid edges along x, along y and along z, each from its lower end
  abbrev pub crosses_x : ℕ → ℕ → ℕ → ℕ
  crosses_x x y z = one (crosses (xyz x y z) (xyz (x + 1) y z))

  abbrev pub crosses_y : ℕ → ℕ → ℕ → ℕ
  crosses_y x y z = one (crosses (xyz x y z) (xyz x (y + 1) z))

  abbrev pub crosses_z : ℕ → ℕ → ℕ → ℕ
  crosses_z x y z = one (crosses (xyz x y z) (xyz x y (z + 1)))

  unfoldable pub x_edges : ℕ
  x_edges = box crosses_x n (n + 1) (n + 1)

  unfoldable pub y_edges : ℕ
  y_edges = box crosses_y (n + 1) n (n + 1)

  unfoldable pub z_edges : ℕ
  z_edges = box crosses_z (n + 1) (n + 1) n

-- ---- vertices and triangles: what the case number and the place of each cell say

-- a regular cell makes a vertex for each of its case's codes that is new or whose step leaves the block
abbrev pub regular_makes : ℕ → ℕ → ℕ → ℕ → Bool
regular_makes x y z code = eqb (is_new code) 1 || regular_leaves x y z code

unfoldable pub regular_made : ℕ → ℕ → ℕ → ℕ → ℕ
regular_made x y z case = total (λ i. one (regular_makes x y z (regular_code case i))) (regular_vertices case)

-- a transition cell likewise, where a step leaves the face
abbrev pub transition_makes : ℕ → ℕ → ℕ → Bool
transition_makes u v code = eqb (is_new code) 1 || transition_leaves u v code

unfoldable pub transition_made : ℕ → ℕ → ℕ → ℕ
transition_made u v case = total (λ i. one (transition_makes u v (transition_code case i))) (transition_vertices case)

module _ (s : Star) where
  abbrev pub made_at : ℕ → ℕ → ℕ → ℕ
  made_at x y z = regular_made x y z (regular_case s x y z)

  abbrev pub made_on_side : ℕ → ℕ → ℕ → ℕ
  made_on_side side u v = transition_made u v (transition_case s side u v)

  unfoldable pub vertex_figure : ℕ
  vertex_figure = over_cells s made_at made_on_side

  unfoldable pub triangle_figure : ℕ
  triangle_figure = over_cells s (triangles_at s) (triangles_on_side s)

  unfoldable pub figures_of : Figures
  figures_of =
      record {
        inside = inside_samples s;
        edges = record { x = x_edges s; y = y_edges s; z = z_edges s };
        vertices = vertex_figure;
        triangles = triangle_figure;
      }

-- ---- the line of a record

-- the reader's 11, 12, 1, 2, 3, 13, 7, then 8; no buffer is lent, so 9, 10 and 14 do not arise
unfoldable pub judge_line : List ℕ → Verdict
judge_line bytes = or_else (judge_record bytes) (judge_faces (star_of bytes))

abbrev pub line_by : Verdict → Figures → Line
line_by (Ok _) figures = Ok figures
line_by (Err r) figures = Err r

unfoldable pub line_of : List ℕ → Line
line_of bytes = line_by (judge_line bytes) (figures_of (star_of bytes))

-- ---- the lines of a run

-- a record's length field tells how many bytes follow it
abbrev pub record_length : List ℕ → ℕ
record_length bytes = 4 + word_at bytes 0

-- a line, and the bytes of the run that it is of
pub record Row : Type 0 where
  pub bytes : List ℕ
  pub line : Line

-- the bytes that are left begin with a whole record; otherwise it is cut
abbrev pub is_whole : List ℕ → Bool
is_whole rest = leb 4 (length rest) && leb (record_length rest) (length rest)

-- of the first record of what is left: a cut one is refused with 11, and has all bytes that are left
unfoldable pub row_of : List ℕ → Row
row_of rest =
    cond (is_whole rest)
    (record { bytes = take (record_length rest) rest; line = line_of (take (record_length rest) rest) })
    (record { bytes = rest; line = Err RecordLength })

-- at most k lines of what is left, each with at least one byte
abbrev pub rows_from : ℕ → List ℕ → List Row
rows_from zero rest = []
rows_from (suc k) [] = []
rows_from (suc k) (b ∷ rest) =
    row_of (b ∷ rest) ∷ rows_from k (drop (length (row_of (b ∷ rest)).bytes) (b ∷ rest))

unfoldable pub rows_of : List ℕ → List Row
rows_of run = rows_from (length run) run

-- ---- the total

abbrev pub none : Figures
none = record { inside = 0; edges = record { x = 0; y = 0; z = 0 }; vertices = 0; triangles = 0 }

abbrev pub plus_edges : Edges → Edges → Edges
plus_edges a b = record { x = a.x + b.x; y = a.y + b.y; z = a.z + b.z }

abbrev pub plus : Figures → Figures → Figures
plus a b =
    record {
      inside = a.inside + b.inside;
      edges = plus_edges a.edges b.edges;
      vertices = a.vertices + b.vertices;
      triangles = a.triangles + b.triangles;
    }

-- a refused record adds nothing
abbrev pub adds : Line → Figures
adds (Ok figures) = figures
adds (Err r) = none

abbrev pub total_of : List Row → Figures
total_of [] = none
total_of (row ∷ rows) = plus (adds row.line) (total_of rows)

-- ---- what the calls answer

-- a longer run is 11 with no line
abbrev pub most_run : ℕ
most_run = 1073741824

abbrev pub line_answer : Row → ℕ → SheetLine
line_answer row at = Ok (Some (record { line = row.line; next = at + length row.bytes }))

-- the line of the record that begins at a place
unfoldable pub sheet_line : List ℕ → ℕ → SheetLine
sheet_line run at =
    cond (leb (length run) most_run)
    (cond (ltb at (length run)) (line_answer (row_of (drop at run)) at) (Ok None))
    (Err RecordLength)

unfoldable pub sheet_total : List ℕ → SheetTotal
sheet_total run = cond (leb (length run) most_run) (Ok (total_of (rows_of run))) (Err RecordLength)
