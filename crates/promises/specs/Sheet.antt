-- What the buyer was promised of the sheet (document 02, [2]), for every run of records: each record has its line, refused as document 02 says or with its
-- figures; the vertex and triangle figures are what extraction writes; the crossing edges are those that carry a regular vertex; the lines cover the run;
-- and the total adds them up in 64 bits. It speaks of what the two calls answer, `sheet_line` and `sheet_total`, to which the `ensures` of the calls say
-- that the code is equal, and of the rows of a run, `rows_of`; the words are set down in sheet's Rows. Definitions only.
use Rattle.std.specs.Prelude.{ℕ, suc, ◌+◌, ◌-◌, ◌*◌, ◌/◌, ◌^◌, ◌≤◌, ◌<◌, ◌≡◌, ◌⊎◌, List, [], ◌∷◌, ◌++◌, Float, length, drop, Err, None, Ok, Some}
use Rattle.laws.specs.Counting.{how_many}
use Rattle.model.specs.declared.Counts.{Counts}
use Rattle.model.specs.declared.Header.{Header}
use Rattle.model.specs.declared.Refusal.{Refusal}
use Rattle.model.specs.declared.Refusal.TheVariants.{RecordLength}
use Rattle.model.specs.Star.{Star, star}
use Rattle.model.specs.Judging.{judge_faces}
use Rattle.model.specs.Mesh.{store_length, regular_mesh}
use Rattle.model.specs.Record.{header_of, star_of, read_record}
use Rattle.closed.specs.Clauses.{edges_most, edge_at}
use Rattle.sheet.specs.declared.Figures.{Figures}
use Rattle.sheet.specs.declared.LineAt.{LineAt}
use Rattle.sheet.specs.Definition.{figures_of, line_of, rows_of, none, adds, total_of, most_run, sheet_line, sheet_total}
use Rattle.sheet.specs.Rows.{carries_vertex, bytes_of, row_at, begin_of, OfRecord, OfCutEnd, AtMost, AddedUp}
use Rattle.promises.specs.Left.{Lent, answered, centre_of, neighbours_of}
use Rattle.promises.specs.Orders.{Judge, judge, Judged, record_judges}

-- the reader's 11, 12, 1, 2, 3, 13, 7, then 8
abbrev pub line_judges : List ℕ → List Judge
line_judges bytes = record_judges bytes ++ judge 8 (judge_faces (star_of bytes)) ∷ []

-- the vertices and triangles among figures
abbrev pub counts_of : Figures → Counts
counts_of f = record { vertices = f.vertices; triangles = f.triangles }

-- a record adds at most so much to a figure for each of its bytes
abbrev pub most_of_byte : ℕ
most_of_byte = 3

pub record SheetPromises : Type 0 where
  -- a record is refused exactly as the first of 11, 12, 1, 2, 3, 13, 7, 8 says, and otherwise has the figures of its block
  pub judged : (bytes : List ℕ)
      → Judged (line_judges bytes) (λ r. line_of bytes ≡ Err r) (line_of bytes ≡ Ok (figures_of (star_of bytes)))
  -- of a record with figures extraction writes just so many vertices and triangles, wherever they and the index store have room
  pub as_extraction : (bytes : List ℕ) (f : Figures) (lent : Lent) → line_of bytes ≡ Ok f
      → store_length (header_of bytes).block.subdivisions ≤ length lent.store → f.vertices ≤ length lent.vertices / 6
      → f.triangles ≤ length lent.triangles / 3 → answered (star_of bytes) lent ≡ Ok (counts_of f)
  -- and a record that is read and then meshed has the figures that extraction answers
  pub by_calls : (bytes : List ℕ) (samples : List Float) (h : Header) (lent : Lent) (c : Counts) → (read_record bytes samples).answer ≡ Ok h
      → let read = (read_record bytes samples).samples in
      answered (star h (centre_of h read) (neighbours_of h read)) lent ≡ Ok c
      → (line_of bytes ≡ Ok (figures_of (star_of bytes))) × (counts_of (figures_of (star_of bytes)) ≡ c)
  -- the crossing edges in all are as many as the distinct grid edges that carry a regular vertex, and each of those is among the numbers counted
  pub crossing_edges : (s : Star) → let edges = (figures_of s).edges in how_many (carries_vertex s) (edges_most s) ≡ edges.x + edges.y + edges.z
  pub none_beyond : (s : Star) (i : ℕ) → i < length (regular_mesh s).made → edge_at (regular_mesh s).made i < edges_most s
  -- the bytes of the rows, end to end, are the run, and each row is of a whole record, but for the last, which may be of the cut end
  pub covered : (run : List ℕ) → bytes_of (rows_of run) ≡ run
  pub each_row : (run : List ℕ) (k : ℕ) → k < length (rows_of run)
      → OfRecord (row_at (rows_of run) k) ⊎ ((suc k ≡ length (rows_of run)) × OfCutEnd (drop (begin_of (rows_of run) k) run) (row_at (rows_of run) k))
  -- called where a row begins, the line's call answers the row's line and where the next begins; at the run's end and beyond it, that there is none
  pub line_by_line : (run : List ℕ) (k : ℕ) → length run ≤ most_run → k < length (rows_of run)
      → sheet_line run (begin_of (rows_of run) k)
      ≡ Ok (Some (record { line = (row_at (rows_of run) k).line; next = begin_of (rows_of run) (suc k) }))
  -- so going from line to line gets on, and comes to the run's end
  pub onward : (run : List ℕ) (at : ℕ) (l : LineAt) → sheet_line run at ≡ Ok (Some l) → (at < l.next) × (l.next ≤ length run)
  pub ended : (run : List ℕ) (at : ℕ) → length run ≤ most_run → length run ≤ at → sheet_line run at ≡ Ok None
  -- the total adds up the lines, figure by figure, to which a refused one adds nothing; each is at most three times the run's length, and so within 64 bits
  pub totalled : (run : List ℕ) → length run ≤ most_run → sheet_total run ≡ Ok (total_of (rows_of run))
  pub added_up : (run : List ℕ) → AddedUp (rows_of run) (total_of (rows_of run))
  pub refused_adds : (r : Refusal) → adds (Err r) ≡ none
  pub bounded : (run : List ℕ) → AtMost (most_of_byte * length run) (total_of (rows_of run))
  pub no_wrap : (run : List ℕ) → length run ≤ most_run → AtMost (2 ^ 64 - 1) (total_of (rows_of run))
  -- a longer run is 11: no line, and no total
  pub too_long : (run : List ℕ) (at : ℕ) → most_run < length run
      → (sheet_line run at ≡ Err RecordLength) × (sheet_total run ≡ Err RecordLength)
  -- an empty run has no line, and its total is nothing
  pub empty : (rows_of [] ≡ []) × (sheet_total [] ≡ Ok none)
