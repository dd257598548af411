-- What was promised of the sheet holds: sheet has it of a block and of the rows of a run, and here it is carried to the calls.
use Rattle.std.specs.Prelude.{ℕ, suc, ◌+◌, ◌-◌, ◌*◌, ◌/◌, ◌^◌, ◌≤◌, ◌<◌, ◌≡◌, Bool, true, false, cond, List, Float, leb, ltb, length, drop, Err, Ok, None, Some}
use Rattle.std.proofs.Common.{le_refl, mul-le-mul, mul-le-mul_left, arith, sym, ap, ◌∙◌, subst, length-drop}
use Rattle.std.proofs.Math.Path.{refl}
use borrow.Author.Tests.{le-leb, lt-leb, lt-ltb, le-ltb, ltb-true}
use Rattle.std.specs.Int.Count.{ones}
use Rattle.std.proofs.lemmas.Nat.{ones-le}
use Rattle.laws.specs.Counting.{one_small, how_many}
use Rattle.model.specs.declared.Counts.{Counts}
use Rattle.model.specs.declared.Header.{Header}
use Rattle.model.specs.declared.Refusal.TheVariants.{RecordLength}
use Rattle.model.specs.Answers.{Verdict}
use Rattle.model.specs.Limits.{side_count}
use Rattle.model.specs.Rotations.{xyz}
use Rattle.model.specs.Star.{Star, star, subdivisions}
use Rattle.model.specs.Judging.{judge_star, judge_faces}
use Rattle.model.specs.Extraction.{judge_extraction}
use Rattle.model.specs.Mesh.{store_length}
use Rattle.model.specs.Record.{header_of, star_of, judge_record, read_record}
use Rattle.judge.specs.First.{or_else_assoc, or_else_passed, both_passed}
use Rattle.closed.specs.Clauses.{edges_most}
use Rattle.record.specs.Accepted.{Accepted, accepted, passes}
use Rattle.record.specs.Reading.{was_read}
use Rattle.record.specs.RoundTrip.{read_star}
use Rattle.sheet.specs.declared.Figures.{Figures}
use Rattle.sheet.specs.Answers.{Line}
use Rattle.sheet.specs.declared.LineAt.{LineAt}
use Rattle.sheet.specs.Answers.{SheetLine}
use Rattle.sheet.specs.Answers.{SheetTotal}
use Rattle.sheet.specs.Definition.{is_inside, inside_at, inside_samples, crosses, crosses_x, crosses_y, crosses_z, x_edges, y_edges, z_edges, figures_of, judge_line, line_by, line_of, row_of, rows_of, adds, total_of, most_run, line_answer, sheet_line, sheet_total}
use Rattle.sheet.specs.Rows.{carries_vertex, row_at, begin_of, AtMost}
use Rattle.sheet.proofs.Counted.{vertices_are, triangles_are}
use Rattle.sheet.specs.Crossed.{crossed_edges, carried_small}
use Rattle.sheet.specs.Grids.{box_most}
use Rattle.sheet.specs.Runs.{row_bytes, covered, found, begin_next, row_right}
use Rattle.sheet.specs.Sizes.{at_most_of, at_most_none, refused_adds}
use Rattle.sheet.specs.Totals.{added_up, total_most}
use Rattle.promises.specs.Left.{Lent, answered, counts, centre_of, neighbours_of}
use Rattle.promises.specs.Orders.{in_order, Judged, record_judges}
use Rattle.promises.specs.Enough.{enough_vertices, enough_triangles}
use Rattle.promises.proofs.Judges.{◌&◌, judged, extraction_in_order, record_numbered, faces_number, numbered_append}
use Rattle.promises.proofs.Extracted.{extraction, faces_passed, equal_mesh}
use Rattle.promises.proofs.BlankKept.{block_passed}
use Rattle.promises.proofs.Room.{enough}
use Rattle.promises.specs.Sheet.{line_judges, counts_of, most_of_byte, SheetPromises}

-- ---- a record's line

module _ (bytes : List ℕ) where
  line_in_order : in_order (line_judges bytes) ≡ judge_line bytes
  unfolding judge_line judge_record
  line_in_order = simp (or_else_assoc, or_else_passed)

  line_judged : Judged (line_judges bytes) (λ r. line_of bytes ≡ Err r) (line_of bytes ≡ Ok (figures_of (star_of bytes)))
  unfolding line_of
  line_judged =
      judged Err (Ok (figures_of (star_of bytes))) (λ v. line_by v (figures_of (star_of bytes))) refl (λ r. refl) (λ q r e. cc)
      (λ r e. cc) (line_judges bytes) (judge_line bytes) line_in_order
      (numbered_append (record_judges bytes) (drop 7 (line_judges bytes)) (record_numbered bytes) (faces_number (star_of bytes) & tt))

  -- a line with figures has passed, and they are the block's
  counted : (f : Figures) → line_of bytes ≡ Ok f → (judge_record bytes ≡ Ok tt) × (judge_faces (star_of bytes) ≡ Ok tt) × (f ≡ figures_of (star_of bytes))
  unfolding line_of judge_line
  counted f e =
      let told = go (judge_line bytes) e in
      let both = both_passed (judge_record bytes) (judge_faces (star_of bytes)) told.0 in
      (both.0, both.1, told.1)
    where
      go : (v : Verdict) → line_by v (figures_of (star_of bytes)) ≡ Ok f → (v ≡ Ok tt) × (f ≡ figures_of (star_of bytes))
      go (Ok _) e = (refl, cc)
      go (Err r) e = (cc, cc)

-- ---- figures and extraction

figure_counts : (s : Star) → counts_of (figures_of s) ≡ counts s
unfolding figures_of
figure_counts s = λ i. record { vertices = sym (vertices_are s) i; triangles = sym (triangles_are s) i }

-- what passes 1 to 8 and has room is meshed
module _ (s : Star) (lent : Lent) (seven : judge_star s ≡ Ok tt) (eight : judge_faces s ≡ Ok tt) (store : store_length (subdivisions s) ≤ length lent.store)
    (vertices : (counts s).vertices ≤ length lent.vertices / 6) (triangles : (counts s).triangles ≤ length lent.triangles / 3) where
  all_passed : judge_extraction s (length lent.store) (length lent.vertices) (length lent.triangles) ≡ Ok tt
  unfolding judge_extraction
  all_passed =
      rw (
        seven,
        eight,
        le-leb (store_length (subdivisions s)) (length lent.store) store,
        le-leb (counts s).vertices (length lent.vertices / 6) vertices,
        le-leb (counts s).triangles (length lent.triangles / 3) triangles,
      )

  meshed : answered s lent ≡ Ok (counts s)
  meshed = (extraction s lent).accepted_by_all.1 (extraction_in_order s lent ∙ all_passed)

as_extraction : (bytes : List ℕ) (f : Figures) (lent : Lent) → line_of bytes ≡ Ok f
    → store_length (header_of bytes).block.subdivisions ≤ length lent.store → f.vertices ≤ length lent.vertices / 6
    → f.triangles ≤ length lent.triangles / 3 → answered (star_of bytes) lent ≡ Ok (counts_of f)
as_extraction bytes f lent e store vertices triangles =
    let told = counted bytes f e in
    let same : counts_of f ≡ counts (star_of bytes) = ap counts_of told.2 ∙ figure_counts (star_of bytes) in
    meshed (star_of bytes) lent (block_passed bytes told.0) told.1 store
    (omega (arith, ap (λ (c : Counts). c.vertices) same)) (omega (arith, ap (λ (c : Counts). c.triangles) same))
    ∙ ap Ok (sym same)

by_calls : (bytes : List ℕ) (samples : List Float) (h : Header) (lent : Lent) (c : Counts) → (read_record bytes samples).answer ≡ Ok h
    → let read = (read_record bytes samples).samples in
    answered (star h (centre_of h read) (neighbours_of h read)) lent ≡ Ok c
    → (line_of bytes ≡ Ok (figures_of (star_of bytes))) × (counts_of (figures_of (star_of bytes)) ≡ c)
unfolding line_of judge_line
by_calls bytes samples h lent c read made =
    let whole = passes bytes (was_read bytes samples h read).whole in
    let mesh = subst (λ (s : Star). answered s lent ≡ Ok c) (read_star bytes samples h read) made in (
      rw (whole, faces_passed (star_of bytes) lent c mesh),
      figure_counts (star_of bytes) ∙ sym (equal_mesh (star_of bytes) lent c mesh).counted,
    )

crossing_edges : (s : Star) → let edges = (figures_of s).edges in how_many (carries_vertex s) (edges_most s) ≡ edges.x + edges.y + edges.z
unfolding figures_of
crossing_edges s = crossed_edges s

-- ---- a line adds at most so much for each of its bytes

-- the samples of a block's own points, four bytes each
abbrev own_bytes : ℕ → ℕ
own_bytes m = 4 * (m * m * m + 6 * (m * m))

vertices_by : (n block faces held : ℕ) → block ≤ n * (n * n + 4 * n) → faces ≤ 6 * (4 * (n * (2 * n + 1))) → own_bytes (n + 1) ≤ held
    → 3 * block + faces ≤ most_of_byte * held
vertices_by n block faces held regular transition long = omega arith

triangles_by : (n faces held : ℕ) → faces ≤ 6 * (12 * (n * n)) → own_bytes (n + 1) ≤ held → 5 * (n * n * n) + faces ≤ most_of_byte * held
triangles_by n faces held transition long = omega arith

module _ (bytes : List ℕ) (a : Accepted bytes) where
  abbrev s : Star
  s = star_of bytes

  abbrev n : ℕ
  n = subdivisions s

  abbrev m : ℕ
  m = n + 1

  -- the record has at least the block's own samples
  long : own_bytes m ≤ length bytes
  long = omega (arith, a.counted)

  -- its points, and room for what its cells make
  points : m * m * m ≤ length bytes
  points = omega (arith, long)

  fewer : (x y z : ℕ) → x ≤ m → y ≤ m → z ≤ m → z * y * x ≤ length bytes
  fewer x y z hx hy hz =
      let product : z * y * x ≤ m * m * m = mul-le-mul (mul-le-mul hz hy) hx in
      omega (arith, product, points)

  sides : ones s.mask ≤ 6
  sides = omega (arith, ones-le side_count s.mask (omega (arith, a.sides)))

  vertices_most : enough_vertices n s.mask ≤ most_of_byte * length bytes
  vertices_most =
      let layers : n * n + 4 * n - 1 ≤ n * n + 4 * n = omega arith in
      let face = 4 * (n * (2 * n + 1)) in
      vertices_by n (n * (n * n + 4 * n - 1)) (ones s.mask * face) (length bytes) (mul-le-mul_left n layers) (mul-le-mul sides (le_refl face)) long

  triangles_most : enough_triangles n s.mask ≤ most_of_byte * length bytes
  triangles_most =
      let face = 12 * (n * n) in
      triangles_by n (ones s.mask * face) (length bytes) (mul-le-mul sides (le_refl face)) long

  figures_most : AtMost (most_of_byte * length bytes) (figures_of s)
  unfolding figures_of inside_samples x_edges y_edges z_edges
  figures_most =
      let few = enough s a.sides in
      record {
        inside = omega (arith, box_most (inside_at s) m m m (λ x y z. one_small (is_inside s (xyz x y z))), fewer m m m (omega arith) (omega arith) (omega arith));
        x = omega (arith, box_most (crosses_x s) n m m (λ x y z. one_small (crosses s (xyz x y z) (xyz (x + 1) y z))), fewer n m m (omega arith) (omega arith) (omega arith));
        y = omega (arith, box_most (crosses_y s) m n m (λ x y z. one_small (crosses s (xyz x y z) (xyz x (y + 1) z))), fewer m n m (omega arith) (omega arith) (omega arith));
        z = omega (arith, box_most (crosses_z s) m m n (λ x y z. one_small (crosses s (xyz x y z) (xyz x y (z + 1)))), fewer m m n (omega arith) (omega arith) (omega arith));
        vertices = omega (arith, vertices_are s, few.vertices, vertices_most);
        triangles = omega (arith, triangles_are s, few.triangles, triangles_most);
      }

line_most : (bytes : List ℕ) → AtMost (most_of_byte * length bytes) (adds (line_of bytes))
line_most bytes = go (line_of bytes) refl
  where
    go : (line : Line) → line_of bytes ≡ line → AtMost (most_of_byte * length bytes) (adds line)
    go (Ok f) e =
        let told = counted bytes f e in
        rw told.2 (figures_most bytes (accepted bytes told.0))
    go (Err r) e = at_most_none (most_of_byte * length bytes)

-- ---- the calls

module _ (run : List ℕ) (short : length run ≤ most_run) where
  line_by_line : (k : ℕ) → k < length (rows_of run)
      → sheet_line run (begin_of (rows_of run) k) ≡ Ok (Some (record { line = (row_at (rows_of run) k).line; next = begin_of (rows_of run) (suc k) }))
  unfolding sheet_line
  line_by_line k h =
      let there = found run k h in
      rw (le-leb (length run) most_run short, lt-ltb (begin_of (rows_of run) k) (length run) there.0, there.1)
      (ap (λ (next : ℕ). Ok (Some (record { line = (row_at (rows_of run) k).line; next = next }))) (sym (begin_next (rows_of run) k h)))

  ended : (at : ℕ) → length run ≤ at → sheet_line run at ≡ Ok None
  unfolding sheet_line
  ended at h = rw (le-leb (length run) most_run short, le-ltb at (length run) h)

  totalled : sheet_total run ≡ Ok (total_of (rows_of run))
  unfolding sheet_total
  totalled = rw (le-leb (length run) most_run short)

onward : (run : List ℕ) (at : ℕ) (l : LineAt) → sheet_line run at ≡ Ok (Some l) → (at < l.next) × (l.next ≤ length run)
unfolding sheet_line
onward run at l e =
    let told = go (leb (length run) most_run) (ltb at (length run)) e in
    let within = ltb-true at (length run) told.0 in
    let next = ap (λ (a : LineAt). a.next) told.1 in
    let bytes = row_bytes (drop at run) in
    let left = length-drop at run in
    (omega (arith, next, left, within, bytes.0 (omega (arith, left, within))), omega (arith, next, left, within, bytes.1))
  where
    go : (short there : Bool)
        → cond short (cond there (line_answer (row_of (drop at run)) at) (Ok None)) (Err RecordLength) ≡ Ok (Some l)
        → (there ≡ true) × (l ≡ record { line = (row_of (drop at run)).line; next = at + length (row_of (drop at run)).bytes })
    go true true e = (refl, cc)
    go true false e = (cc, cc)
    go false there e = (cc, cc)

too_long : (run : List ℕ) (at : ℕ) → most_run < length run
    → (sheet_line run at ≡ Err RecordLength) × (sheet_total run ≡ Err RecordLength)
unfolding sheet_line sheet_total
too_long run at h = rw (lt-leb (length run) most_run h) (refl, refl)

pub sheet_kept : SheetPromises
unfolding rows_of sheet_total
sheet_kept =
    record {
      judged = line_judged;
      as_extraction = as_extraction;
      by_calls = by_calls;
      crossing_edges = crossing_edges;
      none_beyond = carried_small;
      covered = covered;
      each_row = row_right;
      line_by_line = λ run k short h. line_by_line run short k h;
      onward = onward;
      ended = λ run at short h. ended run short at h;
      totalled = totalled;
      added_up = λ run. added_up (rows_of run);
      refused_adds = refused_adds;
      bounded = total_most most_of_byte line_most;
      no_wrap = λ run short. at_most_of (2 ^ 64 - 1) (omega arith) (total_most most_of_byte line_most run);
      too_long = too_long;
      empty = (refl, refl);
    }
