-- The total of a run, row by row: what was added so far, and what the rows of the rest add, come to the total of all.
use Rattle.std.specs.Prelude.{◌≡◌, refl, Bool, true, false, ℕ, zero, suc, ◌+◌, ◌*◌, ◌≤◌, take}
use Rattle.std.proofs.Math.Path.{sym, ap, subst}
use Rattle.std.proofs.Common.{◌∙◌, add_assoc, add-zero, zero-add, mul-add, arith, length-append, drop-drop}
use mathlib.Core.List.{List, [], ◌∷◌, ◌++◌}
use Rattle.std.proofs.Math.ListN.{length, drop}
use Rattle.std.proofs.Math.Seq.{drop-length}
use Rattle.laws.specs.Squares.{total_first}
use Rattle.sheet.specs.declared.Figures.{Figures}
use Rattle.sheet.specs.Definition.{line_of, record_length, Row, is_whole, row_of, rows_from, rows_of, none, plus, adds, total_of}
use Rattle.sheet.specs.Rows.{bytes_of, row_at, AtMost, column_sum, AddedUp}
use Rattle.sheet.specs.Runs.{row_whole, row_cut, covered, rows_step}
use Rattle.sheet.specs.Sizes.{at_most_of, at_most_plus, at_most_none}

plus_assoc : (a b c : Figures) → plus (plus a b) c ≡ plus a (plus b c)
plus_assoc a b c =
    λ i.
    record {
      inside = add_assoc a.inside b.inside c.inside i;
      edges = record {
        x = add_assoc a.edges.x b.edges.x c.edges.x i;
        y = add_assoc a.edges.y b.edges.y c.edges.y i;
        z = add_assoc a.edges.z b.edges.z c.edges.z i;
      };
      vertices = add_assoc a.vertices b.vertices c.vertices i;
      triangles = add_assoc a.triangles b.triangles c.triangles i;
    }

none_plus : (a : Figures) → plus none a ≡ a
none_plus a =
    λ i.
    record {
      inside = zero-add a.inside i;
      edges = record { x = zero-add a.edges.x i; y = zero-add a.edges.y i; z = zero-add a.edges.z i };
      vertices = zero-add a.vertices i;
      triangles = zero-add a.triangles i;
    }

pub plus_none : (a : Figures) → plus a none ≡ a
plus_none a =
    λ i.
    record {
      inside = add-zero a.inside i;
      edges = record { x = add-zero a.edges.x i; y = add-zero a.edges.y i; z = add-zero a.edges.z i };
      vertices = add-zero a.vertices i;
      triangles = add-zero a.triangles i;
    }

-- the sum of the rows before a place, and those from there on
pub record SoFar (run : List ℕ) (at : ℕ) (sum : Figures) : Type 0 where
  pub all : plus sum (total_of (rows_of (drop at run))) ≡ total_of (rows_of run)

module _ (run : List ℕ) where
  pub total_start : SoFar run 0 none
  total_start = record { all = none_plus _ }

  pub total_more : (at : ℕ) (sum : Figures) → 1 ≤ length (drop at run) → SoFar run at sum
      → let row = row_of (drop at run) in SoFar run (at + length row.bytes) (plus sum (adds row.line))
  total_more at sum some so_far =
      let row = row_of (drop at run) in
      let rest = rows_of (drop (length row.bytes) (drop at run)) in
      let later : drop (at + length row.bytes) run ≡ drop (length row.bytes) (drop at run) = sym (drop-drop (length row.bytes) at run) in
      record {
        all = ap (λ (l : List ℕ). plus (plus sum (adds row.line)) (total_of (rows_of l))) later
            ∙ plus_assoc sum (adds row.line) (total_of rest)
            ∙ ap (λ (rows : List Row). plus sum (total_of rows)) (sym (rows_step (drop at run) some))
            ∙ so_far.all;
      }

  pub total_end : (at : ℕ) (sum : Figures) → at ≡ length run → SoFar run at sum → sum ≡ total_of (rows_of run)
  unfolding rows_of
  total_end at sum end so_far =
      sym (plus_none sum)
      ∙ ap (λ (l : List ℕ). plus sum (total_of (rows_of l))) (sym (drop-length run) ∙ ap (λ (k : ℕ). drop k run) (sym end)) ∙ so_far.all

-- ---- figure by figure, and how large it is

module _ (column : Figures → ℕ) (nothing : column none ≡ 0) (sum : (a b : Figures) → column (plus a b) ≡ column a + column b) where
  column_added : (rows : List Row) → column (total_of rows) ≡ column_sum rows column
  column_added [] = nothing
  column_added (row ∷ rows) =
      omega (
        arith,
        sum (adds row.line) (total_of rows),
        column_added rows,
        total_first (λ k. column (adds (row_at (row ∷ rows) k).line)) (length rows),
      )

pub added_up : (rows : List Row) → AddedUp rows (total_of rows)
added_up rows =
    record {
      inside = column_added (λ f. f.inside) refl (λ a b. refl) rows;
      x = column_added (λ f. f.edges.x) refl (λ a b. refl) rows;
      y = column_added (λ f. f.edges.y) refl (λ a b. refl) rows;
      z = column_added (λ f. f.edges.z) refl (λ a b. refl) rows;
      vertices = column_added (λ f. f.vertices) refl (λ a b. refl) rows;
      triangles = column_added (λ f. f.triangles) refl (λ a b. refl) rows;
    }

-- where each line adds at most so much for each of its bytes
module _ (most : ℕ) (line_most : (bytes : List ℕ) → AtMost (most * length bytes) (adds (line_of bytes))) where
  row_most : (rest : List ℕ) → AtMost (most * length (row_of rest).bytes) (adds (row_of rest).line)
  row_most rest = go (is_whole rest) refl
    where
      go : (b : Bool) → is_whole rest ≡ b → AtMost (most * length (row_of rest).bytes) (adds (row_of rest).line)
      go true e = rw (row_whole rest e) (line_most (take (record_length rest) rest))
      go false e = rw (row_cut rest e) (at_most_none (most * length rest))

  rows_most : (k : ℕ) (rest : List ℕ) → AtMost (most * length (bytes_of (rows_from k rest))) (total_of (rows_from k rest))
  rows_most zero rest = at_most_none (most * 0)
  rows_most (suc k) [] = at_most_none (most * 0)
  rows_most (suc k) (b ∷ rest) =
      let all = b ∷ rest in
      let later = rows_from k (drop (length (row_of all).bytes) all) in
      at_most_of (most * length ((row_of all).bytes ++ bytes_of later))
      (omega (arith, mul-add most (length (row_of all).bytes) (length (bytes_of later)), ap (λ (k : ℕ). most * k) (length-append (row_of all).bytes (bytes_of later))))
      (at_most_plus (row_most all) (rows_most k (drop (length (row_of all).bytes) all)))

  pub total_most : (run : List ℕ) → AtMost (most * length run) (total_of (rows_of run))
  unfolding rows_of
  total_most run = subst (λ (l : List ℕ). AtMost (most * length l) (total_of (rows_of run))) (covered run) (rows_most (length run) run)
