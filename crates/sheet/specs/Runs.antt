-- The rows of a run cover it: each byte belongs to one record, or to the cut end. A row is found again by where its bytes begin, and the rows from
-- there on are the rest of them.
use Rattle.std.specs.Prelude.{◌≡◌, refl, ◌⊎◌, Bool, true, false, List, [], ◌∷◌, ◌++◌, ℕ, zero, suc, ◌+◌, ◌≤◌, ◌<◌, leb, length, take, drop, Err}
use Rattle.std.proofs.Common.{sym, ap, ◌∙◌, inl, inr, append-nil, not-suc-le-zero, le_of_suc-le-suc, zero-add, arith, leb-true, le-leb, length-append, length-drop, take-append-drop, length-take-le, get_or-take, drop-drop}
use Rattle.std.proofs.Math.Bool.{and-false, and-eq-true_iff}
use Rattle.std.proofs.Math.Decide.{dec_lt}
use Rattle.std.proofs.lemmas.Bool.{lt-leb}
use Rattle.std.proofs.Math.Seq.{take-length, drop-length}
use Rattle.model.specs.declared.Refusal.TheVariants.{RecordLength}
use Rattle.model.specs.Words.{word_at}
use Rattle.sheet.specs.Definition.{line_of, record_length, Row, is_whole, row_of, rows_from, rows_of}
use Rattle.sheet.specs.Rows.{bytes_of, row_at, begin_of, OfRecord, OfCutEnd}

-- ---- the first row of what is left

-- the length field is the first four bytes alone
word_take : (k : ℕ) (bytes : List ℕ) → 4 ≤ k → word_at (take k bytes) 0 ≡ word_at bytes 0
unfolding word_at
word_take k bytes h =
    rw (get_or-take k bytes 0 0 (omega arith), get_or-take k bytes 1 0 (omega arith), get_or-take k bytes 2 0 (omega arith), get_or-take k bytes 3 0 (omega arith))

module _ (rest : List ℕ) where
  whole_fits : is_whole rest ≡ true → record_length rest ≤ length rest
  whole_fits e = leb-true _ _ ((and-eq-true_iff (leb 4 (length rest)) (leb (record_length rest) (length rest))).0 e).1

  pub row_whole : is_whole rest ≡ true → row_of rest ≡ record { bytes = take (record_length rest) rest; line = line_of (take (record_length rest) rest) }
  unfolding row_of
  row_whole e = rw e

  pub row_cut : is_whole rest ≡ false → row_of rest ≡ record { bytes = rest; line = Err RecordLength }
  unfolding row_of
  row_cut e = rw e

  -- so the line, and how far its bytes go
  pub whole_answer : is_whole rest ≡ true → (line_of (take (record_length rest) rest) ≡ (row_of rest).line) × (record_length rest ≡ length (row_of rest).bytes)
  whole_answer e = rw (row_whole e) (refl, sym (length-take-le (record_length rest) rest (whole_fits e)))

  pub cut_answer : is_whole rest ≡ false → (Err RecordLength ≡ (row_of rest).line) × (length rest ≡ length (row_of rest).bytes)
  cut_answer e = rw (row_cut e) (refl, refl)

  pub cut_before : length rest < 4 → is_whole rest ≡ false
  cut_before h = rw (lt-leb 4 (length rest) h)

  pub cut_within : length rest < record_length rest → is_whole rest ≡ false
  cut_within h = rw (lt-leb (record_length rest) (length rest) h) (and-false (leb 4 (length rest)))

  pub is_whole_lem : 4 ≤ length rest → record_length rest ≤ length rest → is_whole rest ≡ true
  is_whole_lem some all = rw (le-leb 4 (length rest) some, le-leb (record_length rest) (length rest) all)

  first_row : OfRecord (row_of rest) ⊎ OfCutEnd rest (row_of rest)
  first_row = go (is_whole rest) refl
    where
      go : (b : Bool) → is_whole rest ≡ b → OfRecord (row_of rest) ⊎ OfCutEnd rest (row_of rest)
      go true e =
          let long = length-take-le (record_length rest) rest (whole_fits e) in
          inl (rw (row_whole e) (record { told = long ∙ ap (λ (k : ℕ). 4 + k) (sym (word_take (record_length rest) rest (omega arith))); line_is = refl }))
      go false e = inr (rw (row_cut e) (record { all = refl; cut = e; line_is = refl }))

  -- it has some of the bytes, the first of them, and the rest is left
  pub row_bytes : (1 ≤ length rest → 1 ≤ length (row_of rest).bytes) × (length (row_of rest).bytes ≤ length rest)
      × ((row_of rest).bytes ++ drop (length (row_of rest).bytes) rest ≡ rest)
  row_bytes = go (is_whole rest) refl
    where
      go : (b : Bool) → is_whole rest ≡ b → (1 ≤ length rest → 1 ≤ length (row_of rest).bytes) × (length (row_of rest).bytes ≤ length rest)
          × ((row_of rest).bytes ++ drop (length (row_of rest).bytes) rest ≡ rest)
      go true e =
          let long = length-take-le (record_length rest) rest (whole_fits e) in
          rw (row_whole e)
          (λ some. omega (arith, long), omega (arith, long, whole_fits e), rw long (take-append-drop (record_length rest) rest))
      go false e = rw (row_cut e) (λ some. some, omega arith, rw (drop-length rest) (append-nil rest))

-- ---- all rows

rows_cover : (k : ℕ) (rest : List ℕ) → length rest ≤ k → bytes_of (rows_from k rest) ≡ rest
rows_cover zero [] h = refl
rows_cover zero (b ∷ rest) h = absurd (not-suc-le-zero h)
rows_cover (suc k) [] h = refl
rows_cover (suc k) (b ∷ rest) h =
    let all = b ∷ rest in
    let first = row_bytes all in
    let left = length (row_of all).bytes in
    ap (λ (l : List ℕ). (row_of all).bytes ++ l)
    (rows_cover k (drop left all) (omega (arith, length-drop left all, first.0 (omega arith)))) ∙ first.2

pub covered : (run : List ℕ) → bytes_of (rows_of run) ≡ run
unfolding rows_of
covered run = rows_cover (length run) run (omega arith)

-- ---- a row by its place

pub begin_next : (rows : List Row) (k : ℕ) → k < length rows → begin_of rows (suc k) ≡ begin_of rows k + length (row_at rows k).bytes
begin_next [] k h = absurd (not-suc-le-zero h)
begin_next (row ∷ rows) zero h = rw append-nil (sym (zero-add _))
begin_next (row ∷ rows) (suc k) h =
    omega (arith, length-append row.bytes (bytes_of (take (suc k) rows)), length-append row.bytes (bytes_of (take k rows)), begin_next rows k (le_of_suc-le-suc h))

rows_found : (k : ℕ) (rest : List ℕ) (j : ℕ) → j < length (rows_from k rest)
    → let rows = rows_from k rest in (begin_of rows j < length rest) × (row_of (drop (begin_of rows j) rest) ≡ row_at rows j)
rows_found zero rest j h = absurd (not-suc-le-zero h)
rows_found (suc k) [] j h = absurd (not-suc-le-zero h)
rows_found (suc k) (b ∷ rest) zero h = (omega arith, refl)
rows_found (suc k) (b ∷ rest) (suc j) h =
    let all = b ∷ rest in
    let size = length (row_of all).bytes in
    let later = rows_found k (drop size all) j (le_of_suc-le-suc h) in
    let at = begin_of (rows_from k (drop size all)) j in
    let place = length-append (row_of all).bytes (bytes_of (take j (rows_from k (drop size all)))) in (
      omega (arith, place, length-drop size all, later.0),
      rw place (ap row_of (sym (drop-drop at size all)) ∙ later.1),
    )

module _ (run : List ℕ) where
  abbrev rows : List Row
  rows = rows_of run

  module _ (k : ℕ) (h : k < length (rows_of run)) where
    pub found : (begin_of (rows_of run) k < length run) × (row_of (drop (begin_of (rows_of run) k) run) ≡ row_at (rows_of run) k)
    unfolding rows_of
    found = rows_found (length run) run k h

  -- after the last row nothing is left
  pub end_is : begin_of (rows_of run) (length (rows_of run)) ≡ length run
  end_is = rw take-length (ap length (covered run))

  -- each row is of a whole record, but for the last, which may be of the cut end
  pub row_right : (k : ℕ) → k < length (rows_of run)
      → OfRecord (row_at (rows_of run) k) ⊎ ((suc k ≡ length (rows_of run)) × OfCutEnd (drop (begin_of (rows_of run) k) run) (row_at (rows_of run) k))
  row_right k h = rw (← (found k h).1) (go (first_row (drop (begin_of (rows_of run) k) run)))
    where
      last : OfCutEnd (drop (begin_of (rows_of run) k) run) (row_of (drop (begin_of (rows_of run) k) run)) → suc k ≡ length (rows_of run)
      last cut = by (dec_lt (suc k) (length (rows_of run)))
        where
          by : Dec (suc k < length (rows_of run)) → suc k ≡ length (rows_of run)
          by (yes more) =
              absurd
              (omega (
                arith,
                (found (suc k) more).0,
                begin_next (rows_of run) k h,
                ap (λ (r : Row). length r.bytes) (sym (found k h).1) ∙ ap length cut.all ∙ length-drop (begin_of (rows_of run) k) run,
              ))
          by (no none) = omega arith

      go : OfRecord (row_of (drop (begin_of (rows_of run) k) run)) ⊎ OfCutEnd (drop (begin_of (rows_of run) k) run) (row_of (drop (begin_of (rows_of run) k) run))
          → OfRecord (row_of (drop (begin_of (rows_of run) k) run))
          ⊎ ((suc k ≡ length (rows_of run)) × OfCutEnd (drop (begin_of (rows_of run) k) run) (row_of (drop (begin_of (rows_of run) k) run)))
      go (inl whole) = inl whole
      go (inr cut) = inr (last cut, cut)

-- ---- one row, and then those of what is left

no_rows : (k : ℕ) → rows_from k [] ≡ []
no_rows zero = refl
no_rows (suc k) = refl

fuel : (k j : ℕ) (rest : List ℕ) → length rest ≤ k → length rest ≤ j → rows_from k rest ≡ rows_from j rest
fuel zero j [] hk hj = sym (no_rows j)
fuel zero j (b ∷ rest) hk hj = absurd (not-suc-le-zero hk)
fuel (suc k) j [] hk hj = sym (no_rows j)
fuel (suc k) zero (b ∷ rest) hk hj = absurd (not-suc-le-zero hj)
fuel (suc k) (suc j) (b ∷ rest) hk hj =
    let all = b ∷ rest in
    let size = length (row_of all).bytes in
    let less : length (drop size all) < length all = omega (arith, length-drop size all, (row_bytes all).0 (omega arith)) in
    ap (λ (rows : List Row). row_of all ∷ rows) (fuel k j (drop size all) (omega arith) (omega arith))

pub rows_step : (rest : List ℕ) → 1 ≤ length rest → rows_of rest ≡ row_of rest ∷ rows_of (drop (length (row_of rest).bytes) rest)
unfolding rows_of
rows_step [] h = absurd (not-suc-le-zero h)
rows_step (b ∷ rest) h =
    let all = b ∷ rest in
    let size = length (row_of all).bytes in
    let less : length (drop size all) < length all = omega (arith, length-drop size all, (row_bytes all).0 (omega arith)) in
    ap (λ (rows : List Row). row_of all ∷ rows) (fuel (length rest) (length (drop size all)) (drop size all) (omega arith) (omega arith))
