-- A row is filled place by place, or sixteen at a time, and a sheet row by row; and the marks of a sheet.
use Rattle.std.specs.Prelude.{ℕ, ◌+◌, ◌-◌, ◌*◌, ◌≤◌, ◌<◌, ◌≡◌, refl, ◌≢◌, ◌⊎◌, List, ◌++◌, get_or, set, length, take, drop}
use Rattle.std.proofs.Common.{sym, ap, ◌∙◌, inl, inr, zero-add, eq-or-lt_of_le, le_of_suc-le-suc, add-one, arith, get_or-set_same, get_or-set_other, length-take-le, get_or-take, get_or-drop}
use Rattle.std.proofs.lemmas.List.{get_or_append_left, get_or-append_right}
use Rattle.std.proofs.Math.Decide.{dec_lt}
use Rattle.laws.specs.Steps.{listed}
use Rattle.laws.specs.Lists.{get_d_listed}
use Rattle.cases.specs.Sheets.{row_start, side_by_side, Sheet, RowPut, Renewed}
use Rattle.cases.specs.Marks.{mark_of}
use Rattle.cases.specs.RowPlaces.{row_before}

module _ (case : ℕ → ℕ) (start : ℕ) where
  pub none_put : (row : List ℕ) → RowPut case start 0 row row
  none_put row = record { filled = λ k h. absurd (let x : ⊥ = omega arith in x); kept = λ i h. refl; beyond = λ i h. refl }

  pub one_more : (m new : ℕ) (before row : List ℕ) → RowPut case start m before row → start + m < length row → new ≡ case m
      → RowPut case start (m + 1) before (set row (start + m) new)
  one_more m new before row put there e =
      record {
        filled = λ k l. at k (eq-or-lt_of_le (le_of_suc-le-suc (rw add-one at l)));
        kept = λ i l. other i (omega arith) ∙ put.kept i l;
        beyond = λ i l. other i (omega arith) ∙ put.beyond i (omega arith);
      }
    where
      other : (i : ℕ) → i ≢ start + m → get_or (set row (start + m) new) i 0 ≡ get_or row i 0
      other i ne = get_or-set_other row (start + m) i new 0 ne

      at : (k : ℕ) → (k ≡ m) ⊎ (k < m) → get_or (set row (start + m) new) (start + k) 0 ≡ case k
      at k (inl q) = rw (q, get_or-set_same row (start + m) new 0 there) e
      at k (inr l) = other (start + k) (omega arith) ∙ put.filled k l

  -- some places more at once
  some_more : (m more : ℕ) (part : ℕ → ℕ) (before row after : List ℕ) → RowPut case start m before row → RowPut part (start + m) more row after
      → ((k : ℕ) → k < more → part k ≡ case (m + k)) → RowPut case start (m + more) before after
  some_more m more part before row after put then same =
      record {
        filled = λ k l. at k (dec_lt k m) l;
        kept = λ i l. then.kept i (omega arith) ∙ put.kept i l;
        beyond = λ i l. then.beyond i (omega arith) ∙ put.beyond i (omega arith);
      }
    where
      at : (k : ℕ) → Dec (k < m) → k < m + more → get_or after (start + k) 0 ≡ case k
      at k (yes l) h = then.kept (start + k) (omega arith) ∙ put.filled k l
      at k (no l) h =
          let e : start + m + (k - m) ≡ start + k = omega arith in
          let q : m + (k - m) ≡ k = omega arith in
          ap (λ (i : ℕ). get_or after i 0) (omega arith) ∙ then.filled (k - m) (omega arith) ∙ same (k - m) (omega arith) ∙ ap case q

-- from the first place on
pub first_more : (case : ℕ → ℕ) (m new : ℕ) (before row : List ℕ) → RowPut case 0 m before row → m < length row → new ≡ case m
    → RowPut case 0 (m + 1) before (set row m new)
first_more case m new before row put there e =
    let q : 0 + m ≡ m = omega arith in
    rw q at (one_more case 0 m new before row put (omega arith) e)

-- so many places more as are worked out side by side, from where the next stands
pub sixteen_more : (case : ℕ → ℕ) (start m at : ℕ) (part : ℕ → ℕ) (numbers before row after : List ℕ) → RowPut case start m before row
    → at ≡ start + m → numbers ≡ listed part side_by_side → RowPut (λ k. get_or numbers k 0) at side_by_side row after → ((k : ℕ) → k < side_by_side → part k ≡ case (m + k))
    → RowPut case start (m + side_by_side) before after
sixteen_more case start m at part numbers before row after put e made then same =
    some_more case start m side_by_side _ before row after put (rw e at then)
    (λ k l. ap (λ (ns : List ℕ). get_or ns k 0) made ∙ get_d_listed part side_by_side k 0 l ∙ same k l)

-- ---- places that get new numbers

module _ (made : ℕ → ℕ → ℕ → Type 0) where
  pub none_renewed : (row : List ℕ) → Renewed made 0 row row
  none_renewed row = record { new = λ k h. absurd (let x : ⊥ = omega arith in x); kept = λ k h. refl }

  -- so many places more as are worked out side by side
  pub sixteen_renewed : (m : ℕ) (numbers before row after : List ℕ) → Renewed made m before row
      → ((k : ℕ) → k < side_by_side → made (m + k) (get_or row (m + k) 0) (get_or numbers k 0))
      → RowPut (λ k. get_or numbers k 0) m side_by_side row after → Renewed made (m + side_by_side) before after
  sixteen_renewed m numbers before row after so_far worked put =
      record { new = λ k h. at k (dec_lt k m) h; kept = λ k h. put.beyond k h ∙ so_far.kept k (omega arith) }
    where
      at : (k : ℕ) → Dec (k < m) → k < m + side_by_side → made k (get_or before k 0) (get_or after k 0)
      at k (yes l) h = rw (put.kept k l) (so_far.new k l)
      at k (no l) h =
          let e : m + (k - m) ≡ k = omega arith in
          let there : k - m < side_by_side = omega arith in
          let now : get_or after k 0 ≡ get_or numbers (k - m) 0 = rw e at (put.filled (k - m) there) in
          rw (now, ← so_far.kept k (omega arith)) (rw e at (worked (k - m) there))

  pub renewed_more : (m new : ℕ) (before row : List ℕ) → Renewed made m before row → m < length row → made m (get_or row m 0) new
      → Renewed made (m + 1) before (set row m new)
  renewed_more m new before row so_far there e =
      record {
        new = λ k l. at k (eq-or-lt_of_le (le_of_suc-le-suc (rw add-one at l)));
        kept = λ k l. get_or-set_other row m k new 0 (omega arith) ∙ so_far.kept k (omega arith);
      }
    where
      at : (k : ℕ) → (k ≡ m) ⊎ (k < m) → made k (get_or before k 0) (get_or (set row m new) k 0)
      at k (inl q) = rw (q, get_or-set_same row m new 0 there, ← so_far.kept m (omega arith)) e
      at k (inr l) = rw (get_or-set_other row m k new 0 (omega arith)) (so_far.new k l)

-- a part of the row that was lent and came back with its numbers
module _ (case : ℕ → ℕ) (start n : ℕ) (row part : List ℕ) (fits : start + n ≤ length row) (long : length part ≡ n) where
  abbrev before : List ℕ
  before = take start row

  abbrev rest : List ℕ
  rest = drop n (drop start row)

  begins : length before ≡ start
  begins = length-take-le start row (omega arith)

  after_it : (i : ℕ) → start ≤ i → get_or (before ++ (part ++ rest)) i 0 ≡ get_or (part ++ rest) (i - start) 0
  after_it i h = get_or-append_right before (part ++ rest) start i 0 begins h

  pub part_put : ((k : ℕ) → k < n → get_or part k 0 ≡ case k) → RowPut case start n row (before ++ (part ++ rest))
  part_put made =
      record {
        filled = λ k h.
            let e : start + k - start ≡ k = omega arith in
            after_it (start + k) (omega arith) ∙ ap (λ (i : ℕ). get_or (part ++ rest) i 0) e
            ∙ get_or_append_left part rest 0 k (omega (arith, long)) ∙ made k h;
        kept = λ i h. get_or_append_left before (part ++ rest) 0 i (omega (arith, begins)) ∙ get_or-take start row i 0 h;
        beyond = λ i h.
            after_it i (omega arith) ∙ get_or-append_right part rest n (i - start) 0 long (omega arith)
            ∙ get_or-drop n (drop start row) (i - start - n) 0 ∙ get_or-drop start row (n + (i - start - n)) 0
            ∙ ap (λ (k : ℕ). get_or row k 0) (omega arith);
      }

-- the number of a row's cell is another's
pub row_as : {case case' : ℕ → ℕ} {start n : ℕ} {before after : List ℕ} → ((k : ℕ) → k < n → case k ≡ case' k)
    → RowPut case start n before after → RowPut case' start n before after
row_as same put = record { filled = λ k h. put.filled k h ∙ same k h; kept = put.kept; beyond = put.beyond }

module _ (case : ℕ → ℕ → ℕ) (n : ℕ) where
  pub one_more_row : (y : ℕ) (before after : List ℕ) → RowPut (case y) (row_start n y) n before after → Sheet case n y before
      → Sheet case n (y + 1) after
  one_more_row y before after put so_far =
      record { case_at = λ j k h l. at j k (eq-or-lt_of_le (le_of_suc-le-suc (rw add-one at h))) l }
    where
      at : (j k : ℕ) → (j ≡ y) ⊎ (j < y) → k < n → get_or after (row_start n j + k) 0 ≡ case j k
      at j k (inl e) l = rw e (put.filled k l)
      at j k (inr h) l = put.kept (row_start n j + k) (row_before n j y k h (omega arith)) ∙ so_far.case_at j k h l

-- the marks of a sheet
pub marked_sheet : (all : ℕ) (case : ℕ → ℕ → ℕ) (n : ℕ) (cases before after : List ℕ) → Sheet case n n cases
    → RowPut (λ i. mark_of all (get_or cases i 0)) 0 (n * (n + 1)) before after → Sheet (λ j k. mark_of all (case j k)) n n after
marked_sheet all case n cases before after sheet put =
    record {
      case_at = λ j k h l.
          ap (λ (i : ℕ). get_or after i 0) (sym (zero-add (row_start n j + k)))
          ∙ put.filled (row_start n j + k) (omega (arith, row_before n j n k h (omega arith)))
          ∙ ap (mark_of all) (sheet.case_at j k h l);
    }
