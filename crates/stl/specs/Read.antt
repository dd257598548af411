-- Document 02, [1]: header, normals and attributes are not looked at: two files that differ in nothing else read the same. And what an answer
-- with a count says of the file and of the positions.
use Rattle.std.specs.Prelude.{ℕ, ◌+◌, ◌*◌, ◌<◌, ◌≡◌, refl, List, Float, length, get_or, Err, Ok}
use Rattle.std.proofs.Common.{add-zero, add_assoc, arith, ◌∙◌}
use Rattle.std.proofs.Math.Path.{ap}
use Rattle.std.specs.Float.{binary32}
use Rattle.std.specs.Float.Ieee.{of_bits}
use Rattle.laws.specs.Steps.{laid}
use Rattle.laws.specs.Counting.{gather}
use Rattle.laws.specs.Gathered.{listed_same_below, length_gather, gather_same}
use Rattle.model.specs.Answers.{Verdict}
use Rattle.model.specs.Words.{little_at}
use Rattle.stl.specs.Definition.{header_length, float_count, corners_from, count_in, corners_in, positions_in, judge_reading, read_answer, read_stl}
use Rattle.stl.specs.Passing.{Readable, readable}
use Rattle.stl.specs.Files.{SameCorners}

-- a word goes by its four bytes
word_same : (one other : List ℕ) (at : ℕ) → ((i : ℕ) → i < 4 → get_or one (at + i) 0 ≡ get_or other (at + i) 0) → little_at one at ≡ little_at other at
unfolding little_at
word_same one other at same =
    let lowest : get_or one at 0 ≡ get_or other at 0 = rw add-zero at (same 0 (omega arith)) in
    rw (lowest, same 1 (omega arith), same 2 (omega arith), same 3 (omega arith))

module _ (one other : List ℕ) (same : SameCorners one other) where
  count_same : count_in one ≡ count_in other
  count_same = word_same one other header_length same.count

  corners_same : (t : ℕ) → t < count_in one → corners_in one t ≡ corners_in other t
  corners_same t h =
      listed_same_below _ _ float_count
      (λ k l.
      ap (of_bits binary32)
      (word_same one other (corners_from t + 4 * k)
      (λ i m. rw (add_assoc (corners_from t) (4 * k) i) (same.corners t (4 * k + i) h (omega arith)))))

  positions_same : positions_in one ≡ positions_in other
  unfolding positions_in
  positions_same = gather_same (corners_in one) (corners_in other) (count_in one) corners_same ∙ ap (gather (corners_in other)) count_same

  judged_same : (room : ℕ) → judge_reading one room ≡ judge_reading other room
  unfolding judge_reading
  judged_same room = rw (same.long, count_same)

  answer_same : (positions : List Float) (v : Verdict) → read_answer one positions v ≡ read_answer other positions v
  answer_same positions (Ok _) = λ i. record { answer = Ok (count_same i); positions = laid (positions_same i) positions }
  answer_same positions (Err r) = refl

  pub same_read : (positions : List Float) → read_stl one positions ≡ read_stl other positions
  unfolding read_stl
  same_read positions =
      ap (read_answer one positions) (judged_same (length positions)) ∙ answer_same positions (judge_reading other (length positions))

-- ---- what was read

pub record WasRead (bytes : List ℕ) (positions : List Float) (count : ℕ) : Type 0 where
  pub whole : Readable bytes (length positions)
  pub counted : count_in bytes ≡ count
  pub left : (read_stl bytes positions).positions ≡ laid (positions_in bytes) positions

-- a count is answered only for what passes
answered : (bytes : List ℕ) (positions : List Float) (count : ℕ) (v : Verdict) → (read_answer bytes positions v).answer ≡ Ok count
    → (v ≡ Ok tt) × (count_in bytes ≡ count)
answered bytes positions count (Ok _) e = (refl, cc)
answered bytes positions count (Err r) e = (cc, cc)

pub was_read : (bytes : List ℕ) (positions : List Float) (count : ℕ) → (read_stl bytes positions).answer ≡ Ok count
    → WasRead bytes positions count
unfolding read_stl
was_read bytes positions count e =
    let a = answered bytes positions count (judge_reading bytes (length positions)) e in
    record {
      whole = readable bytes (length positions) a.0;
      counted = a.1;
      left = ap (λ (v : Verdict). (read_answer bytes positions v).positions) a.0;
    }

pub length_positions : (bytes : List ℕ) → length (positions_in bytes) ≡ float_count * count_in bytes
unfolding positions_in
length_positions bytes = length_gather (corners_in bytes) float_count (λ t. refl) (count_in bytes)
