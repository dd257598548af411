-- Document 01's orders of judging: for each call its judges, one after another, by their numbers; and what it is for a call to be judged so.
-- Definitions only.
use Rattle.std.specs.Prelude.{ℕ, ◌+◌, ◌*◌, ◌<◌, ◌≡◌, ◌↔◌, List, [], ◌∷◌, ◌++◌, ℤ, Float, length, Err, Ok}
use Rattle.model.specs.declared.Block.{Block}
use Rattle.model.specs.declared.Header.{Header}
use Rattle.model.specs.declared.Refusal.{Refusal}
use Rattle.model.specs.declared.Refusal.TheVariants.{PointNeverSampled}
use Rattle.model.specs.Answers.{Verdict}
use Rattle.model.specs.Samples.{sampled, outside_count, one_up}
use Rattle.model.specs.Refusals.{numbers_of, unless, or_else}
use Rattle.model.specs.Star.{Star, star, subdivisions}
use Rattle.model.specs.Judging.{judge_subdivisions, judge_mask, judge_measures, judge_centre, judge_missing, judge_too_long, judge_samples, judge_faces, judge_store, judge_room, judge_buffer}
use Rattle.model.specs.Record.{header_length, header_of, count_of, samples_of, judge_length, judge_version, judge_count}
use Rattle.promises.specs.Left.{Lent, counts}

-- a judge: its number in document 01, and what it says of a call
pub record Judge : Type 0 where
  pub number : ℕ
  pub says : Verdict

abbrev pub judge : ℕ → Verdict → Judge
judge number says = record { number = number; says = says }

-- what judges that are asked one after another come to: the first refusal
abbrev pub in_order : List Judge → Verdict
in_order [] = Ok tt
in_order (j ∷ rest) = or_else j.says (in_order rest)

-- each refuses with its own number
abbrev pub Numbered : List Judge → Type 0
Numbered [] = Unit {0}
Numbered (j ∷ rest) = ((r : Refusal) → j.says ≡ Err r → (numbers_of r).number ≡ j.number) × Numbered rest

-- a call that is refused exactly with the first refusal of its judges, and accepted exactly when none of them refuses
pub record Judged (judges : List Judge) (refused : Refusal → Type 0) (accepted : Type 0) : Type 0 where
  pub numbered : Numbered judges
  pub refused_by_first : (r : Refusal) → refused r ↔ (in_order judges ≡ Err r)
  pub accepted_by_all : accepted ↔ (in_order judges ≡ Ok tt)

-- a call that answers with one number: its value, or a base plus the number of the first refusal; no value reads as a refusal
pub record Packed (judges : List Judge) (base value answer : ℕ) : Type 0 where
  pub numbered : Numbered judges
  pub refused : (r : Refusal) → in_order judges ≡ Err r → answer ≡ base + (numbers_of r).number
  pub accepted : in_order judges ≡ Ok tt → answer ≡ value
  pub apart : in_order judges ≡ Ok tt → value < base

-- document 01's orders: 1 to 6 of a block and the lengths of the lists lent with it, 1 to 7 of a block, 9 and 10 of the buffers that extraction is lent,
-- 1 to 10 of extraction, 1 to 7 and 14 of the writer
abbrev pub lent_judges : Block → ℕ → Float → ℕ → ℕ → List Judge
lent_judges block mask threshold centre neighbours =
    let n = block.subdivisions in
    judge 1 (judge_subdivisions n) ∷
    judge 2 (judge_mask mask) ∷
    judge 3 (judge_measures block threshold) ∷
    judge 4 (judge_centre n centre) ∷
    judge 5 (judge_missing n mask neighbours) ∷
    judge 6 (judge_too_long n mask neighbours) ∷
    []

abbrev pub block_judges : Star → List Judge
block_judges s =
    lent_judges s.block s.mask s.threshold (length s.centre) (length s.neighbours) ++
    judge 7 (judge_samples (s.centre ++ s.neighbours)) ∷
    []

abbrev pub room_judges : Star → Lent → List Judge
room_judges s lent =
    judge 9 (judge_store (subdivisions s) (length lent.store)) ∷
    judge 10 (judge_room (counts s).vertices (counts s).triangles (length lent.vertices) (length lent.triangles)) ∷
    []

abbrev pub extraction_judges : Star → Lent → List Judge
extraction_judges s lent = block_judges s ++ judge 8 (judge_faces s) ∷ room_judges s lent

abbrev pub writing_judges : Header → List Float → List Float → List ℕ → List Judge
writing_judges h centre neighbours bytes =
    block_judges (star h centre neighbours) ++
    judge 14 (judge_buffer (header_length + 4 * length (centre ++ neighbours)) (length bytes)) ∷
    []

-- 11, 12, 1, 2, 3, 13, 7 of a record, and 14 of the reader
abbrev pub record_judges : List ℕ → List Judge
record_judges bytes =
    let h = header_of bytes in
    judge 11 (judge_length bytes) ∷
    judge 12 (judge_version bytes) ∷
    judge 1 (judge_subdivisions h.block.subdivisions) ∷
    judge 2 (judge_mask h.mask) ∷
    judge 3 (judge_measures h.block h.threshold) ∷
    judge 13 (judge_count bytes) ∷
    judge 7 (judge_samples (samples_of bytes)) ∷
    []

abbrev pub reading_judges : List ℕ → List Float → List Judge
reading_judges bytes samples = record_judges bytes ++ judge 14 (judge_buffer (count_of bytes) (length samples)) ∷ []

-- 15 of a point, by its signed coordinates; 1, 4, 15 of the point read; a record's and 15 of the viewer's sample
abbrev pub point_judge : ℕ → ℤ → ℤ → ℤ → Judge
point_judge n x y z =
    judge 15
    (unless (sampled n (one_up n x) (one_up n y) (one_up n z)) (PointNeverSampled (outside_count n (one_up n x) (one_up n y) (one_up n z))))

abbrev pub point_judges : ℕ → List Float → ℤ → ℤ → ℤ → List Judge
point_judges n samples x y z =
    judge 1 (judge_subdivisions n) ∷ judge 4 (judge_centre n (length samples)) ∷ point_judge n x y z ∷ []

abbrev pub sample_judges : List ℕ → ℤ → ℤ → ℤ → List Judge
sample_judges bytes x y z = record_judges bytes ++ point_judge (header_of bytes).block.subdivisions x y z ∷ []
