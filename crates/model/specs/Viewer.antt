-- Document 01, 'Block record', with document 02, [3]: the three calls that serve the viewer, from record bytes to a packed number; and document 02, [4]:
-- the point read of a record. Definitions only.
use Rattle.std.specs.Prelude.{ℕ, ◌+◌, ◌*◌, ◌^◌, cond, List, ℤ, Err, Ok}
use Rattle.std.specs.Float.Ieee as Ieee
use Rattle.std.specs.Float.{binary32}
use Rattle.model.specs.Answers.{PointRead}
use Rattle.model.specs.Answers.{Verdict}
use Rattle.model.specs.Samples.{reading_at, one_up}
use Rattle.model.specs.Refusals.{numbers_of}
use Rattle.model.specs.Extraction.{point_answer}
use Rattle.model.specs.Record.{header_of, samples_of, star_of, judge_record}
use Rattle.model.specs.Blank.{is_blank, blank_before}

-- the answer, or a base plus the refusal's number
abbrev pub packed : ℕ → Verdict → ℕ → ℕ
packed base (Ok _) answer = answer
packed base (Err r) answer = base + (numbers_of r).number

unfoldable pub subdivisions_answer : List ℕ → ℕ
subdivisions_answer bytes = packed 100 (judge_record bytes) (header_of bytes).block.subdivisions

-- whether its block is blank
unfoldable pub blank_answer : List ℕ → ℕ
blank_answer bytes = packed 100 (judge_record bytes) (cond (is_blank (star_of bytes)) 1 0)

-- as document 01 had it, before document 02, [3]
unfoldable pub blank_answer_before : List ℕ → ℕ
blank_answer_before bytes =
    let m = (header_of bytes).block.subdivisions + 1 in
    packed 100 (judge_record bytes) (blank_before (m * m * m) (header_of bytes).threshold (samples_of bytes))

-- document 02, [4]: the point read of a record's centre: the record's refusals, then 15
unfoldable pub record_point : List ℕ → ℤ → ℤ → ℤ → PointRead
record_point bytes x y z =
    let n = (header_of bytes).block.subdivisions in
    point_answer (judge_record bytes) (reading_at n (samples_of bytes) (one_up n x) (one_up n y) (one_up n z))

-- the sample's bits, or 2^32 plus the refusal's number
abbrev pub point_bits : PointRead → ℕ
point_bits (Ok (v, kind)) = Ieee.to_bits binary32 v
point_bits (Err r) = 2 ^ 32 + (numbers_of r).number

unfoldable pub sample_answer : List ℕ → ℤ → ℤ → ℤ → ℕ
sample_answer bytes x y z = point_bits (record_point bytes x y z)
