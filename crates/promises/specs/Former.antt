-- The calls with the verdict on refusal 1 handed to them, and every other judge as the model has it. With the model's verdict they are the model's calls, and
-- with the verdict of document 01, which accepts at most 16 subdivisions, they are the calls as they were before document 02, [9] (Larger). Definitions only.
use Rattle.std.specs.Prelude.{ℕ, cond, ◌&&◌, List, ◌++◌, leb, ℤ, Float, length}
use Rattle.model.specs.declared.Header.{Header}
use Rattle.model.specs.Answers.{PointRead}
use Rattle.model.specs.declared.Refusal.TheVariants.{Subdivisions}
use Rattle.model.specs.Answers.{Verdict}
use Rattle.model.specs.Refusals.{unless, or_else}
use Rattle.model.specs.Samples.{reading_at, one_up}
use Rattle.model.specs.Star.{Star, star, subdivisions}
use Rattle.model.specs.Judging.{judge_mask, judge_measures, judge_centre, judge_missing, judge_too_long, judge_samples, judge_faces, judge_store, judge_room, judge_buffer}
use Rattle.model.specs.Mesh.{mesh_of}
use Rattle.model.specs.Extraction.{Outcome, outcome, point_answer}
use Rattle.model.specs.Record.{header_of, count_of, samples_of, star_of, sample_from, judge_length, judge_version, judge_count, ReadOutcome, read_answer, WriteOutcome, write_answer}
use Rattle.model.specs.Blank.{is_blank}
use Rattle.model.specs.Viewer.{packed, point_bits}

-- document 01's limit, and its verdict
abbrev pub former_most : ℕ
former_most = 16

abbrev pub former_verdict : ℕ → Verdict
former_verdict n = unless (leb 1 n && leb n former_most) (Subdivisions n)

-- ---- with 1 as it was judged

-- and then 2 to 6
abbrev pub lent_by : Verdict → Star → Verdict
lent_by one s =
    let n = subdivisions s in
    or_else one
    (or_else (judge_mask s.mask)
    (or_else (judge_measures s.block s.threshold)
    (or_else (judge_centre n (length s.centre))
    (or_else (judge_missing n s.mask (length s.neighbours))
    (judge_too_long n s.mask (length s.neighbours))))))

-- and then 7
abbrev pub star_by : Verdict → Star → Verdict
star_by one s = or_else (lent_by one s) (judge_samples (s.centre ++ s.neighbours))

-- a record: 11 and 12, then 1, then 2, 3, 13 and 7
abbrev pub record_by : Verdict → List ℕ → Verdict
record_by one bytes =
    or_else (judge_length bytes)
    (or_else (judge_version bytes)
    (or_else one
    (or_else (judge_mask (header_of bytes).mask)
    (or_else (judge_measures (header_of bytes).block (header_of bytes).threshold)
    (or_else (judge_count bytes)
    (judge_samples (samples_of bytes)))))))

-- ---- the calls

abbrev pub extract_by : Verdict → Star → List ℕ → List Float → List ℕ → Outcome
extract_by one s store vertices triangles =
    outcome (mesh_of s) store vertices triangles
    (or_else (star_by one s)
    (or_else (judge_faces s)
    (or_else (judge_store (subdivisions s) (length store))
    (judge_room (length (mesh_of s).made) (length (mesh_of s).triangles) (length vertices) (length triangles)))))

abbrev pub point_by : Verdict → ℕ → List Float → ℤ → ℤ → ℤ → PointRead
point_by one n samples x y z =
    point_answer (or_else one (judge_centre n (length samples))) (reading_at n samples (one_up n x) (one_up n y) (one_up n z))

abbrev pub read_by : Verdict → List ℕ → List Float → ReadOutcome
read_by one bytes samples = read_answer bytes samples (or_else (record_by one bytes) (judge_buffer (count_of bytes) (length samples)))

abbrev pub write_by : Verdict → Header → List Float → List Float → List ℕ → WriteOutcome
write_by one h centre neighbours bytes =
    write_answer h (centre ++ neighbours) bytes
    (or_else (star_by one (star h centre neighbours)) (judge_buffer (sample_from (length (centre ++ neighbours))) (length bytes)))

-- the viewer's
abbrev pub subdivisions_by : Verdict → List ℕ → ℕ
subdivisions_by one bytes = packed 100 (record_by one bytes) (header_of bytes).block.subdivisions

abbrev pub blank_by : Verdict → List ℕ → ℕ
blank_by one bytes = packed 100 (record_by one bytes) (cond (is_blank (star_of bytes)) 1 0)

abbrev pub record_point_by : Verdict → List ℕ → ℤ → ℤ → ℤ → PointRead
record_point_by one bytes x y z =
    let n = (header_of bytes).block.subdivisions in
    point_answer (record_by one bytes) (reading_at n (samples_of bytes) (one_up n x) (one_up n y) (one_up n z))

abbrev pub sample_by : Verdict → List ℕ → ℤ → ℤ → ℤ → ℕ
sample_by one bytes x y z = point_bits (record_point_by one bytes x y z)
