-- Document 01, 'Block record': its bytes, big-endian, what reading them answers, and what writing them leaves. Definitions only.
use Rattle.std.specs.Prelude.{ℕ, ◌+◌, ◌-◌, ◌*◌, ◌&&◌, List, [], ◌∷◌, ◌++◌, eqb, leb, Float, length, get_or, take, drop, Err, Ok}
use Rattle.model.specs.declared.Header.{Header}
use Rattle.model.specs.declared.Refusal.TheVariants.{RecordLength, Version, SampleCount}
use Rattle.model.specs.Answers.{Verdict}
use Rattle.model.specs.Answers.{RecordRead}
use Rattle.model.specs.Answers.{RecordWritten}
use Rattle.laws.specs.Steps.{listed, each, laid}
use Rattle.model.specs.Samples.{sample_length}
use Rattle.model.specs.Sides.{sample_count}
use Rattle.model.specs.Words.{word_at, word_bytes, float_at, float_bytes}
use Rattle.model.specs.Formulas.{vector}
use Rattle.model.specs.Refusals.{unless, or_else}
use Rattle.model.specs.Judging.{judge_subdivisions, judge_mask, judge_measures, judge_samples, judge_buffer, judge_star}
use Rattle.model.specs.Star.{Star, star}

-- ---- where the fields stand: the length first, a byte each for version, subdivisions and mask, then floats

abbrev pub version_at : ℕ
version_at = 4

abbrev pub subdivisions_at : ℕ
subdivisions_at = 5

abbrev pub mask_at : ℕ
mask_at = 6

abbrev pub threshold_at : ℕ
threshold_at = 7

-- of x; y and z follow
abbrev pub base_at : ℕ
base_at = 11

abbrev pub size_at : ℕ
size_at = 23

-- the bytes before the samples
abbrev pub header_length : ℕ
header_length = 27

abbrev pub sample_from : ℕ → ℕ
sample_from k = header_length + 4 * k

-- ---- reading

unfoldable pub header_of : List ℕ → Header
header_of bytes =
    record {
      block = record {
        base = vector (float_at bytes base_at) (float_at bytes (base_at + 4)) (float_at bytes (base_at + 8));
        size = float_at bytes size_at;
        subdivisions = get_or bytes subdivisions_at 0;
      };
      mask = get_or bytes mask_at 0;
      threshold = float_at bytes threshold_at;
    }

abbrev pub count_of : List ℕ → ℕ
count_of bytes = sample_count (header_of bytes).block.subdivisions (header_of bytes).mask

-- centre first
unfoldable pub samples_of : List ℕ → List Float
samples_of bytes = listed (λ k. float_at bytes (sample_from k)) (count_of bytes)

-- the block of a record with its neighbours
abbrev pub star_of : List ℕ → Star
star_of bytes =
    let own = sample_length (header_of bytes).block.subdivisions in
    star (header_of bytes) (take own (samples_of bytes)) (drop own (samples_of bytes))

-- 11
abbrev pub judge_length : List ℕ → Verdict
judge_length bytes = unless (leb header_length (length bytes) && eqb (word_at bytes 0) (length bytes - 4)) RecordLength

-- 12
abbrev pub judge_version : List ℕ → Verdict
judge_version bytes = unless (eqb (get_or bytes version_at 0) 1) (Version (get_or bytes version_at 0))

-- 13
abbrev pub judge_count : List ℕ → Verdict
judge_count bytes = unless (eqb (length bytes - header_length) (4 * count_of bytes)) (SampleCount (count_of bytes))

-- 11, 12, 1, 2, 3, 13, 7
unfoldable pub judge_record : List ℕ → Verdict
judge_record bytes =
    or_else (judge_length bytes)
    (or_else (judge_version bytes)
    (or_else (judge_subdivisions (header_of bytes).block.subdivisions)
    (or_else (judge_mask (header_of bytes).mask)
    (or_else (judge_measures (header_of bytes).block (header_of bytes).threshold)
    (or_else (judge_count bytes)
    (judge_samples (samples_of bytes)))))))

pub record ReadOutcome : Type 0 where
  pub answer : RecordRead
  pub samples : List Float

abbrev pub read_answer : List ℕ → List Float → Verdict → ReadOutcome
read_answer bytes samples (Ok _) =
    record { answer = Ok (header_of bytes); samples = laid (samples_of bytes) samples }
read_answer bytes samples (Err r) = record { answer = Err r; samples = samples }

-- and 14
unfoldable pub read_record : List ℕ → List Float → ReadOutcome
read_record bytes samples =
    read_answer bytes samples (or_else (judge_record bytes) (judge_buffer (count_of bytes) (length samples)))

-- ---- writing

unfoldable pub record_of : Header → List Float → List ℕ
record_of h samples =
    word_bytes (header_length - 4 + 4 * length samples)
    ++ (1 ∷ h.block.subdivisions ∷ h.mask ∷ [])
    ++ float_bytes h.threshold
    ++ float_bytes h.block.base.x ++ float_bytes h.block.base.y ++ float_bytes h.block.base.z
    ++ float_bytes h.block.size
    ++ each float_bytes samples

pub record WriteOutcome : Type 0 where
  pub answer : RecordWritten
  pub bytes : List ℕ

abbrev pub write_answer : Header → List Float → List ℕ → Verdict → WriteOutcome
write_answer h samples bytes (Ok _) =
    record {
      answer = Ok (sample_from (length samples));
      bytes = laid (record_of h samples) bytes;
    }
write_answer h samples bytes (Err r) = record { answer = Err r; bytes = bytes }

-- 1 to 7, then 14
unfoldable pub write_record : Header → List Float → List Float → List ℕ → WriteOutcome
write_record h centre neighbours bytes =
    write_answer h (centre ++ neighbours) bytes
    (or_else (judge_star (star h centre neighbours)) (judge_buffer (sample_from (length (centre ++ neighbours))) (length bytes)))
