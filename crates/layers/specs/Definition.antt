-- Document 02, [12]: making a summary by layer and setting one sample: what each refuses and when, and what it leaves. What a layer's least and greatest
-- sample are, what the mark is and when extraction refuses a summary stands in the model's Layers. Definitions only.
use Rattle.std.specs.Prelude.{ℕ, ◌+◌, ◌-◌, ◌*◌, cond, List, [], ◌∷◌, ltb, ℤ, Float, length, set, Err, Ok}
use Rattle.std.proofs.lemmas.List.Edits.{sets}
use Rattle.laws.specs.Counting.{gather}
use Rattle.model.specs.declared.Xyz.{Xyz}
use Rattle.model.specs.declared.PlaceKind.{PlaceKind}
use Rattle.model.specs.declared.PlaceKind.TheVariants.{InBlock, Face}
use Rattle.model.specs.declared.Refusal.TheVariants.{BadSample, PointNeverSampled}
use Rattle.model.specs.Answers.{Verdict}
use Rattle.model.specs.Samples.{place_of, sampled, kind_of, outside_count, one_up}
use Rattle.model.specs.Refusals.{unless, or_else}
use Rattle.model.specs.Judging.{judge_subdivisions, judge_centre, usable, judge_samples, judge_buffer}
use Rattle.model.specs.Layers.{layer_extent, summary_length}

-- 1, 4, 7 of a block's own samples
unfoldable pub judge_own : ℕ → List Float → Verdict
judge_own n samples = or_else (judge_subdivisions n) (or_else (judge_centre n (length samples)) (judge_samples samples))

-- the two f32 of a layer made afresh
abbrev pub layer_floats : ℕ → List Float → ℕ → List Float
layer_floats n samples x = (layer_extent n samples x).least ∷ (layer_extent n samples x).greatest ∷ []

-- a summary once the layers from one on, up to another, are made afresh in their places: all others stay
unfoldable pub layers_made : ℕ → List Float → ℕ → ℕ → List Float → List Float
layers_made n samples from to summary = sets summary (2 * from) (gather (λ k. layer_floats n samples (from + k)) (to - from))

-- ---- making

-- 1, 4, 7, 14
unfoldable pub judge_making : ℕ → List Float → ℕ → Verdict
judge_making n samples room = or_else (judge_own n samples) (judge_buffer (summary_length n) room)

pub record MakeOutcome : Type 0 where
  pub answer : Verdict
  pub summary : List Float

abbrev pub make_answer : ℕ → List Float → List Float → Verdict → MakeOutcome
make_answer n samples summary (Ok _) = record { answer = Ok tt; summary = layers_made n samples 0 n summary }
make_answer n samples summary (Err r) = record { answer = Err r; summary = summary }

unfoldable pub make_summary : ℕ → List Float → List Float → MakeOutcome
make_summary n samples summary = make_answer n samples summary (judge_making n samples (length summary))

-- ---- setting

-- a point by its signed coordinates, each kept one up
abbrev pub point_up : ℕ → ℤ → ℤ → ℤ → Xyz
point_up n x y z = record { x = one_up n x; y = one_up n y; z = one_up n z }

abbrev pub place_up : ℕ → Xyz → ℕ
place_up n p = place_of n p.x p.y p.z

-- 15
abbrev pub judge_point : ℕ → Xyz → Verdict
judge_point n p = unless (sampled n p.x p.y p.z) (PointNeverSampled (outside_count n p.x p.y p.z))

-- 7 of the new value, with its place
abbrev pub judge_value : ℕ → Xyz → Float → Verdict
judge_value n p value = unless (usable value) (BadSample (place_up n p))

-- 15, 7, 14
unfoldable pub judge_change : ℕ → Xyz → Float → ℕ → Verdict
judge_change n p value room = or_else (judge_point n p) (or_else (judge_value n p value) (judge_buffer (summary_length n) room))

-- 1, 4, 7 of the samples, then these
unfoldable pub judge_setting : ℕ → List Float → Xyz → Float → ℕ → Verdict
judge_setting n samples p value room = or_else (judge_own n samples) (judge_change n p value room)

-- the layers that hold the plane x: from the one below it on, or the first, up to the one above it, or the last
abbrev pub first_holding : ℕ → ℕ
first_holding x = x - 1

abbrev pub end_holding : ℕ → ℕ → ℕ
end_holding n x = cond (ltb x n) (x + 1) n

-- a point of an extension face is in no layer
abbrev pub renewed : PlaceKind → ℕ → List Float → ℕ → List Float → List Float
renewed InBlock n samples x summary = layers_made n samples (first_holding x) (end_holding n x) summary
renewed (Face face) n samples x summary = summary

pub record SetOutcome : Type 0 where
  pub answer : Verdict
  pub samples : List Float
  pub summary : List Float

abbrev pub set_answer : ℕ → List Float → Xyz → Float → List Float → Verdict → SetOutcome
set_answer n samples p value summary (Ok _) =
    let after = set samples (place_up n p) value in
    record { answer = Ok tt; samples = after; summary = renewed (kind_of n p.x p.y p.z) n after (p.x - 1) summary }
set_answer n samples p value summary (Err r) = record { answer = Err r; samples = samples; summary = summary }

unfoldable pub set_sample : ℕ → List Float → ℤ → ℤ → ℤ → Float → List Float → SetOutcome
set_sample n samples x y z value summary =
    let p = point_up n x y z in
    set_answer n samples p value summary (judge_setting n samples p value (length summary))
