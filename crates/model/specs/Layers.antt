-- Document 02, [12]: a summary by layer. For each layer of cells along x it holds the least and the greatest in-block sample, two f32 a layer, or the mark
-- that they are not worked out: a NaN in either. When extraction refuses a summary, and which layers it passes over. Definitions only.
use Rattle.std.specs.Prelude.{ℕ, ◌+◌, ◌*◌, Bool, cond, not, ◌&&◌, ◌||◌, List, Float, length, get_or}
use Rattle.std.specs.Float.Ieee as Ieee
use Rattle.std.specs.Float.{nan}
use Rattle.std.specs.Float.Ieee.{is_nan}
use Rattle.model.specs.declared.Extent.{Extent}
use Rattle.model.specs.declared.Refusal.TheVariants.{LayerDiffers}
use Rattle.model.specs.Answers.{Verdict}
use Rattle.laws.specs.Steps.{iterate}
use Rattle.model.specs.Samples.{in_block}
use Rattle.model.specs.Formulas.{inside}
use Rattle.model.specs.Refusals.{unless, or_else, first}
use Rattle.model.specs.Judging.{judge_buffer}

-- ---- a layer

-- the cells of the layer x have their corners in the planes x and x + 1, whose samples stand one after another in storage order: so many, and
-- the one that k others stand before
abbrev pub layer_count : ℕ → ℕ
layer_count n = 2 * ((n + 1) * (n + 1))

abbrev pub layer_sample : ℕ → List Float → ℕ → ℕ → Float
layer_sample n samples x k = get_or samples (in_block n x 0 0 + k) nan

-- the next sample, where it beats the best so far; among equals the first is kept
abbrev pub better : (Float → Float → Bool) → Float → Float → Float
better beats best next = cond (beats next best) next best

-- the best of f 0, f 1, .., f (k - 1)
abbrev pub best_of : (Float → Float → Bool) → (ℕ → Float) → ℕ → Float
best_of beats f k = iterate (λ i best. better beats best (f i)) k (f 0)

-- by < alone, for which +0 and -0 are equal
abbrev pub less : Float → Float → Bool
less a b = Ieee.lt a b

abbrev pub more : Float → Float → Bool
more a b = Ieee.lt b a

unfoldable pub extent_of : (ℕ → Float) → ℕ → Extent
extent_of f k = record { least = best_of less f k; greatest = best_of more f k }

-- a layer made afresh
unfoldable pub layer_extent : ℕ → List Float → ℕ → Extent
layer_extent n samples x = extent_of (layer_sample n samples x) (layer_count n)

-- ---- a summary

-- the places of a summary with n layers, and what it tells of the layer x
abbrev pub summary_length : ℕ → ℕ
summary_length n = 2 * n

abbrev pub entry_of : List Float → ℕ → Extent
entry_of summary x = record { least = get_or summary (2 * x) nan; greatest = get_or summary (2 * x + 1) nan }

abbrev pub marked : Extent → Bool
marked e = is_nan e.least || is_nan e.greatest

-- equal in value
abbrev pub agree : Extent → Extent → Bool
agree a b = Ieee.eq a.least b.least && Ieee.eq a.greatest b.greatest

-- 26: the first unmarked layer that differs in value from one made afresh
abbrev pub layer_stands : ℕ → List Float → List Float → ℕ → Bool
layer_stands n samples summary x = marked (entry_of summary x) || agree (entry_of summary x) (layer_extent n samples x)

unfoldable pub judge_layers : ℕ → List Float → List Float → Verdict
judge_layers n samples summary = first (λ x. unless (layer_stands n samples summary x) (LayerDiffers x)) n

-- 14, 26
unfoldable pub judge_summary : ℕ → List Float → List Float → Verdict
judge_summary n samples summary = or_else (judge_buffer (summary_length n) (length summary)) (judge_layers n samples summary)

-- ---- layers passed over

-- wholly inside: the least is at or above the threshold; or wholly outside: the greatest is below it
abbrev pub one_sided : Float → Extent → Bool
one_sided threshold e = inside threshold e.least || Ieee.lt e.greatest threshold

abbrev pub passed_over : Float → List Float → ℕ → Bool
passed_over threshold summary x = not (marked (entry_of summary x)) && one_sided threshold (entry_of summary x)
