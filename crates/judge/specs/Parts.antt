-- The parts that a judge is worked out in. Definitions only.
use Rattle.std.specs.Prelude.{ℕ}
use Rattle.model.specs.declared.Vector.{Vector}
use Rattle.model.specs.Answers.{Verdict}
use Rattle.model.specs.declared.Refusal.TheVariants.{Measure}
use Rattle.model.specs.Refusals.{unless, or_else}
use Rattle.model.specs.Judging.{usable, judge_subdivisions, judge_mask, judge_centre, judge_missing, judge_too_long}

-- the base's part of 3
abbrev pub judge_base : Vector → Verdict
judge_base base =
    or_else (or_else (unless (usable base.x) (Measure 0)) (unless (usable base.y) (Measure 1)))
    (unless (usable base.z) (Measure 2))

-- 1 and 2
abbrev pub judge_kind : ℕ → ℕ → Verdict
judge_kind n mask = or_else (judge_subdivisions n) (judge_mask mask)

-- 4 to 6
abbrev pub judge_lengths : ℕ → ℕ → ℕ → ℕ → Verdict
judge_lengths n mask centre neighbours =
    or_else (judge_centre n centre) (or_else (judge_missing n mask neighbours) (judge_too_long n mask neighbours))
