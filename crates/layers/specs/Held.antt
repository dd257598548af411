-- What the functions below the judges of [12] may ask: a block's samples are as many as 4 says, and 7 has found none that is a NaN.
use Rattle.std.specs.Prelude.{ℕ, ◌+◌, ◌≤◌, ◌<◌, ◌≡◌, false, List, ◌++◌, Float, length, get_or, Ok}
use Rattle.std.proofs.Common.{arith, length-append}
use Rattle.std.specs.Float.{nan}
use Rattle.std.specs.Float.Ieee.{is_nan}
use Rattle.std.specs.Float.Ieee.Bits.{is_false}
use Rattle.std.proofs.Math.ListN.{get_or-append}
use Rattle.model.specs.Limits.{most_subdivisions}
use Rattle.model.specs.Samples.{sample_length}
use Rattle.model.specs.Judging.{judge_samples}
use Rattle.judge.specs.Usable.{usable_number, samples_usable}

pub record Held (n : ℕ) (samples : List Float) : Type 0 where
  pub few : n ≤ most_subdivisions
  pub long : length samples ≡ sample_length n

abbrev pub AllNumbers : List Float → Type 0
AllNumbers samples = (k : ℕ) → k < length samples → is_nan (get_or samples k nan) ≡ false

-- the samples from a place on
abbrev pub samples_from : List Float → ℕ → ℕ → Float
samples_from samples from k = get_or samples (from + k) nan

-- 7 lets numbers pass alone
pub all_numbers : (samples : List Float) → judge_samples samples ≡ Ok tt → AllNumbers samples
all_numbers samples e k h = is_false _ (usable_number (get_or samples k nan) (samples_usable samples k e h))

-- also of a list that others stand after
pub first_numbers : (samples after : List Float) → judge_samples (samples ++ after) ≡ Ok tt → AllNumbers samples
first_numbers samples after e k h =
    let there : k < length (samples ++ after) = rw length-append (omega arith) in
    rw (get_or-append samples after nan k h) at (all_numbers (samples ++ after) e k there)
