-- A list of samples whose first places are filled, one after another. Assumes nothing.
use Rattle.std.specs.Prelude.{ℕ, ◌+◌, ◌<◌, ◌≡◌, ◌⊎◌, List, Float, length, get_or, set}
use Rattle.std.proofs.Common.{◌∙◌, inl, inr, not-suc-le-zero, eq-or-lt_of_le, le_of_suc-le-suc, add-one, arith, get_or-set_same, get_or-set_other}
use Rattle.std.specs.Float.{nan}

-- the places below k hold what f gives
pub record Filled (f : ℕ → Float) (k : ℕ) (samples : List Float) : Type 0 where
  pub sample_at : (i : ℕ) → i < k → get_or samples i nan ≡ f i

pub none_filled : (f : ℕ → Float) (samples : List Float) → Filled f 0 samples
none_filled f samples = record { sample_at = λ i h. absurd (not-suc-le-zero h) }

pub one_filled : (f : ℕ → Float) (k : ℕ) (samples : List Float) (new : Float) → k < length samples → new ≡ f k → Filled f k samples
    → Filled f (k + 1) (set samples k new)
one_filled f k samples new there e before =
    record { sample_at = λ i h. at i (eq-or-lt_of_le (le_of_suc-le-suc (rw add-one at h))) }
  where
    at : (i : ℕ) → (i ≡ k) ⊎ (i < k) → get_or (set samples k new) i nan ≡ f i
    at i (inl q) = rw (q, get_or-set_same samples k new nan there) e
    at i (inr l) = get_or-set_other samples k i new nan (λ q. omega arith) ∙ before.sample_at i l
