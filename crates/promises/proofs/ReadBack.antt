-- A lent buffer whose first places are laid, read back.
use Rattle.std.specs.Prelude.{ℕ, ◌≤◌, ◌≡◌, List, length, drop}
use Rattle.std.proofs.Common.{arith, ap, ◌∙◌, take_at, drop_at}
use Rattle.laws.specs.Steps.{laid}
use Rattle.laws.specs.Lists.{length_laid}
use Rattle.promises.specs.Left.{Laid}

pub is_laid : {A : Type 0} (k : ℕ) (written before : List A) → length written ≡ k → k ≤ length before → Laid k written before (laid written before)
is_laid k written before e room =
    record {
      long = e;
      first = take_at written _ k e;
      beyond = drop_at written _ k e ∙ ap (λ (j : ℕ). drop j before) e;
      as_long = length_laid written before (omega arith);
    }
