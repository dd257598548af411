-- Document 01, 'Answers by number': a block that 1, 2, 4, 5 and 6 do not refuse, which is what every function below the judges may
-- ask of its block.
use Rattle.std.specs.Prelude.{◌≤◌, ◌≡◌, length}
use Rattle.model.specs.Limits.{most_subdivisions, most_mask}
use Rattle.model.specs.Samples.{sample_length}
use Rattle.model.specs.Sides.{neighbours_length}
use Rattle.model.specs.Star.{Star, subdivisions}

pub record Shaped (s : Star) : Type 0 where
  pub some : 1 ≤ subdivisions s
  pub few : subdivisions s ≤ most_subdivisions
  pub sides : s.mask ≤ most_mask
  pub centre_is : length s.centre ≡ sample_length (subdivisions s)
  pub neighbours_are : length s.neighbours ≡ neighbours_length (subdivisions s) s.mask
