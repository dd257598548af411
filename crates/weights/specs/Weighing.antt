-- How large a sample and the threshold may be where a weight is computed. A definition only.
use Rattle.std.specs.Prelude.{ℕ}
use Rattle.model.specs.Limits.{most_size}

-- what 3 and 7 let the threshold and a sample be at most
abbrev pub sample_limit : ℕ
sample_limit = most_size
