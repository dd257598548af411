-- The parts of the neighbour list that a mask names are few samples in all.
use Prim.Native.Nat.{ℕ, ◌*◌, ◌≤◌}
use native.Mathlib.Nat.{mul-le-mul_right}
use native.Mathlib.Omega.{arith}
use lib.Count.{ones, ones-le}
use Rattle.model.specs.Limits.{most_subdivisions, side_count, most_mask}
use Rattle.model.specs.Sides.{neighbour_length}
use Rattle.grid.specs.Counts.{most_samples, count_small}

module _ (n mask : ℕ) (few : n ≤ most_subdivisions) (sides : mask ≤ most_mask) where
  pub parts_small : {k : ℕ} → k ≤ ones mask → k * neighbour_length n ≤ most_samples
  parts_small h = omega (arith, mul-le-mul_right (neighbour_length n) h, count_small n mask few sides)

  pub named_few : ones mask ≤ side_count
  named_few = ones-le side_count mask (omega arith)
