-- Document 01, 'The block and its samples': a block and its neighbours have few samples in all.
use Rattle.std.specs.Prelude.{ℕ, ◌+◌, ◌*◌, ◌≤◌}
use Rattle.std.proofs.Common.{mul-le-mul, arith}
use Rattle.std.specs.Int.Count.{ones}
use Rattle.std.proofs.lemmas.Nat.{ones-le}
use Rattle.model.specs.Limits.{most_subdivisions, most_fine, side_count, most_mask}
use Rattle.model.specs.Samples.{sample_length}
use Rattle.model.specs.Sides.{neighbour_length, sample_count}
use Rattle.grid.specs.Places.{small}

abbrev pub most_samples : ℕ
most_samples = (side_count + 1) * sample_length most_fine

pub count_small : (n mask : ℕ) → n ≤ most_subdivisions → mask ≤ most_mask → sample_count n mask ≤ most_samples
count_small n mask few sides =
    let one = small n (omega arith) in
    let two = small (2 * n) (omega arith) in
    let named : ones mask ≤ side_count = ones-le side_count mask (omega arith) in
    let part : neighbour_length n ≤ sample_length most_fine = omega (arith, two.square, two.cube) in
    let parts : ones mask * neighbour_length n ≤ side_count * sample_length most_fine = mul-le-mul named part in
    omega (arith, one.square, one.cube)
