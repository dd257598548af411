-- `grid::transition_sides::sample_count` meets its contract: the centre's samples and at most six neighbours' are few.
use Prim.Native.Nat.{◌+◌, ◌*◌, ◌≤◌}
use mathlib.Core.Path.{◌≡◌, ap₂}
use native.Mathlib.Omega.{arith}
use Rattle.model.specs.Sides.{sample_count}
use Rattle.grid.specs.Counts.{most_samples, count_small}
use Rattle.grid.proofs.transition_sides.sample_count.Goals as goal
use Rattle.grid.proofs.transition_sides.sample_count.Goals.{After-sample_length-2}

-- what is worked out, and that it is small
counted : (c : After-sample_length-2) → (c.sample_length.result + c.count.result * c.sample_length-2.result ≡ sample_count c.args.n c.args.mask)
    × (c.sample_length.result + c.count.result * c.sample_length-2.result ≤ most_samples)
counted c =
    let is = ap₂ ◌+◌ c.sample_length.ensures (ap₂ ◌*◌ c.count.ensures c.sample_length-2.ensures) in
    (is, rw is (count_small c.args.n c.args.mask c.requires.0 c.requires.1))

pub overflow_mul-result : goal.overflow_mul-result
overflow_mul-result c = omega (arith, counted c)

pub overflow_add-result : goal.overflow_add-result
overflow_add-result c = omega (arith, counted c)

pub returns : goal.returns
returns c = counted c
