-- Document 01, 'Regular cells' and 'Transition cells': each place of the index store is one of its own part.
use Rattle.std.specs.Prelude.{ℕ, ◌+◌, ◌*◌, ◌≤◌, ◌<◌, ◌≡◌}
use Rattle.std.proofs.Common.{mul-le-mul, mul-le-mul_left, mul-add, mul_assoc, arith}
use Rattle.model.specs.Limits.{most_subdivisions, side_count}
use Rattle.model.specs.Mesh.{regular_store, store_length, regular_place, transition_place}

-- a regular cell and a reuse index
pub record RegularCell (n x y z r : ℕ) : Type 0 where
  pub few : n ≤ most_subdivisions
  pub x_in : x < n
  pub y_in : y < n
  pub z_in : z < n
  pub reuse : r < 4

-- a transition cell and a reuse index
pub record TransitionCell (n side u v r : ℕ) : Type 0 where
  pub few : n ≤ most_subdivisions
  pub side_is : side < side_count
  pub u_in : u < n
  pub v_in : v < n
  pub reuse : r < 10

-- up to the most subdivisions, neither power wraps
pub record SmallStore (n : ℕ) : Type 0 where
  pub square : n * n ≤ most_subdivisions * most_subdivisions
  pub cube : n * n * n ≤ most_subdivisions * most_subdivisions * most_subdivisions

pub small_store : (n : ℕ) → n ≤ most_subdivisions → SmallStore n
small_store n h =
    let two = mul-le-mul h h in
    record { square = two; cube = mul-le-mul two h }

-- the next part of k starts where this one of k ends
next_part : (k i : ℕ) {m : ℕ} → i < m → k * i + k ≤ k * m
next_part k i {m} h =
    let e : k * (i + 1) ≤ k * m = mul-le-mul_left k (omega arith) in
    omega (arith, mul-add k i 1)

pub regular_place_in : (n x y z r : ℕ) → RegularCell n x y z r → regular_place n x y z r < regular_store n
unfolding regular_place
regular_place_in n x y z r h =
    let row = next_part n y h.y_in in
    let layer = next_part (n * n) z h.z_in in
    let set = next_part (n * n * n) r h.reuse in
    omega arith

pub transition_place_in : (n side u v r : ℕ) → TransitionCell n side u v r → transition_place n side u v r < store_length n
unfolding transition_place
transition_place_in n side u v r h =
    let row = next_part (6 * n) v h.v_in in
    let set = next_part (6 * (n * n)) r h.reuse in
    let square : 6 * n * n ≡ 6 * (n * n) = mul_assoc 6 n n in
    omega arith
