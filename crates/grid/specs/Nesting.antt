-- Document 02, [6]: a place by nesting, one multiply at a time. No value on the way is above the place itself, and each kind of place is what
-- its definition says.
use Rattle.std.specs.Prelude.{ℕ, ◌+◌, ◌*◌, ◌^◌, ◌≤◌, ◌<◌, ◌≡◌}
use Rattle.std.proofs.Common.{mul-le-mul_left, arith}
use Rattle.model.specs.Samples.{in_block, on_face}
use Rattle.model.specs.Mesh.{regular_place, transition_place}

-- the place whose parts are a, b and c, from the slowest on, where b and c run through m
abbrev pub nested : ℕ → ℕ → ℕ → ℕ → ℕ
nested m a b c = (a * m + b) * m + c

-- each value on the way to a nested place is at most that place
pub record OnTheWay (m a b c : ℕ) : Type 0 where
  pub part : a ≤ nested m a b c
  pub product : a * m ≤ nested m a b c
  pub sum : a * m + b ≤ nested m a b c
  pub product_of_sum : (a * m + b) * m ≤ nested m a b c

pub on_the_way : (m a b c : ℕ) → 1 ≤ m → OnTheWay m a b c
on_the_way m a b c h =
    let one : a * 1 ≤ a * m = mul-le-mul_left a h in
    let two : (a * m + b) * 1 ≤ (a * m + b) * m = mul-le-mul_left (a * m + b) h in
    omega (arith, one, two)

-- so the place alone has to fit
pub record Nests (m a b c : ℕ) : Type 0 where
  pub some : 1 ≤ m
  pub fits : nested m a b c < 2 ^ 64

-- ---- the kinds of place

pub in_block_nested : (n x y z : ℕ) → nested (n + 1) x y z ≡ in_block n x y z
in_block_nested n x y z = omega arith

-- the parts of a place in the block as digits, of which z is the last
pub in_block_digits : (n x y z : ℕ) → in_block n x y z ≡ (n + 1) * ((n + 1) * x + y) + z
in_block_digits n x y z = omega arith

pub on_face_nested : (n face i j : ℕ) → nested (n + 1) (n + 1 + face) i j ≡ on_face n face i j
on_face_nested n face i j = omega arith

pub regular_nested : (n x y z r : ℕ) → nested n (n * r + z) y x ≡ regular_place n x y z r
unfolding regular_place
regular_nested n x y z r = omega arith

-- the places of the regular cells, 4 * (n * n * n), are nested too
pub transition_nested : (n side u v r : ℕ) → nested n (4 * n + 6 * r) (6 * v) (6 * u + side) ≡ transition_place n side u v r
unfolding transition_place
transition_nested n side u v r = omega arith
