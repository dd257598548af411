-- What was promised of places holds: a number is at most itself times one that is not 0, and multiplied out the nests are the model's places.
use Rattle.std.specs.Prelude.{ℕ, ◌+◌, ◌*◌, ◌≤◌, [], ◌∷◌}
use Rattle.std.proofs.Common.{arith}
use Rattle.model.specs.Samples.{in_block, on_face}
use Rattle.model.specs.Mesh.{regular_place, transition_place}
use Rattle.grid.specs.Nesting.{on_the_way, in_block_nested, on_face_nested, regular_nested, transition_nested}
use Rattle.grid.specs.OnTheWalk.{row_sizes, spot_sizes}
use Rattle.promises.specs.Nesting.{Nested, NestingPromises}

in_block_lem : (n x y z : ℕ) → Nested (n + 1) x y z [] (in_block n x y z)
in_block_lem n x y z =
    let e = in_block_nested n x y z in
    record { is = e; way = omega (arith, e, on_the_way (n + 1) x y z (omega arith)) }

on_face_lem : (n face i j : ℕ) → Nested (n + 1) (n + 1 + face) i j ((n + 1 + face) ∷ []) (on_face n face i j)
on_face_lem n face i j =
    let e = on_face_nested n face i j in
    record { is = e; way = omega (arith, e, on_the_way (n + 1) (n + 1 + face) i j (omega arith)) }

regular : (n x y z r : ℕ) → 1 ≤ n → Nested n (n * r + z) y x (n * r ∷ (n * r + z) ∷ []) (regular_place n x y z r)
regular n x y z r some =
    let e = regular_nested n x y z r in
    record { is = e; way = omega (arith, e, on_the_way n (n * r + z) y x some) }

transition : (n side u v r : ℕ) → 1 ≤ n
    → Nested n (4 * n + 6 * r) (6 * v) (6 * u + side) (4 * n ∷ 6 * r ∷ (4 * n + 6 * r) ∷ 6 * v ∷ 6 * u ∷ (6 * u + side) ∷ []) (transition_place n side u v r)
transition n side u v r some =
    let e = transition_nested n side u v r in
    record { is = e; way = omega (arith, e, on_the_way n (4 * n + 6 * r) (6 * v) (6 * u + side) some) }

pub nesting_kept : NestingPromises
nesting_kept =
    record {
      places = record { in_block_lem = in_block_lem; on_face_lem = on_face_lem; regular = regular; transition = transition };
      steps = record {
        along_x = λ n x y z. omega arith;
        along_y = λ n x y z. omega arith;
        along_z = λ n x y z. omega arith;
        row = row_sizes;
        spot = spot_sizes;
      };
    }
