-- The three corners of a triangle, sent out in their order and turned.
use Prim.Native.Nat.{ℕ, ◌+◌, ◌-◌, ◌*◌, ◌/◌, ◌%◌}
use mathlib.Core.Path.{◌≡◌}
use mathlib.Core.Bool.{true, false}
use mathlib.Core.List.{List}
use native.Mathlib.Omega.{arith}
use lib.ListN.{get_or}
use Rattle.tables.specs.Cases.{corner_of}
use Rattle.cells.specs.Rows.{row_triangle}

module _ (row index : List ℕ) (t a b c : ℕ) (at_a : a ≡ get_or index (corner_of row (3 * t)) 0)
    (at_b : b ≡ get_or index (corner_of row (3 * t + 1)) 0) (at_c : c ≡ get_or index (corner_of row (3 * t + 2)) 0) where
  pub in_order : row_triangle row false index t ≡ record { a = a; b = b; c = c }
  unfolding row_triangle
  in_order = rw (at_a, at_b, at_c)

  pub turned_round : row_triangle row true index t ≡ record { a = c; b = b; c = a }
  unfolding row_triangle
  turned_round =
      let first : 3 * (3 * t / 3) + (2 - 3 * t % 3) ≡ 3 * t + 2 = omega arith in
      let second : 3 * ((3 * t + 1) / 3) + (2 - (3 * t + 1) % 3) ≡ 3 * t + 1 = omega arith in
      let third : 3 * ((3 * t + 2) / 3) + (2 - (3 * t + 2) % 3) ≡ 3 * t = omega arith in
      rw (first, second, third, at_a, at_b, at_c)
