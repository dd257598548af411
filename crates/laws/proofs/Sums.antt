-- How a sum over a cube of cells comes down to its border. Knows nothing of meshes.
use Rattle.std.specs.Prelude.{◌≡◌, refl, ℕ, zero, suc, ◌+◌, ◌-◌, ◌<◌}
use native.Mathlib.Omega.{arith}
use Rattle.laws.specs.Steps.{total}
use Rattle.laws.specs.Sums.{square, cube, telescope, border}

-- ---- over a square and a cube of cells

total_five : (f a b c d : ℕ → ℕ) (n : ℕ)
    → total (λ k. f k + (a k + b k) + (c k + d k)) n ≡ total f n + (total a n + total b n) + (total c n + total d n)
total_five f a b c d zero = refl
total_five f a b c d (suc n) = omega (arith, total_five f a b c d n)

-- f and g differ in each cell by what a and b say of its six faces: over the cube, by what they say of the border
module _ (f g : ℕ → ℕ → ℕ → ℕ) (a b : ℕ → ℕ → ℕ → ℕ → ℕ) (n : ℕ)
    (cell : (x y z : ℕ) → x < n → y < n → z < n
    → f x y z + (a 0 (suc x) y z + b 0 x y z) + (a 1 x (suc y) z + b 1 x y z) + (a 2 x y (suc z) + b 2 x y z)
    ≡ g x y z + (b 0 (suc x) y z + a 0 x y z) + (b 1 x (suc y) z + a 1 x y z) + (b 2 x y (suc z) + a 2 x y z)) where
  row : (ℕ → ℕ → ℕ → ℕ) → ℕ → ℕ → ℕ
  row h x y = total (h x y) n

  in_row : (x y : ℕ) → x < n → y < n
      → row f x y + (row (a 0) (suc x) y + row (b 0) x y) + (row (a 1) x (suc y) + row (b 1) x y) + (a 2 x y n + b 2 x y 0)
      ≡ row g x y + (row (b 0) (suc x) y + row (a 0) x y) + (row (b 1) x (suc y) + row (a 1) x y) + (b 2 x y n + a 2 x y 0)
  unfolding row
  in_row x y hx hy =
      omega (
        arith,
        telescope
            (λ z. f x y z + (a 0 (suc x) y z + b 0 x y z) + (a 1 x (suc y) z + b 1 x y z))
            (λ z. g x y z + (b 0 (suc x) y z + a 0 x y z) + (b 1 x (suc y) z + a 1 x y z))
            (a 2 x y) (b 2 x y) n (λ z hz. omega (arith, cell x y z hx hy hz)),
        total_five (f x y) (a 0 (suc x) y) (b 0 x y) (a 1 x (suc y)) (b 1 x y) n,
        total_five (g x y) (b 0 (suc x) y) (a 0 x y) (b 1 x (suc y)) (a 1 x y) n,
      )

  slice : (ℕ → ℕ → ℕ → ℕ) → ℕ → ℕ
  slice h x = square (h x) n

  in_slice : (x : ℕ) → x < n
      → slice f x + (slice (a 0) (suc x) + slice (b 0) x) + (row (a 1) x n + row (b 1) x 0)
      + (total (λ y. a 2 x y n) n + total (λ y. b 2 x y 0) n)
      ≡ slice g x + (slice (b 0) (suc x) + slice (a 0) x) + (row (b 1) x n + row (a 1) x 0)
      + (total (λ y. b 2 x y n) n + total (λ y. a 2 x y 0) n)
  unfolding row slice
  in_slice x hx =
      omega (
        arith,
        telescope
            (λ y. row f x y + (row (a 0) (suc x) y + row (b 0) x y) + (a 2 x y n + b 2 x y 0))
            (λ y. row g x y + (row (b 0) (suc x) y + row (a 0) x y) + (b 2 x y n + a 2 x y 0))
            (row (a 1) x) (row (b 1) x) n (λ y hy. omega (arith, in_row x y hx hy)),
        total_five (row f x) (row (a 0) (suc x)) (row (b 0) x) (λ y. a 2 x y n) (λ y. b 2 x y 0) n,
        total_five (row g x) (row (b 0) (suc x)) (row (a 0) x) (λ y. b 2 x y n) (λ y. a 2 x y 0) n,
      )

  pub telescope_cube : cube f n + border a b n ≡ cube g n + border b a n
  unfolding row slice
  telescope_cube =
      omega (
        arith,
        telescope
            (λ x. slice f x + (row (a 1) x n + row (b 1) x 0) + (total (λ y. a 2 x y n) n + total (λ y. b 2 x y 0) n))
            (λ x. slice g x + (row (b 1) x n + row (a 1) x 0) + (total (λ y. b 2 x y n) n + total (λ y. a 2 x y 0) n))
            (slice (a 0)) (slice (b 0)) n (λ x hx. omega (arith, in_slice x hx)),
        total_five (slice f) (λ x. row (a 1) x n) (λ x. row (b 1) x 0) (λ x. total (λ y. a 2 x y n) n) (λ x. total (λ y. b 2 x y 0) n) n,
        total_five (slice g) (λ x. row (b 1) x n) (λ x. row (a 1) x 0) (λ x. total (λ y. b 2 x y n) n) (λ x. total (λ y. a 2 x y 0) n) n,
      )
