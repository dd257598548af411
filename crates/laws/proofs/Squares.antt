-- How a sum over a square of cells comes down to the square's rim. Knows nothing of meshes.
use Rattle.std.specs.Prelude.{◌≡◌, ℕ, suc, ◌+◌, ◌-◌, ◌<◌}
use Rattle.std.proofs.Common.{arith}
use Rattle.laws.specs.Steps.{total}
use Rattle.laws.specs.Sums.{telescope, square}
use Rattle.laws.specs.Squares.{total_three, rim}

-- f and g differ in each cell by what a and b say of its four borders: over the square, by what they say of the rim
module _ (f g : ℕ → ℕ → ℕ) (a b : ℕ → ℕ → ℕ → ℕ) (n : ℕ)
    (cell : (u v : ℕ) → u < n → v < n
    → f u v + (a 0 (suc u) v + b 0 u v) + (a 1 u (suc v) + b 1 u v)
    ≡ g u v + (b 0 (suc u) v + a 0 u v) + (b 1 u (suc v) + a 1 u v)) where
  in_row : (u : ℕ) → u < n
      → total (f u) n + (total (a 0 (suc u)) n + total (b 0 u) n) + (a 1 u n + b 1 u 0)
      ≡ total (g u) n + (total (b 0 (suc u)) n + total (a 0 u) n) + (b 1 u n + a 1 u 0)
  in_row u hu =
      omega (
        arith,
        telescope (λ v. f u v + (a 0 (suc u) v + b 0 u v)) (λ v. g u v + (b 0 (suc u) v + a 0 u v)) (a 1 u) (b 1 u) n
            (λ v hv. omega (arith, cell u v hu hv)),
        total_three (f u) (a 0 (suc u)) (b 0 u) n,
        total_three (g u) (b 0 (suc u)) (a 0 u) n,
      )

  pub telescope_square : square f n + rim a b n ≡ square g n + rim b a n
  telescope_square =
      omega (
        arith,
        telescope (λ u. total (f u) n + (a 1 u n + b 1 u 0)) (λ u. total (g u) n + (b 1 u n + a 1 u 0))
            (λ u. total (a 0 u) n) (λ u. total (b 0 u) n) n (λ u hu. omega (arith, in_row u hu)),
        total_three (λ u. total (f u) n) (λ u. a 1 u n) (λ u. b 1 u 0) n,
        total_three (λ u. total (g u) n) (λ u. b 1 u n) (λ u. a 1 u 0) n,
      )
