-- Sums over a square of cells, its rim, and the square turned over. Knows nothing of meshes.
use Rattle.std.specs.Prelude.{◌≡◌, refl, ℕ, zero, suc, ◌+◌, ◌-◌, ◌<◌}
use Rattle.std.proofs.Common.{sym, ap, arith}
use Rattle.laws.specs.Steps.{total}
use Rattle.laws.specs.Sums.{total_same, total_none, square}

pub total_two : (f a : ℕ → ℕ) (n : ℕ) → total (λ k. f k + a k) n ≡ total f n + total a n
total_two f a zero = refl
total_two f a (suc n) = omega (arith, total_two f a n)

pub total_three : (f a b : ℕ → ℕ) (n : ℕ) → total (λ k. f k + (a k + b k)) n ≡ total f n + (total a n + total b n)
total_three f a b n = omega (arith, total_two f (λ k. a k + b k) n, total_two a b n)

pub square_same : (f g : ℕ → ℕ → ℕ) (n : ℕ) → ((u v : ℕ) → u < n → v < n → f u v ≡ g u v) → square f n ≡ square g n
square_same f g n h = total_same _ _ n (λ u hu. total_same (f u) (g u) n (λ v hv. h u v hu hv))

pub square_three : (f a b : ℕ → ℕ → ℕ) (n : ℕ) → square (λ u v. f u v + (a u v + b u v)) n ≡ square f n + (square a n + square b n)
square_three f a b n =
    omega (
      arith,
      total_same _ _ n (λ u hu. total_three (f u) (a u) (b u) n),
      total_three (λ u. total (f u) n) (λ u. total (a u) n) (λ u. total (b u) n) n,
    )

-- ---- down to the rim

-- what a says of the high rims of the square and b of its low rims, where a d u v is of the border at (u, v) across direction d
abbrev pub rim : (a b : ℕ → ℕ → ℕ → ℕ) → ℕ → ℕ
rim a b n = total (a 0 n) n + total (b 0 0) n + (total (λ u. a 1 u n) n + total (λ u. b 1 u 0) n)

-- ---- turned round, and turned over

pub total_first : (f : ℕ → ℕ) (n : ℕ) → total f (suc n) ≡ f 0 + total (λ k. f (suc k)) n
total_first f zero = omega arith
total_first f (suc n) = omega (arith, total_first f n)

less_one : (n k : ℕ) → k < n → suc n - suc k ≡ suc (n - suc k)
less_one n k h = omega arith

none_left : (n : ℕ) → suc n - suc n ≡ 0
none_left n = omega arith

pub total_reverse : (f : ℕ → ℕ) (n : ℕ) → total (λ k. f (n - suc k)) n ≡ total f n
total_reverse f zero = refl
total_reverse f (suc n) =
    let before : total (λ k. f (suc n - suc k)) n ≡ total (λ k. f (suc (n - suc k))) n = total_same _ _ n (λ k l. ap f (less_one n k l)) in
    omega (arith, total_first f n, total_reverse (λ k. f (suc k)) n, ap f (none_left n))

total_swap : (f : ℕ → ℕ → ℕ) (m n : ℕ) → total (λ u. total (f u) n) m ≡ total (λ v. total (λ u. f u v) m) n
total_swap f zero n = sym (total_none (λ v. 0) n (λ k l. refl))
total_swap f (suc m) n = omega (arith, total_swap f m n, total_two (λ v. total (λ u. f u v) m) (f m) n)

pub square_swap : (f : ℕ → ℕ → ℕ) (n : ℕ) → square f n ≡ square (λ v u. f u v) n
square_swap f n = total_swap f n n
