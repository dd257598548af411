-- A fact of each number below a limit, from one proof for each.
use Prim.Native.Nat.{ℕ, zero, suc, ◌<◌}
use native.Mathlib.Omega.{arith}

abbrev pub Each : (ℕ → Type 0) → ℕ → Type 0
Each P zero = Unit {0}
Each P (suc n) = P 0 × Each (λ k. P (suc k)) n

pub each_at : (P : ℕ → Type 0) (n : ℕ) → Each P n → (k : ℕ) → k < n → P k
each_at P zero all k h = absurd (let x : ⊥ = omega arith in x)
each_at P (suc n) all zero h = all.0
each_at P (suc n) all (suc k) h = each_at (λ k. P (suc k)) n all.1 k (omega arith)
