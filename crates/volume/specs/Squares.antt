-- Document 02, [8]: the centre's places as n + 7 squares, and the point of each. The model's `in_block` is the place at (i, j) of a square, also where the
-- square is a face's. Assumes nothing.
use Rattle.std.specs.Prelude.{ℕ, zero, suc, ◌+◌, ◌-◌, ◌*◌, ◌/◌, ◌%◌, ◌≤◌, ◌<◌, ◌≡◌, refl}
use Rattle.std.proofs.Common.{mul-add, mul-le-mul_left, mod-lt, ap, ◌∙◌, le-leb}
use Rattle.std.proofs.Math.Nat.{div-add-mod}
use Rattle.std.proofs.Math.Decide.{dec_le, dec_lt}
use native.Mathlib.Omega.{arith}
use Rattle.std.proofs.lemmas.Bool.{lt-leb}
use Rattle.laws.specs.Iterated.{upper, lower}
use Rattle.model.specs.Samples.{sample_length, in_block}
use Rattle.model.specs.Rotations.{xyz}
use Rattle.grid.specs.Nesting.{in_block_digits}
use Rattle.volume.specs.Definition.{point_beside, point_on, point_of}
use Rattle.volume.specs.Known.{Near}

-- ---- a place is a square and two coordinates

module _ (n : ℕ) where
  abbrev m : ℕ
  m = n + 1

  pub point_at : (square i j : ℕ) → i ≤ n → j ≤ n → point_of n (in_block n square i j) ≡ point_on n square i j
  point_at square i j hi hj =
      let line : (m * (m * square + i) + j) / m ≡ m * square + i = upper m (m * square + i) j (omega arith) in
      let s : in_block n square i j / m / m ≡ square =
      ap (λ (k : ℕ). k / m / m) (in_block_digits n square i j) ∙ ap (λ (k : ℕ). k / m) line ∙ upper m square i (omega arith) in
      let a : in_block n square i j / m % m ≡ i =
      ap (λ (k : ℕ). k / m % m) (in_block_digits n square i j) ∙ ap (λ (k : ℕ). k % m) line ∙ lower m square i (omega arith) in
      let b : in_block n square i j % m ≡ j = ap (λ (k : ℕ). k % m) (in_block_digits n square i j) ∙ lower m (m * square + i) j (omega arith) in
      λ t. point_on n (s t) (a t) (b t)

  -- a place lies in a square
  pub record InSquare (place : ℕ) : Type 0 where
    pub below : place / m / m < n + 7
    pub row : place / m % m ≤ n
    pub column : place % m ≤ n
    pub is : in_block n (place / m / m) (place / m % m) (place % m) ≡ place

  pub square_in : (s i j : ℕ) → i ≤ n → j ≤ n → s < n + 7 → in_block n s i j < sample_length n
  square_in s i j hi hj hs =
      let rows : m * (i + 1) ≤ m * m = mul-le-mul_left m (omega arith) in
      let squares : m * m * (s + 1) ≤ m * m * (n + 7) = mul-le-mul_left (m * m) (omega arith) in
      omega (arith, mul-add m i 1, mul-add (m * m) s 1, mul-add (m * m) m 6)

  pub in_square : (place : ℕ) → place < sample_length n → InSquare place
  in_square place h =
      let s = place / m / m in
      let lines = div-add-mod place m in
      let squares = div-add-mod (place / m) m in
      let i : place / m % m < m = mod-lt (place / m) (omega arith) in
      let j : place % m < m = mod-lt place (omega arith) in
      let back : in_block n s (place / m % m) (place % m) ≡ place =
      in_block_digits n s (place / m % m) (place % m) ∙ ap (λ (k : ℕ). m * k + place % m) squares ∙ lines in
      record { below = below (dec_lt s (n + 7)) back; row = omega arith; column = omega arith; is = back }
    where
      below : Dec (place / m / m < n + 7) → in_block n (place / m / m) (place / m % m) (place % m) ≡ place → place / m / m < n + 7
      below (yes l) e = l
      below (no l) e =
          let many : m * m * (n + 7) ≤ m * m * (place / m / m) = mul-le-mul_left (m * m) (omega arith) in
          absurd (omega (arith, mul-add (m * m) m 6))

-- ---- the point at (i, j) of a square

module _ (n i j : ℕ) where
  pub point_block : (square : ℕ) → square ≤ n → point_on n square i j ≡ xyz (square + 1) (i + 1) (j + 1)
  unfolding point_on
  point_block square h = simp (le-leb square n h)

  pub point_beside_lem : (square face : ℕ) → square ≡ n + 1 + face → point_on n square i j ≡ point_beside n face i j
  unfolding point_on
  point_beside_lem square face e =
      let out : square - (n + 1) ≡ face = omega arith in
      simp (lt-leb square n (omega arith)) (ap (λ (k : ℕ). point_beside n k i j) out)

  pub beside_last : (face : ℕ) → 5 ≤ face → point_beside n face i j ≡ xyz (i + 1) (j + 1) (n + 2)
  beside_last zero h = absurd (omega arith)
  beside_last (suc zero) h = absurd (omega arith)
  beside_last (suc (suc zero)) h = absurd (omega arith)
  beside_last (suc (suc (suc zero))) h = absurd (omega arith)
  beside_last (suc (suc (suc (suc zero)))) h = absurd (omega arith)
  beside_last (suc (suc (suc (suc (suc face))))) h = refl

  module _ (hi : i ≤ n) (hj : j ≤ n) where
    beside_near : (face : ℕ) → Near n (point_beside n face i j)
    beside_near zero = omega arith
    beside_near (suc zero) = omega arith
    beside_near (suc (suc zero)) = omega arith
    beside_near (suc (suc (suc zero))) = omega arith
    beside_near (suc (suc (suc (suc zero)))) = omega arith
    beside_near (suc (suc (suc (suc (suc face))))) = omega arith

    pub point_near : (square : ℕ) → Near n (point_on n square i j)
    point_near square = go (dec_le square n)
      where
        go : Dec (square ≤ n) → Near n (point_on n square i j)
        go (yes h) = rw (point_block square h) (omega arith)
        go (no h) = rw (point_beside_lem square (square - (n + 1)) (omega arith)) (beside_near (square - (n + 1)))
