-- Document 01, 'The block and its samples': the place of each point that was sampled is one of the block's, an in-block point's place
-- is one sum, and the points one step from an in-block point were sampled.
use Rattle.std.specs.Prelude.{ℕ, zero, suc, ◌+◌, ◌-◌, ◌*◌, ◌≤◌, ◌<◌, ◌≡◌, refl, Bool, true, false, cond, List, eqb, leb, Float, get_or}
use Rattle.std.proofs.Common.{ap, ◌∙◌, mul-le-mul, mul-le-mul_left, mul-add, arith}
use Rattle.std.specs.Float.{nan}
use borrow.Author.Tests.{le-leb, eq-eqb, ne_eqb, leb-true, leb-false, eqb-true, eqb-false}
use Rattle.model.specs.Limits.{most_fine, side_count}
use Rattle.model.specs.declared.Xyz.{Xyz}
use Rattle.model.specs.Samples.{sample_length, in_block, on_face, place_of, outside, sampled, reading_at, value_at, sample_of}

-- a point of the block
pub record Within (n : ℕ) (p : Xyz) : Type 0 where
  pub x_in : p.x ≤ n
  pub y_in : p.y ≤ n
  pub z_in : p.z ≤ n

-- ---- places in range

-- up to the most subdivisions that a neighbour has, neither power wraps
pub record Small (n : ℕ) : Type 0 where
  pub square : (n + 1) * (n + 1) ≤ (most_fine + 1) * (most_fine + 1)
  pub cube : (n + 1) * (n + 1) * (n + 1) ≤ (most_fine + 1) * (most_fine + 1) * (most_fine + 1)

pub small : (n : ℕ) → n ≤ most_fine → Small n
small n h =
    let one : n + 1 ≤ most_fine + 1 = omega arith in
    let two = mul-le-mul one one in
    record { square = two; cube = mul-le-mul two one }

-- a row and a column below m
pub in_grid : {x y m : ℕ} → x < m → y < m → m * x + y < m * m
in_grid {x} {y} {m} hx hy =
    let e : m * (x + 1) ≤ m * m = mul-le-mul_left m (omega arith) in
    omega (arith, mul-add m x 1)

module _ (n : ℕ) where
  pub in_block_lem : (x y z : ℕ) → x ≤ n → y ≤ n → z ≤ n → in_block n x y z < (n + 1) * (n + 1) * (n + 1)
  in_block_lem x y z hx hy hz =
      let m = n + 1 in
      let row : m * y + z < m * m = in_grid (omega arith) (omega arith) in
      let layer : m * m * (x + 1) ≤ m * m * m = mul-le-mul_left (m * m) (omega arith) in
      omega (arith, mul-add (m * m) x 1)

  pub on_face_lem : (face i j : ℕ) → face < side_count → i ≤ n → j ≤ n → on_face n face i j < sample_length n
  on_face_lem face i j hf hi hj =
      let m = n + 1 in
      let row : m * i + j < m * m = in_grid (omega arith) (omega arith) in
      let faces : m * m * (face + 1) ≤ m * m * 6 = mul-le-mul_left (m * m) (omega arith) in
      omega (arith, mul-add (m * m) face 1)

-- ---- a coordinate, kept one up

-- it is one of 0..n
pub record Inner (n c : ℕ) : Type 0 where
  pub low : 1 ≤ c
  pub high : c ≤ n + 1

pub inner_le : {n c : ℕ} → Inner n c → c - 1 ≤ n
inner_le h = omega arith

module _ {A : Type 0} (P : A → Type 0) where
  -- what each arm has, by its test
  by_test : (b : Bool) {p q : A} → (b ≡ true → P p) → (b ≡ false → P q) → P (cond b p q)
  by_test true f g = f refl
  by_test false f g = g refl

module _ (n c : ℕ) where
  -- the four cases of a coordinate: -1, one of 0..n, n + 1, and all that is farther
  pub outside_by : (P : ℕ → Type 0) → (c ≡ 0 → P 1) → (Inner n c → P 0) → (c ≡ n + 2 → P 1) → (n + 2 < c → P 2) → P (outside n c)
  unfolding outside
  outside_by P low in_range high far =
      by_test P (eqb c 0) (λ e. low (eqb-true c 0 e))
      (λ e₀. by_test P (leb c (n + 1)) (λ e. let not_low = eqb-false c 0 e₀ in in_range (record { low = omega arith; high = leb-true c (n + 1) e }))
      (λ e₁. by_test P (eqb c (n + 2)) (λ e. high (eqb-true c (n + 2) e))
      (λ e₂. let above = leb-false c (n + 1) e₁ in let not-high = eqb-false c (n + 2) e₂ in far (omega arith))))

  pub inner_not_outside : Inner n c → outside n c ≡ 0
  inner_not_outside =
      outside_by (λ o. Inner n c → o ≡ 0) (λ h i. omega arith) (λ h i. refl) (λ h i. omega arith) (λ h i. omega arith)

  pub not_outside_inner : outside n c ≡ 0 → Inner n c
  not_outside_inner =
      outside_by (λ o. o ≡ 0 → Inner n c) (λ h e. omega arith) (λ h e. h) (λ h e. omega arith) (λ h e. omega arith)

  pub near_outside : c ≤ n + 2 → outside n c ≤ 1
  near_outside =
      outside_by (λ o. c ≤ n + 2 → o ≤ 1) (λ h e. omega arith) (λ h e. omega arith) (λ h e. omega arith) (λ h e. omega arith)

-- a grid point's coordinate, kept one up
pub here_not_outside : (n c : ℕ) → c ≤ n → outside n (c + 1) ≡ 0
here_not_outside n c h = inner_not_outside n (c + 1) (omega arith)

-- ---- a place, axis by axis

-- the point (i, j), kept one up, of a face across the axis of c: low is the number of the lower of the two faces
abbrev pub across_of : ℕ → ℕ → ℕ → ℕ → ℕ → ℕ
across_of n low c i j = cond (eqb c 0) (on_face n low (i - 1) (j - 1)) (on_face n (low + 1) (i - 1) (j - 1))

across_in : (n low c i j : ℕ) → low + 1 < side_count → Inner n i → Inner n j → across_of n low c i j < sample_length n
across_in n low c i j h hi hj =
    by_test (λ k. k < sample_length n) (eqb c 0) (λ e. on_face_lem n low (i - 1) (j - 1) (omega arith) (inner_le hi) (inner_le hj))
    (λ e. on_face_lem n (low + 1) (i - 1) (j - 1) (omega arith) (inner_le hi) (inner_le hj))

module _ {A : Type 0} (n c : ℕ) (low high rest : A) where
  -- one axis of `place_of`, or of `kind_of`: a coordinate one step outside picks a face, and one that is not outside leaves the other axes
  pub out_picks : outside n c ≡ 1 → cond (eqb c 0) low (cond (eqb c (n + 2)) high rest) ≡ cond (eqb c 0) low high
  out_picks =
      outside_by n c (λ o. o ≡ 1 → cond (eqb c 0) low (cond (eqb c (n + 2)) high rest) ≡ cond (eqb c 0) low high)
      (λ e o. simp (eq-eqb c 0 e)) (λ h o. absurd (omega arith)) (λ e o. simp (eq-eqb c (n + 2) e)) (λ h o. absurd (omega arith))

  pub in_leaves : outside n c ≡ 0 → cond (eqb c 0) low (cond (eqb c (n + 2)) high rest) ≡ rest
  in_leaves e =
      let h = not_outside_inner n c e in
      simp (ne_eqb c 0 (λ z. omega arith), ne_eqb c (n + 2) (λ z. omega arith))

module _ (n x y z : ℕ) where
  pub place_across_x : outside n x ≡ 1 → place_of n x y z ≡ across_of n 0 x y z
  unfolding place_of
  place_across_x ex = out_picks n x _ _ _ ex

  pub place_across_y : outside n x ≡ 0 → outside n y ≡ 1 → place_of n x y z ≡ across_of n 2 y x z
  unfolding place_of
  place_across_y ex ey = in_leaves n x _ _ _ ex ∙ out_picks n y _ _ _ ey

  pub place_across_z : outside n x ≡ 0 → outside n y ≡ 0 → outside n z ≡ 1 → place_of n x y z ≡ across_of n 4 z x y
  unfolding place_of
  place_across_z ex ey ez = in_leaves n x _ _ _ ex ∙ in_leaves n y _ _ _ ey ∙ out_picks n z _ _ _ ez

  pub place_inner : outside n x ≡ 0 → outside n y ≡ 0 → outside n z ≡ 0 → place_of n x y z ≡ in_block n (x - 1) (y - 1) (z - 1)
  unfolding place_of
  place_inner ex ey ez = in_leaves n x _ _ _ ex ∙ in_leaves n y _ _ _ ey ∙ in_leaves n z _ _ _ ez

-- ---- points that were sampled

module _ (n x y z : ℕ) where
  pub sampled_sum : sampled n x y z ≡ true → outside n x + outside n y + outside n z ≤ 1
  unfolding sampled
  sampled_sum h = leb-true (outside n x + outside n y + outside n z) 1 h

  pub sum_sampled : outside n x + outside n y + outside n z ≤ 1 → sampled n x y z ≡ true
  unfolding sampled
  sum_sampled h = le-leb (outside n x + outside n y + outside n z) 1 h

  pub place_in : sampled n x y z ≡ true → place_of n x y z < sample_length n
  place_in h =
      let s = sampled_sum h in
      by_steps (outside n x) (omega arith)
      (λ ex. by_steps (outside n y) (omega arith)
      (λ ey. by_steps (outside n z) (omega arith)
      (λ ez. rw (place_inner n x y z ex ey ez) (omega (arith, in_block_lem n (x - 1) (y - 1) (z - 1) (at_most x ex) (at_most y ey) (at_most z ez))))
      (λ ez. rw (place_across_z n x y z ex ey ez) (across_in n 4 z x y (omega arith) (inner x ex) (inner y ey))))
      (λ ey. rw (place_across_y n x y z ex ey) (across_in n 2 y x z (omega arith) (inner x ex) (inner z (omega arith)))))
      (λ ex. rw (place_across_x n x y z ex) (across_in n 0 x y z (omega arith) (inner y (omega arith)) (inner z (omega arith))))
    where
      inner : (c : ℕ) → outside n c ≡ 0 → Inner n c
      inner c = not_outside_inner n c

      at_most : (c : ℕ) → outside n c ≡ 0 → c - 1 ≤ n
      at_most c e = inner_le (inner c e)

      by_steps : (o : ℕ) → o ≤ 1 → (o ≡ 0 → place_of n x y z < sample_length n) → (o ≡ 1 → place_of n x y z < sample_length n) → place_of n x y z < sample_length n
      by_steps zero l f g = f refl
      by_steps (suc o) l f g = g (omega arith)

  -- and its place holds its value
  pub value_is : (samples : List Float) → sampled n x y z ≡ true → value_at n samples x y z ≡ get_or samples (place_of n x y z) nan
  unfolding value_at reading_at
  value_is samples h = rw h

-- ---- in-block points

module _ (n x y z : ℕ) (hx : x ≤ n) (hy : y ≤ n) (hz : z ≤ n) where
  -- the place of an in-block point is one sum
  pub place_in_block : place_of n (x + 1) (y + 1) (z + 1) ≡ in_block n x y z
  place_in_block =
      let ex : x + 1 - 1 ≡ x = omega arith in
      let ey : y + 1 - 1 ≡ y = omega arith in
      let ez : z + 1 - 1 ≡ z = omega arith in
      place_inner n (x + 1) (y + 1) (z + 1) (here_not_outside n x hx) (here_not_outside n y hy) (here_not_outside n z hz)
      ∙ (λ i. in_block n (ex i) (ey i) (ez i))

-- ---- steps

-- a point was sampled, and so was each point one step from it on one axis; coordinates kept one up
pub record StepsSampled (n : ℕ) (p : Xyz) : Type 0 where
  pub here : sampled n (p.x + 1) (p.y + 1) (p.z + 1) ≡ true
  pub x_down : sampled n p.x (p.y + 1) (p.z + 1) ≡ true
  pub x_up : sampled n (p.x + 2) (p.y + 1) (p.z + 1) ≡ true
  pub y_down : sampled n (p.x + 1) p.y (p.z + 1) ≡ true
  pub y_up : sampled n (p.x + 1) (p.y + 2) (p.z + 1) ≡ true
  pub z_down : sampled n (p.x + 1) (p.y + 1) p.z ≡ true
  pub z_up : sampled n (p.x + 1) (p.y + 1) (p.z + 2) ≡ true

pub steps_sampled : (n : ℕ) (p : Xyz) → Within n p → StepsSampled n p
steps_sampled n p h =
    let x = p.x in
    let y = p.y in
    let z = p.z in
    let x-here = here_not_outside n x h.x_in in
    let y-here = here_not_outside n y h.y_in in
    let z-here = here_not_outside n z h.z_in in
    record {
      here = sum_sampled n (x + 1) (y + 1) (z + 1) (omega arith);
      x_down = sum_sampled n x (y + 1) (z + 1) (omega (arith, near_outside n x (omega arith)));
      x_up = sum_sampled n (x + 2) (y + 1) (z + 1) (omega (arith, near_outside n (x + 2) (omega arith)));
      y_down = sum_sampled n (x + 1) y (z + 1) (omega (arith, near_outside n y (omega arith)));
      y_up = sum_sampled n (x + 1) (y + 2) (z + 1) (omega (arith, near_outside n (y + 2) (omega arith)));
      z_down = sum_sampled n (x + 1) (y + 1) z (omega (arith, near_outside n z (omega arith)));
      z_up = sum_sampled n (x + 1) (y + 1) (z + 2) (omega (arith, near_outside n (z + 2) (omega arith)));
    }

-- so a read of an in-block point is one sum and an index
pub sample_is : (n : ℕ) (samples : List Float) (p : Xyz) → Within n p → sample_of n samples p ≡ get_or samples (in_block n p.x p.y p.z) nan
sample_is n samples p h =
    value_is n (p.x + 1) (p.y + 1) (p.z + 1) samples (steps_sampled n p h).here
    ∙ ap (λ (k : ℕ). get_or samples k nan) (place_in_block n p.x p.y p.z h.x_in h.y_in h.z_in)
