-- Document 02, [8]: the slots of a block along an axis, 0 to n and then -1 and n + 1, and the places of the volume as sums of what a slot of each axis adds.
-- Assumes nothing.
use Rattle.std.specs.Prelude.{ℕ, zero, suc, ◌+◌, ◌-◌, ◌*◌, ◌≤◌, ◌<◌, ◌≡◌, refl, cond, List, leb, length, get_or}
use Rattle.std.proofs.Common.{mul-add, mul_assoc, arith, sym, ◌∙◌, le-leb}
use Rattle.std.proofs.Math.Decide.{dec_le}
use Rattle.std.proofs.Math.Path.{ap}
use Rattle.std.proofs.lemmas.Bool.{lt-leb}
use Rattle.model.specs.declared.Xyz.{Xyz}
use Rattle.model.specs.Samples.{in_block}
use Rattle.model.specs.Rotations.{xyz}
use Rattle.volume.specs.Definition.{volume_place, point_on, nearest, nearest_point, taken_place}
use Rattle.volume.specs.Known.{Readable, Ready, readable}
use Rattle.volume.specs.Squares.{point_at, square_in, point_block, point_beside_lem}

-- -1 and n + 1, kept one up
abbrev pub out_up : ℕ → ℕ → ℕ
out_up n zero = 0
out_up n (suc side) = n + 2

-- a slot's coordinate, kept one up
abbrev pub slot_up : ℕ → ℕ → ℕ
slot_up n slot = cond (leb slot n) (slot + 1) (out_up n (slot - (n + 1)))

pub slot_block : (n slot : ℕ) → slot ≤ n → slot_up n slot ≡ slot + 1
slot_block n slot h = rw (le-leb slot n h)

pub slot_out : (n slot side : ℕ) → slot ≡ n + 1 + side → slot_up n slot ≡ out_up n side
slot_out n slot side e =
    let out : slot - (n + 1) ≡ side = omega arith in
    rw (lt-leb slot n (omega arith)) (ap (out_up n) out)

-- what each slot of an axis adds to a place
pub record Steps (steps : List ℕ) (n size first step : ℕ) : Type 0 where
  pub long : n + 3 ≤ length steps
  pub at : (slot : ℕ) → slot < n + 3 → get_or steps slot 0 ≡ step * nearest size (first + slot_up n slot)

-- ---- the points of the squares, slot by slot

module _ (n i j : ℕ) where
  -- those of each x, and the faces x=-1 and x=n+1
  slots_x : (square : ℕ) → square < n + 3 → point_on n square i j ≡ xyz (slot_up n square) (i + 1) (j + 1)
  slots_x square h = go (dec_le square n)
    where
      out : (side : ℕ) → side < 2 → square ≡ n + 1 + side → point_on n square i j ≡ xyz (out_up n side) (i + 1) (j + 1)
      out zero l e = point_beside_lem n i j square 0 e
      out (suc zero) l e = point_beside_lem n i j square 1 e
      out (suc (suc side)) l e = absurd (omega arith)

      go : Dec (square ≤ n) → point_on n square i j ≡ xyz (slot_up n square) (i + 1) (j + 1)
      go (yes l) = point_block n i j square l ∙ ap (λ (x : ℕ). xyz x (i + 1) (j + 1)) (sym (slot_block n square l))
      go (no l) =
          let side = square - (n + 1) in
          let is : square ≡ n + 1 + side = omega arith in
          out side (omega arith) is ∙ ap (λ (x : ℕ). xyz x (i + 1) (j + 1)) (sym (slot_out n square side is))

  -- the faces y=-1 and y=n+1, and those z=-1 and z=n+1
  slots_y : (side : ℕ) → side < 2 → point_on n (n + 3 + side) i j ≡ xyz (i + 1) (out_up n side) (j + 1)
  slots_y zero l = point_beside_lem n i j (n + 3 + 0) 2 (omega arith)
  slots_y (suc zero) l = point_beside_lem n i j (n + 3 + 1) 3 (omega arith)
  slots_y (suc (suc side)) l = absurd (omega arith)

  slots_z : (side : ℕ) → side < 2 → point_on n (n + 5 + side) i j ≡ xyz (i + 1) (j + 1) (out_up n side)
  slots_z zero l = point_beside_lem n i j (n + 5 + 0) 4 (omega arith)
  slots_z (suc zero) l = point_beside_lem n i j (n + 5 + 1) 5 (omega arith)
  slots_z (suc (suc side)) l = absurd (omega arith)

-- ---- places as sums

module _ (sizes : Xyz) (n : ℕ) (first : Xyz) where
  -- the volume's place for the point at (i, j) of a square
  abbrev pub square_place : ℕ → ℕ → ℕ → ℕ
  square_place square i j = volume_place sizes (nearest_point sizes first (point_on n square i j))

  pub taken_at : (square i j : ℕ) → i ≤ n → j ≤ n → taken_place sizes n first (in_block n square i j) ≡ square_place square i j
  unfolding taken_place
  taken_at square i j hi hj = ap (λ (p : Xyz). volume_place sizes (nearest_point sizes first p)) (point_at n square i j hi hj)

  pub square_readable : {bytes : List ℕ} → Ready bytes sizes n first → (square i j : ℕ) → square < n + 7 → i ≤ n → j ≤ n → Readable bytes (square_place square i j)
  square_readable {bytes} h square i j hs hi hj =
      rw (taken_at square i j hi hj) at (readable bytes sizes n first h (in_block n square i j) (square_in n square i j hi hj hs))

  summed : (a b c : ℕ) → sizes.x * b + sizes.x * sizes.y * c + 1 * a ≡ a + sizes.x * (b + sizes.y * c)
  summed a b c = omega (arith, mul-add sizes.x b (sizes.y * c), mul_assoc sizes.x sizes.y c)

  module _ {xs ys zs : List ℕ} (hx : Steps xs n sizes.x first.x 1) (hy : Steps ys n sizes.y first.y sizes.x)
      (hz : Steps zs n sizes.z first.z (sizes.x * sizes.y)) where
    -- a slot of each axis, by the coordinates kept one up
    by_slots : (a b c u v w : ℕ) → a < n + 3 → b < n + 3 → c < n + 3 → slot_up n a ≡ u → slot_up n b ≡ v → slot_up n c ≡ w
        → get_or ys b 0 + get_or zs c 0 + get_or xs a 0 ≡ volume_place sizes (nearest_point sizes first (xyz u v w))
    by_slots a b c u v w ha hb hc ea eb ec =
        let X = nearest sizes.x (first.x + u) in
        let Y = nearest sizes.y (first.y + v) in
        let Z = nearest sizes.z (first.z + w) in
        let x : get_or xs a 0 ≡ 1 * X = hx.at a ha ∙ ap (λ (k : ℕ). 1 * nearest sizes.x (first.x + k)) ea in
        let y : get_or ys b 0 ≡ sizes.x * Y = hy.at b hb ∙ ap (λ (k : ℕ). sizes.x * nearest sizes.y (first.y + k)) eb in
        let z : get_or zs c 0 ≡ sizes.x * sizes.y * Z = hz.at c hc ∙ ap (λ (k : ℕ). sizes.x * sizes.y * nearest sizes.z (first.z + k)) ec in
        (λ i. y i + z i + x i) ∙ summed X Y Z

    pub sum_x : (square i j : ℕ) → square < n + 3 → i ≤ n → j ≤ n → get_or ys i 0 + get_or zs j 0 + get_or xs square 0 ≡ square_place square i j
    sum_x square i j hs hi hj =
        by_slots square i j (slot_up n square) (i + 1) (j + 1) hs (omega arith) (omega arith) refl (slot_block n i hi) (slot_block n j hj)
        ∙ ap (λ (p : Xyz). volume_place sizes (nearest_point sizes first p)) (sym (slots_x n i j square hs))

    pub sum_y : (side i j : ℕ) → side < 2 → i ≤ n → j ≤ n → get_or ys (n + 1 + side) 0 + get_or zs j 0 + get_or xs i 0 ≡ square_place (n + 3 + side) i j
    sum_y side i j hs hi hj =
        by_slots i (n + 1 + side) j (i + 1) (out_up n side) (j + 1) (omega arith) (omega arith) (omega arith) (slot_block n i hi)
        (slot_out n (n + 1 + side) side refl) (slot_block n j hj)
        ∙ ap (λ (p : Xyz). volume_place sizes (nearest_point sizes first p)) (sym (slots_y n i j side hs))

    pub sum_z : (side i j : ℕ) → side < 2 → i ≤ n → j ≤ n → get_or zs (n + 1 + side) 0 + get_or ys j 0 + get_or xs i 0 ≡ square_place (n + 5 + side) i j
    sum_z side i j hs hi hj =
        let turned : get_or zs (n + 1 + side) 0 + get_or ys j 0 + get_or xs i 0 ≡ get_or ys j 0 + get_or zs (n + 1 + side) 0 + get_or xs i 0 = omega arith in
        turned
        ∙ by_slots i j (n + 1 + side) (i + 1) (j + 1) (out_up n side) (omega arith) (omega arith) (omega arith) (slot_block n i hi) (slot_block n j hj)
        (slot_out n (n + 1 + side) side refl)
        ∙ ap (λ (p : Xyz). volume_place sizes (nearest_point sizes first p)) (sym (slots_z n i j side hs))
