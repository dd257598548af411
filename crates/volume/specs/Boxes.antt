-- Document 02, [8]: whether all samples of a row, of a plane of rows and of a box of planes can be used; and that the box from -1 to n + 1, as far as the
-- volume goes, holds every sample that is taken. Assumes nothing.
use Prim.Native.Nat.{ℕ, ◌+◌, ◌-◌, ◌*◌, ◌≤◌, ◌<◌, zero-le}
use Rattle.std.proofs.Common.{mul-add, mul_assoc, arith, sym, ap, ◌∙◌}
use Rattle.std.specs.Prelude.{◌≡◌, Bool, true, List, length, Ok}
use Rattle.std.proofs.Math.Path.{refl}
use Rattle.laws.specs.Below.{all_below, each_below}
use Rattle.model.specs.declared.Xyz.{Xyz}
use Rattle.model.specs.Samples.{sample_length}
use Rattle.model.specs.Rotations.{xyz}
use Rattle.model.specs.Judging.{usable}
use Rattle.judge.specs.First.{passed_over_lem}
use Rattle.volume.specs.Definition.{volume_count, volume_place, volume_sample, nearest, nearest_point, point_of, taken_place, taken_usable, judge_taken}
use Rattle.volume.specs.Known.{InVolume, Cut, Near, place_in, near_in, near_up}
use Rattle.volume.specs.Squares.{in_square, point_near}

module _ (bytes : List ℕ) where
  abbrev pub row_usable : ℕ → ℕ → Bool
  row_usable from = all_below (λ x. usable (volume_sample bytes (from + x)))

  abbrev pub plane_usable : ℕ → ℕ → ℕ → ℕ → Bool
  plane_usable from count step = all_below (λ y. row_usable (from + step * y) count)

  abbrev pub box_usable : ℕ → ℕ → ℕ → ℕ → ℕ → ℕ → Bool
  box_usable from count step rows stride = all_below (λ z. plane_usable (from + stride * z) count step rows)

  -- they lie within the bytes
  abbrev pub RowIn : ℕ → ℕ → Type 0
  RowIn from count = (x : ℕ) → x < count → 4 * (from + x) + 4 ≤ length bytes

  pub record PlaneIn (from count step rows : ℕ) : Type 0 where
    pub some : 1 ≤ count
    pub inside : (x y : ℕ) → x < count → y < rows → 4 * (from + step * y + x) + 4 ≤ length bytes

  pub record BoxIn (from count step rows stride planes : ℕ) : Type 0 where
    pub some : 1 ≤ count
    pub lines : 1 ≤ rows
    pub inside : (x y z : ℕ) → x < count → y < rows → z < planes → 4 * (from + stride * z + step * y + x) + 4 ≤ length bytes

-- ---- the box that spans all points taken

-- so many samples from the least coordinate to the greatest
abbrev pub span_of : ℕ → ℕ → ℕ → ℕ
span_of n size first = nearest size (first + (n + 2)) - nearest size (first + 0) + 1

module _ (sizes : Xyz) (n : ℕ) (first : Xyz) where
  abbrev pub lowest : Xyz
  lowest = nearest_point sizes first (xyz 0 0 0)

  abbrev pub span_usable : List ℕ → Bool
  span_usable bytes =
      box_usable bytes (volume_place sizes lowest) (span_of n sizes.x first.x) sizes.x (span_of n sizes.y first.y) (sizes.x * sizes.y)
      (span_of n sizes.z first.z)

  -- a place of the box
  box_place : (x y z : ℕ) → volume_place sizes lowest + sizes.x * sizes.y * z + sizes.x * y + x
      ≡ volume_place sizes (xyz (lowest.x + x) (lowest.y + y) (lowest.z + z))
  box_place x y z =
      let a = sizes.x in
      let b = sizes.y in
      let Y = lowest.y in
      let Z = lowest.z in
      let inner : b * (Z + z) ≡ b * Z + b * z = mul-add b Z z in
      let outer : a * (Y + y + b * (Z + z)) ≡ a * (Y + b * Z) + a * y + a * (b * z) =
      ap (λ (k : ℕ). a * k) (let e : Y + y + b * (Z + z) ≡ Y + b * Z + y + b * z = omega (arith, inner) in e)
      ∙ mul-add a (Y + b * Z + y) (b * z) ∙ ap (λ (k : ℕ). k + a * (b * z)) (mul-add a (Y + b * Z) y) in
      omega (arith, outer, mul_assoc a b z)

  -- an axis: what is in the span is in the volume, and what is taken is in the span
  within : (size at k : ℕ) → 1 ≤ size → k < span_of n size at → nearest size (at + 0) + k < size
  within size at k h l =
      omega (arith, near_in size (at + (n + 2)) h, near_up size (at + 0) (at + (n + 2)) (omega arith))

  spanned : (size at c : ℕ) → c ≤ n + 2 → (nearest size (at + 0) ≤ nearest size (at + c)) × (nearest size (at + c) - nearest size (at + 0) < span_of n size at)
  spanned size at c h =
      let low = near_up size (at + 0) (at + c) (omega arith) in
      let high = near_up size (at + c) (at + (n + 2)) (omega arith) in
      (low, omega arith)

  module _ (h : Cut sizes n first) where
    span_in : {held : ℕ} → held ≡ 4 * volume_count sizes → (x y z : ℕ) → x < span_of n sizes.x first.x → y < span_of n sizes.y first.y
        → z < span_of n sizes.z first.z → 4 * (volume_place sizes lowest + sizes.x * sizes.y * z + sizes.x * y + x) + 4 ≤ held
    span_in whole x y z hx hy hz =
        let at = h.at in
        let p = xyz (lowest.x + x) (lowest.y + y) (lowest.z + z) in
        let in_volume : InVolume sizes p =
        record {
          x = record { few = at.x.few; inside = within sizes.x first.x x (omega (arith, at.x)) hx };
          y = record { few = at.y.few; inside = within sizes.y first.y y (omega (arith, at.y)) hy };
          z = record { few = at.z.few; inside = within sizes.z first.z z (omega (arith, at.z)) hz };
        } in
        rw (box_place x y z) (omega (arith, place_in sizes p in_volume))

    pub box_in : (bytes : List ℕ) → length bytes ≡ 4 * volume_count sizes
        → BoxIn bytes (volume_place sizes lowest) (span_of n sizes.x first.x) sizes.x (span_of n sizes.y first.y) (sizes.x * sizes.y)
        (span_of n sizes.z first.z)
    box_in bytes whole = record { some = omega arith; lines = omega arith; inside = span_in whole }

    -- so every sample that is taken can be used
    span_taken : (bytes : List ℕ) → span_usable bytes ≡ true → (p : Xyz) → Near n p → usable (volume_sample bytes (volume_place sizes (nearest_point sizes first p))) ≡ true
    span_taken bytes e p near =
        let q = nearest_point sizes first p in
        let sx = spanned sizes.x first.x p.x near.x in
        let sy = spanned sizes.y first.y p.y near.y in
        let sz = spanned sizes.z first.z p.z near.z in
        let x = q.x - lowest.x in
        let y = q.y - lowest.y in
        let z = q.z - lowest.z in
        let plane = each_below _ (span_of n sizes.z first.z) z e sz.1 in
        let row = each_below _ (span_of n sizes.y first.y) y plane sy.1 in
        let sample = each_below _ (span_of n sizes.x first.x) x row sx.1 in
        let ex : lowest.x + x ≡ q.x = omega arith in
        let ey : lowest.y + y ≡ q.y = omega arith in
        let ez : lowest.z + z ≡ q.z = omega arith in
        sym (ap (λ (k : ℕ). usable (volume_sample bytes k)) (box_place x y z ∙ (λ i. volume_place sizes (xyz (ex i) (ey i) (ez i))))) ∙ sample

    pub span_passes : (bytes : List ℕ) → span_usable bytes ≡ true → judge_taken bytes sizes n first ≡ Ok tt
    unfolding judge_taken taken_place
    span_passes bytes e =
        passed_over_lem (taken_usable bytes sizes n first) 0 (sample_length n) refl
        (λ place _ l.
        let at = in_square n place l in
        rw (span_taken bytes e (point_of n place) (point_near n _ _ at.row at.column _)))
        zero-le
