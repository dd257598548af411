-- Document 02, [8]: a block cut from a volume, with neighbours cut from one of twice the resolution whose even points are the coarse ones, passes 8.
-- Assumes nothing.
use Prim.Native.Nat.{ℕ, zero, suc, ◌+◌, ◌*◌, ◌≤◌, ◌<◌}
use native.Mathlib.Omega.{arith}
use Rattle.std.specs.Prelude.{◌≡◌, true, Float, Ok}
use Rattle.std.proofs.Math.Path.{sym, ap}
use Rattle.std.proofs.Common.{◌∙◌, ⊎_elim}
use mathlib.Core.List.{List}
use Rattle.laws.specs.Ranges.{eq_beq}
use Rattle.model.specs.declared.Xyz.{Xyz}
use Rattle.model.specs.Limits.{side_count}
use Rattle.model.specs.Samples.{sample_of}
use Rattle.model.specs.Sides.{named}
use Rattle.model.specs.Rotations.{xyz, rotations, rotation_of, point_from, face_point, neighbour_point}
use Rattle.model.specs.Formulas.{inside}
use Rattle.model.specs.Star.{Star, subdivisions}
use Rattle.model.specs.Points.{fine_sample}
use Rattle.model.specs.Judging.{faces_agree, judge_faces}
use Rattle.grid.specs.Places.{Within, steps_sampled}
use Rattle.agreement.specs.Faces.{AllAgree, faces_pass}
use Rattle.volume.specs.Definition.{volume_place, volume_sample, nearest, nearest_point}
use Rattle.volume.specs.Neighbours.{doubled, TwiceAsFine, beyond, Begins, Ends, FineStar}
use Rattle.volume.specs.Known.{near, near_in}
use Rattle.volume.specs.Blocks.{value_is}

-- ---- the two points of a side at (u, v)

-- both lie in their blocks, and the neighbour's is where the fine volume has twice the coarse point
record Meets (n : ℕ) (first : Xyz) (side u v : ℕ) : Type 0 where
  pub coarse : Within n (face_point n side u v)
  pub fine : Within (2 * n) (neighbour_point n side (2 * u) (2 * v))
  pub x : 2 * (beyond n first side).x + (neighbour_point n side (2 * u) (2 * v)).x ≡ 2 * (first.x + (face_point n side u v).x)
  pub y : 2 * (beyond n first side).y + (neighbour_point n side (2 * u) (2 * v)).y ≡ 2 * (first.y + (face_point n side u v).y)
  pub z : 2 * (beyond n first side).z + (neighbour_point n side (2 * u) (2 * v)).z ≡ 2 * (first.z + (face_point n side u v).z)

module _ (n : ℕ) (first : Xyz) (u v : ℕ) (hu : u ≤ n) (hv : v ≤ n) where
  meets : (side : ℕ) → side < side_count → Begins n first side → Meets n first side u v
  unfolding rotations rotation_of point_from
  meets zero h b = omega arith
  meets (suc zero) h b = omega arith
  meets (suc (suc zero)) h b = omega arith
  meets (suc (suc (suc zero))) h b = omega arith
  meets (suc (suc (suc (suc zero)))) h b = omega arith
  meets (suc (suc (suc (suc (suc zero))))) h b = omega arith
  meets (suc (suc (suc (suc (suc (suc side)))))) h b = absurd (omega arith)

-- no size is 0
pub record Some (sizes : Xyz) : Type 0 where
  pub x : 1 ≤ sizes.x
  pub y : 1 ≤ sizes.y
  pub z : 1 ≤ sizes.z

-- ---- the nearest of twice a coordinate is twice the nearest

twice : (n size fine from corner p q : ℕ) → 1 ≤ size → 2 * size ≤ fine + 1 → Ends n from size fine → p ≤ n → corner + q ≡ 2 * (from + p)
    → nearest fine (corner + (q + 1)) ≡ 2 * nearest size (from + (p + 1))
twice n size fine from corner p q some sized ends within is =
    let at = near fine (corner + (q + 1)) in
    ⊎_elim (λ w. ⊎_elim (λ v. omega arith) (λ v. omega arith) at)
    (λ w. ⊎_elim (λ e. omega arith) (λ e. ⊎_elim (λ v. omega arith) (λ v. omega arith) at) ends) (near size (from + (p + 1)))

module _ {bytes fineBytes : List ℕ} {sizes fineSizes first : Xyz} (s : Star) (some : Some sizes) (twice-as-fine : TwiceAsFine bytes sizes fineBytes fineSizes)
    (cut : FineStar bytes sizes fineBytes fineSizes first s) where
  abbrev n : ℕ
  n = subdivisions s

  -- the two samples of a side at (u, v) are the same
  same_sample : (side u v : ℕ) → side < side_count → named s.mask side ≡ true → u ≤ n → v ≤ n
      → sample_of n s.centre (face_point n side u v) ≡ fine_sample s side (2 * u) (2 * v)
  unfolding fine_sample
  same_sample side u v h is hu hv =
      let at = meets n first u v hu hv side h (cut.begins side h is) in
      let p = face_point n side u v in
      let q = neighbour_point n side (2 * u) (2 * v) in
      let corner = doubled (beyond n first side) in
      let coarse = nearest_point sizes first (xyz (p.x + 1) (p.y + 1) (p.z + 1)) in
      let x = twice n sizes.x fineSizes.x first.x corner.x p.x q.x some.x twice-as-fine.x cut.ends_x at.coarse.x_in at.x in
      let y = twice n sizes.y fineSizes.y first.y corner.y p.y q.y some.y twice-as-fine.y cut.ends_y at.coarse.y_in at.y in
      let z = twice n sizes.z fineSizes.z first.z corner.z p.z q.z some.z twice-as-fine.z cut.ends_z at.coarse.z_in at.z in
      ap (λ (l : List Float). sample_of n l p) cut.centre
      ∙ value_is bytes sizes n first (p.x + 1) (p.y + 1) (p.z + 1) (steps_sampled n p at.coarse).here
      ∙ sym
      (ap (λ (l : List Float). sample_of (2 * n) l q) (cut.neighbours side h is)
      ∙ value_is fineBytes fineSizes (2 * n) corner (q.x + 1) (q.y + 1) (q.z + 1) (steps_sampled (2 * n) q at.fine).here
      ∙ (λ i. volume_sample fineBytes (volume_place fineSizes (xyz (x i) (y i) (z i))))
      ∙ twice-as-fine.even coarse (near_in sizes.x _ some.x) (near_in sizes.y _ some.y) (near_in sizes.z _ some.z))

  agree : AllAgree s
  unfolding faces_agree
  agree side u v h is hu hv = eq_beq _ _ (ap (inside s.threshold) (same_sample side u v h is hu hv))

  pub passes_8 : judge_faces s ≡ Ok tt
  passes_8 = faces_pass s agree
