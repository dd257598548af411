-- Document 02, [6]: a walk along a side goes from place to place. A step leads up or down and not both, so that each value on the way is one of the two
-- places or below it, and so below the length of the block's samples.
use Rattle.std.specs.Prelude.{ℕ, ◌+◌, ◌*◌, ◌<◌, ◌≡◌, ◌⊎◌}
use Rattle.std.proofs.Common.{ap, inl, inr, arith}
use Rattle.model.specs.Limits.{side_count}
use Rattle.model.specs.Rotations.{rotations, rotation_of}
use Rattle.model.specs.Samples.{sample_length}
use Rattle.grid.specs.declared.face_walk.Stride.{Stride}
use Rattle.grid.specs.RotationLaws.{OnSide, by_side}
use Rattle.grid.specs.Walks.{side_place, stride_of, walk_of, Leads, along_by, row_leads, row_is, spot_leads, spot_is, spot_in}

-- k steps from a place: what is added, what is taken away, and what stands between
pub record StepSizes (length at : ℕ) (s : Stride) (k : ℕ) : Type 0 where
  pub from : at < length
  pub added : k * s.up < length
  pub between : at + k * s.up < length
  pub taken : k * s.down < length
  pub there : along_by at s k < length

abbrev OneWay : Stride → Type 0
OneWay s = (s.up ≡ 0) ⊎ (s.down ≡ 0)

one_way : (m side : ℕ) → side < side_count → OneWay (stride_of m (rotation_of side).u) × OneWay (stride_of m (rotation_of side).v)
unfolding rotation_of rotations
one_way m =
    by_side (λ side. OneWay (stride_of m (rotation_of side).u) × OneWay (stride_of m (rotation_of side).v))
    (inl (omega arith), inr (omega arith))
    (inr (omega arith), inr (omega arith))
    (inr (omega arith), inl (omega arith))
    (inr (omega arith), inr (omega arith))
    (inr (omega arith), inr (omega arith))
    (inl (omega arith), inr (omega arith))

step_sizes : (length at : ℕ) (s : Stride) (k : ℕ) → OneWay s → Leads at s k → at < length → along_by at s k < length → StepSizes length at s k
step_sizes length at s k (inl none) leads from there =
    let e : k * s.up ≡ k * 0 = ap (λ (j : ℕ). k * j) none in
    omega (arith, e, leads.enough)
step_sizes length at s k (inr none) leads from there =
    let e : k * s.down ≡ k * 0 = ap (λ (j : ℕ). k * j) none in
    omega (arith, e, leads.enough)

-- from the walk's first place to that of a row, and from there to that of a point
module _ (m side w u v : ℕ) (on : OnSide side m u v w) where
  pub row_sizes : StepSizes (sample_length m) (walk_of m side w).first (walk_of m side w).u u
  row_sizes =
      step_sizes _ _ _ _ (one_way m side on.side_is).0 (row_leads m side w u v on) (spot_in m side w 0 0 (omega arith))
      (rw (row_is m side w u v on) (spot_in m side w u 0 (omega arith)))

  pub spot_sizes : StepSizes (sample_length m) (side_place m side w u 0) (walk_of m side w).v v
  spot_sizes =
      step_sizes _ _ _ _ (one_way m side on.side_is).1 (spot_leads m side w u v on) (spot_in m side w u 0 (omega arith))
      (rw (spot_is m side w u v on) (spot_in m side w u v on))
