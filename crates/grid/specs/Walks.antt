-- The points of a side's face among a block's samples: a step along U or along V leads a fixed way, so that the place of (u, v) is the
-- first one with u steps of one kind and v of the other. Definitions, and that each such place is its point's.
use Rattle.std.specs.Prelude.{ℕ, ◌+◌, ◌-◌, ◌*◌, ◌^◌, ◌≤◌, ◌<◌, ◌≡◌, List, Float, get_or}
use Rattle.std.proofs.Math.Path.{sym, ap}
use Rattle.std.proofs.Common.{◌∙◌, mul-add, mul_assoc, mul_comm, mul-le-mul, mul-le-mul_left, arith}
use Rattle.std.specs.Float.{nan}
use Rattle.model.specs.Limits.{most_fine}
use Rattle.model.specs.declared.Xyz.{Xyz}
use Rattle.model.specs.declared.Direction.{Direction}
use Rattle.model.specs.Samples.{sample_length, in_block, reading_at, value_of, value_at, sample_of}
use Rattle.model.specs.Rotations.{rotation_of, point_from}
use Rattle.grid.specs.declared.face_walk.Stride.{Stride}
use Rattle.grid.specs.declared.face_walk.FaceWalk.{FaceWalk}
use Rattle.grid.specs.Places.{Within, small, in_block_lem}
use Rattle.grid.specs.Kinds.{in_block_reading, in_block_reading_lem}
use Rattle.grid.specs.RotationLaws.{OnSide, UnitVector, turned, units, point_in}

abbrev pub among : ℕ → Xyz → ℕ
among m p = in_block m p.x p.y p.z

-- the place of the point (u, v, w) of a side among the samples of a block of m subdivisions
unfoldable pub side_place : ℕ → ℕ → ℕ → ℕ → ℕ → ℕ
side_place m side w u v = among m (point_from (rotation_of side) m u v w)

abbrev pub stride_of : ℕ → Direction → Stride
stride_of m d = record { up = among m d.up; down = among m d.down }

abbrev pub walk_of : ℕ → ℕ → ℕ → FaceWalk
walk_of m side w =
    record { first = side_place m side w 0 0; u = stride_of m (rotation_of side).u; v = stride_of m (rotation_of side).v }

-- the place that k steps lead to, and that nothing on the way wraps
abbrev pub along_by : ℕ → Stride → ℕ → ℕ
along_by at s k = at + k * s.up - k * s.down

pub record Leads (at : ℕ) (s : Stride) (k : ℕ) : Type 0 where
  pub enough : k * s.down ≤ at + k * s.up
  pub within : at + k * s.up < 2 ^ 64

-- ---- k steps along a direction, axis by axis

-- on one axis, whose stride is a
on_axis : (a k to from up down : ℕ) → to + k * down ≡ from + k * up → a * to + k * (a * down) ≡ a * from + k * (a * up)
on_axis a k to from up down e = stretched to down ∙ ap (λ (j : ℕ). a * j) e ∙ sym (stretched from up)
  where
    stretched : (p d : ℕ) → a * p + k * (a * d) ≡ a * (p + k * d)
    stretched p d =
        ap (λ (j : ℕ). a * p + j) (sym (mul_assoc k a d) ∙ ap (λ (j : ℕ). j * d) (mul_comm k a) ∙ mul_assoc a k d) ∙ sym (mul-add a p (k * d))

-- the point `to` is k steps along d from the point `from`
pub record Steps (k : ℕ) (d : Direction) (to from : Xyz) : Type 0 where
  pub x : to.x + k * d.down.x ≡ from.x + k * d.up.x
  pub y : to.y + k * d.down.y ≡ from.y + k * d.up.y
  pub z : to.z + k * d.down.z ≡ from.z + k * d.up.z

module _ (m k : ℕ) (d : Direction) (to from : Xyz) (steps : Steps k d to from) where
  steps_lead : among m to + k * (stride_of m d).down ≡ among m from + k * (stride_of m d).up
  steps_lead =
      let a = (m + 1) * (m + 1) in
      let b = m + 1 in
      let x = on_axis a k to.x from.x d.up.x d.down.x steps.x in
      let y = on_axis b k to.y from.y d.up.y d.down.y steps.y in
      omega (
        arith,
        x,
        y,
        steps.z,
        mul-add k (a * d.down.x + b * d.down.y) d.down.z,
        mul-add k (a * d.down.x) (b * d.down.y),
        mul-add k (a * d.up.x + b * d.up.y) d.up.z,
        mul-add k (a * d.up.x) (b * d.up.y),
      )

  module _ (few : m ≤ most_fine) (k_few : k ≤ m) (unit : UnitVector d) (to_in : Within m to) where
    -- nothing on the way is large
    down_small : k * (stride_of m d).down ≤ most_fine * ((most_fine + 1) * (most_fine + 1) + (most_fine + 1) + 1)
    down_small =
        let a = (m + 1) * (m + 1) in
        let x : a * d.down.x ≤ a * 1 = mul-le-mul_left a unit.down.x_in in
        let y : (m + 1) * d.down.y ≤ (m + 1) * 1 = mul-le-mul_left (m + 1) unit.down.y_in in
        let down : (stride_of m d).down ≤ (most_fine + 1) * (most_fine + 1) + (most_fine + 1) + 1 = omega (arith, x, y, unit.down.z_in, (small m few).square) in
        let k_most : k ≤ most_fine = omega arith in
        mul-le-mul k_most down

    steps_leads : Leads (among m from) (stride_of m d) k
    steps_leads =
        let cube = (small m few).cube in
        let to-small = in_block_lem m to.x to.y to.z to_in.x_in to_in.y_in to_in.z_in in
        record { enough = omega (arith, steps_lead); within = omega (arith, steps_lead, down_small, cube, to-small) }

    steps_along : along_by (among m from) (stride_of m d) k ≡ among m to
    steps_along = omega (arith, steps_lead)

-- ---- the points of a side

module _ (m side w : ℕ) where
  abbrev point : ℕ → ℕ → Xyz
  point u v = point_from (rotation_of side) m u v w

  module _ (u v : ℕ) (on : OnSide side m u v w) where
    -- from (0, 0) along U to (u, 0), and from there along V to (u, v)
    u_steps : Steps u (rotation_of side).u (point u 0) (point 0 0)
    unfolding point_from
    u_steps =
        let there = turned m u 0 w on.u_in (omega arith) on.w_in side on.side_is in
        let here = turned m 0 0 w (omega arith) (omega arith) on.w_in side on.side_is in
        record {
          x = omega (arith, there.x.exact, here.x.exact);
          y = omega (arith, there.y.exact, here.y.exact);
          z = omega (arith, there.z.exact, here.z.exact);
        }

    v_steps : Steps v (rotation_of side).v (point u v) (point u 0)
    unfolding point_from
    v_steps =
        let there = turned m u v w on.u_in on.v_in on.w_in side on.side_is in
        let here = turned m u 0 w on.u_in (omega arith) on.w_in side on.side_is in
        record {
          x = omega (arith, there.x.exact, here.x.exact);
          y = omega (arith, there.y.exact, here.y.exact);
          z = omega (arith, there.z.exact, here.z.exact);
        }

    row_in : Within m (point u 0)
    row_in = point_in side m u 0 w (omega arith)

    unit_u : UnitVector (rotation_of side).u
    unit_u = (units side on.side_is).u

    unit_v : UnitVector (rotation_of side).v
    unit_v = (units side on.side_is).v

    -- the walk's first place leads to the row's first, and that one to the point's
    pub row_leads : Leads (walk_of m side w).first (walk_of m side w).u u
    unfolding side_place
    row_leads = steps_leads m u (rotation_of side).u (point u 0) (point 0 0) u_steps on.few on.u_in unit_u row_in

    pub row_is : along_by (walk_of m side w).first (walk_of m side w).u u ≡ side_place m side w u 0
    unfolding side_place
    row_is = steps_along m u (rotation_of side).u (point u 0) (point 0 0) u_steps on.few on.u_in unit_u row_in

    pub spot_leads : Leads (side_place m side w u 0) (walk_of m side w).v v
    unfolding side_place
    spot_leads = steps_leads m v (rotation_of side).v (point u v) (point u 0) v_steps on.few on.v_in unit_v (point_in side m u v w on)

    pub spot_is : along_by (side_place m side w u 0) (walk_of m side w).v v ≡ side_place m side w u v
    unfolding side_place
    spot_is = steps_along m v (rotation_of side).v (point u v) (point u 0) v_steps on.few on.v_in unit_v (point_in side m u v w on)

    -- its place is one of the block's, and reads as the point
    pub spot_in : side_place m side w u v < sample_length m
    unfolding side_place
    spot_in =
        let p = point u v in
        let h = point_in side m u v w on in
        omega (arith, in_block_lem m p.x p.y p.z h.x_in h.y_in h.z_in)

    pub spot_reading : (samples : List Float)
        → let p = point u v in in_block_reading samples (side_place m side w u v) ≡ reading_at m samples (p.x + 1) (p.y + 1) (p.z + 1)
    unfolding side_place
    spot_reading samples = sym (in_block_reading_lem m samples (point u v) (point_in side m u v w on))

    pub spot_read : (samples : List Float) → get_or samples (side_place m side w u v) nan ≡ sample_of m samples (point u v)
    unfolding value_at
    spot_read samples = ap value_of (spot_reading samples)
