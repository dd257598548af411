-- Document 01, 'Transition cells': each point that a rotation gives is one of its block's, on each axis its formula takes away no more than
-- it adds, and moves along U, V and W lead to it.
use Rattle.std.specs.Prelude.{ℕ, zero, suc, ◌+◌, ◌-◌, ◌*◌, ◌≤◌, ◌<◌, ◌≡◌}
use Rattle.std.proofs.Common.{sym, ◌∙◌, arith}
use Rattle.model.specs.Limits.{most_subdivisions, most_fine, side_count}
use Rattle.model.specs.declared.Xyz.{Xyz}
use Rattle.model.specs.declared.Direction.{Direction}
use Rattle.model.specs.declared.Rotation.{Rotation}
use Rattle.model.specs.Rotations.{xyz, rotations, rotation_of, coordinate, point_from, face_point, fine_point, neighbour_point}
use Rattle.grid.specs.Places.{Within}

-- on one axis: what is added, and what is taken away
abbrev pub added : (Xyz → ℕ) → Rotation → ℕ → ℕ → ℕ → ℕ → ℕ
added on r m u v w = m * on r.origin + u * on r.u.up + v * on r.v.up + w * on r.w.up

abbrev pub taken : (Xyz → ℕ) → Rotation → ℕ → ℕ → ℕ → ℕ
taken on r u v w = u * on r.u.down + v * on r.v.down + w * on r.w.down

-- a rotation on one axis: the value plus what is taken away is what is added, and the value is one of 0..m
pub record Turned (on : Xyz → ℕ) (r : Rotation) (m u v w : ℕ) : Type 0 where
  pub exact : coordinate on r m u v w + taken on r u v w ≡ added on r m u v w
  pub in_range : coordinate on r m u v w ≤ m

pub record TurnedPoint (r : Rotation) (m u v w : ℕ) : Type 0 where
  pub x : Turned (λ p. p.x) r m u v w
  pub y : Turned (λ p. p.y) r m u v w
  pub z : Turned (λ p. p.z) r m u v w

pub by_side : (P : ℕ → Type 0) → P 0 → P 1 → P 2 → P 3 → P 4 → P 5 → (side : ℕ) → side < side_count → P side
by_side P a b c d e f zero h = a
by_side P a b c d e f (suc zero) h = b
by_side P a b c d e f (suc (suc zero)) h = c
by_side P a b c d e f (suc (suc (suc zero))) h = d
by_side P a b c d e f (suc (suc (suc (suc zero)))) h = e
by_side P a b c d e f (suc (suc (suc (suc (suc zero))))) h = f
by_side P a b c d e f (suc (suc (suc (suc (suc (suc k)))))) h = absurd (omega arith)

module _ (m u v w : ℕ) (hu : u ≤ m) (hv : v ≤ m) (hw : w ≤ m) where
  pub turned : (side : ℕ) → side < side_count → TurnedPoint (rotation_of side) m u v w
  unfolding rotation_of rotations
  turned =
      by_side (λ side. TurnedPoint (rotation_of side) m u v w) (omega arith) (omega arith) (omega arith) (omega arith) (omega arith)
      (omega arith)

-- ---- the points of a side

-- a grid point of a side's face, and a fine point of it
pub record OnFace (n side u v : ℕ) : Type 0 where
  pub few : n ≤ most_subdivisions
  pub side_is : side < side_count
  pub u_in : u ≤ n
  pub v_in : v ≤ n

pub record OnFineFace (n side u2 v2 : ℕ) : Type 0 where
  pub few : n ≤ most_subdivisions
  pub side_is : side < side_count
  pub u_in : u2 ≤ 2 * n
  pub v_in : v2 ≤ 2 * n

-- the point (u, v, w) of a side, each of the three in 0..m
pub record OnSide (side m u v w : ℕ) : Type 0 where
  pub few : m ≤ most_fine
  pub side_is : side < side_count
  pub u_in : u ≤ m
  pub v_in : v ≤ m
  pub w_in : w ≤ m

pub point_in : (side m u v w : ℕ) → OnSide side m u v w → Within m (point_from (rotation_of side) m u v w)
unfolding point_from
point_in side m u v w h =
    let t = turned m u v w h.u_in h.v_in h.w_in side h.side_is in
    record { x_in = t.x.in_range; y_in = t.y.in_range; z_in = t.z.in_range }

-- a fine point of a face, and the same point in the neighbour
module _ {n side u2 v2 : ℕ} (h : OnFineFace n side u2 v2) where
  pub here_on : OnSide side (2 * n) u2 v2 0
  here_on = omega arith

  pub there_on : OnSide side (2 * n) u2 v2 (2 * n)
  there_on = omega arith

module _ (n side : ℕ) where
  pub face_point_in : (u v : ℕ) → OnFace n side u v → Within n (face_point n side u v)
  face_point_in u v h = point_in side n u v 0 (omega arith)

  pub fine_point_in : (u2 v2 : ℕ) → OnFineFace n side u2 v2 → Within (2 * n) (fine_point n side u2 v2)
  fine_point_in u2 v2 h = point_in side (2 * n) u2 v2 0 (here_on h)

  pub neighbour_point_in : (u2 v2 : ℕ) → OnFineFace n side u2 v2 → Within (2 * n) (neighbour_point n side u2 v2)
  neighbour_point_in u2 v2 h = point_in side (2 * n) u2 v2 (2 * n) (there_on h)

-- ---- in steps: m * origin, then u along U, v along V, w along W

-- each part of a unit vector is 0 or 1
pub record UnitVector (d : Direction) : Type 0 where
  pub up : Within 1 d.up
  pub down : Within 1 d.down

pub record UnitVectors (r : Rotation) : Type 0 where
  pub origin : Within 1 r.origin
  pub u : UnitVector r.u
  pub v : UnitVector r.v
  pub w : UnitVector r.w

abbrev pub stepped_by : ℕ → ℕ → ℕ → ℕ → ℕ
stepped_by at k up down = at + k * up - k * down

abbrev pub moved_by : Xyz → ℕ → Direction → Xyz
moved_by p k d =
    xyz (stepped_by p.x k d.up.x d.down.x) (stepped_by p.y k d.up.y d.down.y)
    (stepped_by p.z k d.up.z d.down.z)

-- one coordinate's step, which neither wraps nor takes away more than is there
pub record Step (at k up down : ℕ) : Type 0 where
  pub at_few : at ≤ most_fine
  pub k_few : k ≤ most_fine
  pub up_unit : up ≤ 1
  pub down_unit : down ≤ 1
  pub enough : k * down ≤ at + k * up

-- a move that takes away no more than is there
pub record Move (p : Xyz) (k : ℕ) (d : Direction) : Type 0 where
  pub few : k ≤ most_fine
  pub from : Within most_fine p
  pub x_enough : k * d.down.x ≤ p.x + k * d.up.x
  pub y_enough : k * d.down.y ≤ p.y + k * d.up.y
  pub z_enough : k * d.down.z ≤ p.z + k * d.up.z

abbrev pub corner : Rotation → ℕ → Xyz
corner r m = xyz (m * r.origin.x) (m * r.origin.y) (m * r.origin.z)

abbrev pub end : Rotation → ℕ → ℕ → ℕ → ℕ → Xyz
end r m u v w = moved_by (moved_by (moved_by (corner r m) u r.u) v r.v) w r.w

pub record Moves (r : Rotation) (m u v w : ℕ) : Type 0 where
  pub few : m ≤ most_fine
  pub by_u : Move (corner r m) u r.u
  pub by_v : Move (moved_by (corner r m) u r.u) v r.v
  pub by_w : Move (moved_by (moved_by (corner r m) u r.u) v r.v) w r.w
  pub x_is : (end r m u v w).x ≡ coordinate (λ p. p.x) r m u v w
  pub y_is : (end r m u v w).y ≡ coordinate (λ p. p.y) r m u v w
  pub z_is : (end r m u v w).z ≡ coordinate (λ p. p.z) r m u v w

pub units : (side : ℕ) → side < side_count → UnitVectors (rotation_of side)
unfolding rotation_of rotations
units =
    by_side (λ side. UnitVectors (rotation_of side)) (omega arith) (omega arith) (omega arith) (omega arith) (omega arith) (omega arith)

module _ (m u v w : ℕ) (few : m ≤ most_fine) (hu : u ≤ m) (hv : v ≤ m) (hw : w ≤ m) where
  pub moves : (side : ℕ) → side < side_count → Moves (rotation_of side) m u v w
  unfolding rotation_of rotations
  moves =
      by_side (λ side. Moves (rotation_of side) m u v w) (omega arith) (omega arith) (omega arith) (omega arith) (omega arith)
      (omega arith)

pub end_is : (r : Rotation) (m u v w : ℕ) → Moves r m u v w → end r m u v w ≡ point_from r m u v w
unfolding point_from
end_is r m u v w t = λ i. xyz (t.x_is i) (t.y_is i) (t.z_is i)

-- ---- a point of a side in steps, and w steps along W from the face's point

unmoved : (p : Xyz) (d : Direction) → moved_by p 0 d ≡ p
unmoved p d =
    let none : (at up down : ℕ) → stepped_by at 0 up down ≡ at = λ at up down. omega arith in
    λ i. xyz (none p.x d.up.x d.down.x i) (none p.y d.up.y d.down.y i) (none p.z d.up.z d.down.z i)

pub steps_there : {side m u v w : ℕ} → OnSide side m u v w → UnitVectors (rotation_of side) × Moves (rotation_of side) m u v w
steps_there {side} {m} {u} {v} {w} h =
    (units side h.side_is, moves m u v w h.few h.u_in h.v_in h.w_in side h.side_is)

module _ {side m u v w : ℕ} (h : OnSide side m u v w) where
  abbrev r : Rotation
  r = rotation_of side

  flat : OnSide side m u v 0
  flat = omega arith

  flat_is : point_from r m u v 0 ≡ moved_by (moved_by (corner r m) u r.u) v r.v
  flat_is = sym (end_is r m u v 0 (steps_there flat).1) ∙ unmoved _ r.w

  pub across_move : UnitVector r.w × Move (point_from r m u v 0) w r.w
  across_move = ((units side h.side_is).w, rw flat_is (steps_there h).1.by_w)

  pub across_is : moved_by (point_from r m u v 0) w r.w ≡ point_from r m u v w
  across_is = rw flat_is (end_is r m u v w (steps_there h).1)
