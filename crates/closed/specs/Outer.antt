-- What the outer faces of a block show: no side between two grid edges that do not both lie in one of them.
use Rattle.std.specs.Prelude.{◌≡◌, refl, ◌⊎◌, not, ℕ, zero, suc, ◌+◌, ◌/◌, ◌%◌, ◌≤◌, ◌<◌, eqb}
use Rattle.std.proofs.Common.{ap, ◌∙◌, inl, inr, arith, eqb→eq}
use Rattle.std.proofs.Math.Dec.{T}
use Rattle.tables.specs.Codes.{point_a, point_b}
use Rattle.tables.specs.Corners.{bit}
use Rattle.laws.specs.Tests.{both_left, both_right}
use Rattle.laws.specs.Counting.{one}
use Rattle.tables.specs.Sides.{far_ends, near_edge, near_side, shown}
use Rattle.model.specs.Rotations.{xyz}
use Rattle.model.specs.Star.{Star, subdivisions}
use Rattle.model.specs.Points.{corner_point}
use Rattle.closed.specs.Clauses.{Edge, number, OfBlock, OfCell, part, InFace, InnerPair}
use Rattle.laws.specs.Sums.{square_none, border}
use Rattle.closed.specs.Places.{number_one}
use Rattle.closed.specs.Cells.{code_edge, byte_own, byte_high, in_block}
use Rattle.closed.specs.Weighing.{weighed_never}
use Rattle.closed.specs.Flux.{shown_near, weight, face_bits, face_runs}

-- ---- the edges of a face

part_kept : (d x y z c : ℕ) → d < 3 → bit c d ≡ 0 → part d (corner_point x y z c) ≡ part d (xyz x y z)
unfolding bit
part_kept zero x y z c h e = omega arith
part_kept (suc zero) x y z c h e = omega arith
part_kept (suc (suc zero)) x y z c h e = omega arith
part_kept (suc (suc (suc d))) x y z c h e = absurd (omega arith)

none_far : (a b : ℕ) → a + b ≡ 0 → (a ≡ 0) × (b ≡ 0)
none_far a b e = (omega arith, omega arith)

pub near_in_face : (d x y z p : ℕ) → d < 3 → T (near_edge d p) → InFace d (part d (xyz x y z)) (code_edge x y z p)
unfolding near_edge far_ends
near_in_face d x y z p h t =
    let e = none_far _ _ (eqb→eq (far_ends d p) 0 (both_left _ _ t)) in
    record {
      low_in = part_kept d x y z (point_a p) h e.0;
      high_in = ap (part d) (byte_high p (both_right _ _ t) x y z) ∙ part_kept d x y z (point_b p) h e.1;
    }

-- (x, y, z) is the lowest corner of a face of the grid across direction d
pub record IsFace (s : Star) (d x y z : ℕ) : Type 0 where
  pub x_in : x + one (not (eqb d 0)) ≤ subdivisions s
  pub y_in : y + one (not (eqb d 1)) ≤ subdivisions s
  pub z_in : z + one (not (eqb d 2)) ≤ subdivisions s

pub face_of_block : (s : Star) (d x y z : ℕ) (e : Edge) → d < 3 → IsFace s d x y z → OfCell x y z e → InFace d (part d (xyz x y z)) e → OfBlock s e
face_of_block s zero x y z e h f o i =
    in_block s o (omega (arith, f.x_in, i.high_in)) (omega (arith, f.y_in, o.high_y)) (omega (arith, f.z_in, o.high_z))
face_of_block s (suc zero) x y z e h f o i =
    in_block s o (omega (arith, f.x_in, o.high_x)) (omega (arith, f.y_in, i.high_in)) (omega (arith, f.z_in, o.high_z))
face_of_block s (suc (suc zero)) x y z e h f o i =
    in_block s o (omega (arith, f.x_in, o.high_x)) (omega (arith, f.y_in, o.high_y)) (omega (arith, f.z_in, i.high_in))
face_of_block s (suc (suc (suc d))) x y z e h f o i = absurd (omega arith)

-- ---- what it shows

module _ (s : Star) (e f : Edge) (he : OfBlock s e) (hf : OfBlock s f) (inner : InnerPair s e f) where
  module _ (d x y z : ℕ) (hd : d < 3) (face : IsFace s d x y z) (outer : (part d (xyz x y z) ≡ 0) ⊎ (part d (xyz x y z) ≡ subdivisions s)) where
    lies : (p : ℕ) (e : Edge) → OfBlock s e → T (near_edge d p) → number s (code_edge x y z p) ≡ number s e
        → InFace d (part d (xyz x y z)) e
    unfolding near_edge
    lies p e he t q =
        let i = near_in_face d x y z p hd t in
        let o = face_of_block s d x y z _ hd face (byte_own p (both_right _ _ t) x y z) i in
        rw (number_one s _ e o he q) at i

    shows_none : face_runs s (number s e) (number s f) d x y z ≡ 0
    unfolding face_runs weight near_side
    shows_none =
        weighed_never (λ p. number s (code_edge x y z p)) (number s e) (number s f) (λ k. (k < 65536) × T (near_side d k)) (shown d (face_bits s d x y z))
        (λ k t q r.
        inner d (part d (xyz x y z)) hd outer (lies (k / 256) e he (both_left _ _ t.1) q) (lies (k % 256) f hf (both_right _ _ t.1) r))
        (shown_near d (face_bits s d x y z))

-- ---- the border

less : {u n : ℕ} → u < n → u + 1 ≤ n
less h = omega arith

same : (n : ℕ) → n + 0 ≤ n
same n = omega arith

pub border_none : (s : Star) (e f : Edge) → OfBlock s e → OfBlock s f → InnerPair s e f
    → let g = number s e in let h = number s f in border (face_runs s g h) (face_runs s h g) (subdivisions s) ≡ 0
border_none s e f he hf inner =
    let n = subdivisions s in
    let forth = shows_none s e f he hf inner in
    let back = shows_none s f e hf he (λ d v h o i j. inner d v h o j i) in
    omega (
      arith,
      square_none _ n (λ u v hu hv. forth 0 n u v (omega arith) (record { x_in = same n; y_in = less hu; z_in = less hv }) (inr refl)),
      square_none _ n (λ u v hu hv. back 0 0 u v (omega arith) (record { x_in = omega arith; y_in = less hu; z_in = less hv }) (inl refl)),
      square_none _ n (λ u v hu hv. forth 1 u n v (omega arith) (record { x_in = less hu; y_in = same n; z_in = less hv }) (inr refl)),
      square_none _ n (λ u v hu hv. back 1 u 0 v (omega arith) (record { x_in = less hu; y_in = omega arith; z_in = less hv }) (inl refl)),
      square_none _ n (λ u v hu hv. forth 2 u v n (omega arith) (record { x_in = less hu; y_in = less hv; z_in = same n }) (inr refl)),
      square_none _ n (λ u v hu hv. back 2 u v 0 (omega arith) (record { x_in = less hu; y_in = less hv; z_in = omega arith }) (inl refl)),
    )
