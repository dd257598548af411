-- Document 02, [5]: no two points of the named sides' faces have their fine sample at one place.
use Rattle.std.specs.Prelude.{ℕ, ◌+◌, ◌*◌, ◌/◌, ◌%◌, ◌≤◌, ◌<◌, ◌≡◌, Bool, true, T, eqb}
use Rattle.std.proofs.Common.{mul_comm, sym, ap, ◌∙◌, eqb→eq}
use Rattle.std.proofs.Math.Nat.{div-add-mod}
use native.Mathlib.Omega.{arith}
use Rattle.std.specs.Int.Count.{ones, ones_in}
use Rattle.laws.specs.Iterated.{upper, lower}
use Rattle.laws.specs.Tests.{eq→eqb, both, then, then_holds, below, all, all₂}
use Rattle.model.specs.declared.Xyz.{Xyz}
use Rattle.model.specs.Limits.{most_subdivisions, side_count, most_mask}
use Rattle.model.specs.Samples.{in_block}
use Rattle.model.specs.Sides.{named, named_below, neighbour_length}
use Rattle.model.specs.Rotations.{xyz, rotations, rotation_of, coordinate, point_from, neighbour_point}
use Rattle.grid.specs.Places.{Within}
use Rattle.grid.specs.Nesting.{in_block_digits}
use Rattle.grid.specs.RotationLaws.{OnFace, by_side, point_in}
use Rattle.grid.specs.Walks.{side_place}
use Rattle.agreement.specs.Faces.{fine_on}
use Rattle.repair.specs.Definition.{place_at, fine_place}
use Rattle.repair.specs.Faces.{spot_count, spot_of, spot_on, fine_is, fine_in}

-- ---- numbers of two digits

module _ (base a b : ℕ) {x y : ℕ} (hx : x < base) (hy : y < base) (e : base * a + x ≡ base * b + y) where
  same_upper : a ≡ b
  same_upper = sym (upper base a x hx) ∙ ap (λ (k : ℕ). k / base) e ∙ upper base b y hy

  same_lower : x ≡ y
  same_lower = sym (lower base a x hx) ∙ ap (λ (k : ℕ). k % base) e ∙ lower base b y hy

-- ---- points of a block

same_place : (m : ℕ) (p q : Xyz) → Within m p → Within m q → in_block m p.x p.y p.z ≡ in_block m q.x q.y q.z → p ≡ q
same_place m p q hp hq e =
    let b = m + 1 in
    let digits : (r : Xyz) → in_block m r.x r.y r.z ≡ b * (b * r.x + r.y) + r.z = λ r. in_block_digits m r.x r.y r.z in
    let f : b * (b * p.x + p.y) + p.z ≡ b * (b * q.x + q.y) + q.z = sym (digits p) ∙ e ∙ digits q in
    let pz : p.z < b = omega (arith, hp.z_in) in
    let qz : q.z < b = omega (arith, hq.z_in) in
    let py : p.y < b = omega (arith, hp.y_in) in
    let qy : q.y < b = omega (arith, hq.y_in) in
    let g : b * p.x + p.y ≡ b * q.x + q.y = same_upper b (b * p.x + p.y) (b * q.x + q.y) pz qz f in
    λ i. xyz (same_upper b p.x q.x py qy g i) (same_lower b p.x q.x py qy g i) (same_lower b (b * p.x + p.y) (b * q.x + q.y) pz qz f i)

module _ (m u v u' v' w : ℕ) (hu : u ≤ m) (hv : v ≤ m) (hu' : u' ≤ m) (hv' : v' ≤ m) (hw : w ≤ m) where
  abbrev Same : (Xyz → ℕ) → ℕ → Type 0
  Same on side = coordinate on (rotation_of side) m u v w ≡ coordinate on (rotation_of side) m u' v' w

  turned_back : (side : ℕ) → side < side_count
      → Same (λ p. p.x) side → Same (λ p. p.y) side → Same (λ p. p.z) side → (u ≡ u') × (v ≡ v')
  unfolding rotation_of rotations
  turned_back =
      by_side (λ side. Same (λ p. p.x) side → Same (λ p. p.y) side → Same (λ p. p.z) side → (u ≡ u') × (v ≡ v'))
      (λ x y z. (omega arith, omega arith)) (λ x y z. (omega arith, omega arith)) (λ x y z. (omega arith, omega arith))
      (λ x y z. (omega arith, omega arith)) (λ x y z. (omega arith, omega arith)) (λ x y z. (omega arith, omega arith))

  same_point : (side : ℕ) → side < side_count → point_from (rotation_of side) m u v w ≡ point_from (rotation_of side) m u' v' w → (u ≡ u') × (v ≡ v')
  unfolding point_from
  same_point side h e =
      turned_back side h (ap (λ (p : Xyz). p.x) e) (ap (λ (p : Xyz). p.y) e) (ap (λ (p : Xyz). p.z) e)

-- ---- sides

abbrev told_apart : ℕ → ℕ → ℕ → Bool
told_apart mask s t = then (named mask s) (then (named mask t) (then (eqb (named_below mask s) (named_below mask t)) (eqb s t)))

all_told : T (below (λ mask. below (λ s. below (told_apart mask s) side_count) side_count) (most_mask + 1))
unfolding both then named ones ones_in
all_told = tt

same_side : (mask s t : ℕ) → mask ≤ most_mask → s < side_count → t < side_count → named mask s ≡ true → named mask t ≡ true
    → named_below mask s ≡ named_below mask t → s ≡ t
same_side mask s t few hs ht is-s is-t e =
    let test = all₂ (λ m s. below (told_apart m s) side_count) (most_mask + 1) side_count all_told mask s (omega arith) hs in
    eqb→eq s t (then_holds _ _ (then_holds _ _ (then_holds _ _ (all (told_apart mask s) side_count test t ht) (rw is-s tt)) (rw is-t tt)) (eq→eqb _ _ e))

-- ---- points of the faces

module _ (n mask : ℕ) (sides : mask ≤ most_mask) {s t u v u' v' : ℕ} (on : OnFace n s u v) (on' : OnFace n t u' v')
    (is-s : named mask s ≡ true) (is-t : named mask t ≡ true) (e : fine_place n mask s u v ≡ fine_place n mask t u' v') where
  abbrev l : ℕ
  l = neighbour_length n

  in_parts : l * named_below mask s + place_at (2 * n) (neighbour_point n s (2 * u) (2 * v)) ≡ l * named_below mask t + place_at (2 * n) (neighbour_point n t (2 * u') (2 * v'))
  in_parts = omega (arith, e, mul_comm l (named_below mask s), mul_comm l (named_below mask t))

  sides_same : s ≡ t
  sides_same =
      same_side mask s t sides on.side_is on'.side_is is-s is-t (same_upper l (named_below mask s) (named_below mask t) (fine_in n s u v on) (fine_in n t u' v' on') in_parts)

module _ (n : ℕ) {side u v u' v' : ℕ} (on : OnFace n side u v) (on' : OnFace n side u' v')
    (e : place_at (2 * n) (neighbour_point n side (2 * u) (2 * v)) ≡ place_at (2 * n) (neighbour_point n side (2 * u') (2 * v'))) where
  points_same : neighbour_point n side (2 * u) (2 * v) ≡ neighbour_point n side (2 * u') (2 * v')
  unfolding side_place
  points_same =
      same_place (2 * n) _ _ (point_in side (2 * n) (2 * u) (2 * v) (2 * n) (fine_on on)) (point_in side (2 * n) (2 * u') (2 * v') (2 * n) (fine_on on'))
      (sym (fine_is n side u v on) ∙ e ∙ fine_is n side u' v' on')

  steps_same : (u ≡ u') × (v ≡ v')
  steps_same =
      let twice =
      same_point (2 * n) (2 * u) (2 * v) (2 * u') (2 * v') (2 * n) (omega (arith, on.u_in)) (omega (arith, on.v_in)) (omega (arith, on'.u_in))
      (omega (arith, on'.v_in)) (omega arith) side on.side_is points_same in
      (omega (arith, twice.0), omega (arith, twice.1))

-- ---- spots of the row

-- a spot's number from its side, u and v
numbered : (n k : ℕ) → let m = n + 1 in let at = spot_of n k in m * m * at.side + (m * at.u + at.v) ≡ k
numbered n k =
    let m = n + 1 in
    ap (λ (i : ℕ). m * m * (k / (m * m)) + i) (div-add-mod (k % (m * m)) m) ∙ div-add-mod k (m * m)

pub spots_apart : (n mask j k : ℕ) → n ≤ most_subdivisions → mask ≤ most_mask → j < spot_count n → k < spot_count n
    → let a = spot_of n j in let b = spot_of n k in
    named mask a.side ≡ true → named mask b.side ≡ true
    → fine_place n mask a.side a.u a.v ≡ fine_place n mask b.side b.u b.v → j ≡ k
spots_apart n mask j k few sides hj hk is-a is_b e =
    let a = spot_of n j in
    let b = spot_of n k in
    let m = n + 1 in
    let on_a = spot_on n j few hj in
    let on_b = spot_on n k few hk in
    let same = sides_same n mask sides on_a on_b is-a is_b e in
    let on_there : OnFace n a.side b.u b.v = rw same on_b in
    let below : (s : ℕ) → s ≡ a.side → fine_place n mask s b.u b.v ≡ fine_place n mask a.side b.u b.v =
    λ s q. ap (λ (s : ℕ). fine_place n mask s b.u b.v) q in
    let f : fine_place n mask a.side a.u a.v ≡ fine_place n mask a.side b.u b.v = e ∙ below b.side (sym same) in
    let steps = steps_same n on_a on_there (omega (arith, f)) in
    sym (numbered n j)
    ∙ (λ i. m * m * same i + (m * steps.0 i + steps.1 i))
    ∙ numbered n k
