-- Document 02, [5]: the points of the named sides' faces in one row, by side, then u, then v; and 8 at each of them by the bits that stand there.
use Rattle.std.specs.Prelude.{ℕ, ◌+◌, ◌*◌, ◌/◌, ◌%◌, ◌≤◌, ◌<◌, ◌≡◌, Bool, true, false, cond, Float, length, get_or, drop}
use Rattle.std.proofs.Common.{add-mul, mul_comm, mul-le-mul_right, mul-pos, mod-lt, div-lt_iff_lt-mul, arith, sym, ap, ap₂, ◌∙◌, subst}
use Rattle.std.proofs.Math.Bool.{beq}
use mathlib.Core.List.{List, [], map}
use Rattle.std.specs.Int.Count.{ones}
use Rattle.std.specs.Float.Ieee.{nan}
use Rattle.std.proofs.lemmas.List.{length-map}
use Rattle.std.proofs.Math.Seq.{get_or-take, get_or-drop}
use Rattle.laws.specs.Counting.{gather}
use Rattle.laws.specs.Gathered.{gather_same}
use Rattle.model.specs.declared.FacePoint.{FacePoint}
use Rattle.model.specs.declared.Header.{Header}
use Rattle.model.specs.declared.Xyz.{Xyz}
use Rattle.model.specs.Limits.{most_subdivisions, most_mask, side_count}
use Rattle.model.specs.Samples.{sample_length, sample_of}
use Rattle.model.specs.Sides.{named, named_below, neighbour_length, neighbours_length, neighbour_of}
use Rattle.model.specs.Rotations.{face_point, neighbour_point}
use Rattle.model.specs.Formulas.{inside}
use Rattle.model.specs.Star.{neighbour_at}
use Rattle.model.specs.Points.{fine_sample}
use Rattle.model.specs.Judging.{faces_agree}
use Rattle.grid.specs.Shape.{Shaped}
use Rattle.grid.specs.Places.{Within, place_in_block, value_is, steps_sampled}
use Rattle.grid.specs.SideLaws.{NeighbourThere, named_below_lem, part_ends}
use Rattle.grid.specs.Counts.{most_samples, count_small}
use Rattle.grid.specs.RotationLaws.{OnFace, point_in}
use Rattle.grid.specs.Walks.{side_place, spot_in}
use Rattle.agreement.specs.Faces.{coarse_on, fine_on}
use Rattle.repair.specs.declared.Change.{Change}
use Rattle.repair.specs.declared.faces.Places.{Places}
use Rattle.repair.specs.Definition.{Delivery, value_of, as_star, place_at, change_unless, coarse_place, fine_place, mismatch_at, mismatches_at, mismatches}
use Rattle.repair.specs.Filled.{filled_bits, filled_in}
use Rattle.laws.specs.Rounds.{gather_if, gather_rounds, get_d_mapped}

abbrev pub spot_count : ℕ → ℕ
spot_count n = (n + 1) * (n + 1) * side_count

abbrev pub spot_of : ℕ → ℕ → FacePoint
spot_of n k =
    let m = n + 1 in
    record { side = k / (m * m); u = k % (m * m) / m; v = k % (m * m) % m }

pub record Spot (n mask : ℕ) (at : FacePoint) : Type 0 where
  pub sides : mask ≤ most_mask
  pub on : OnFace n at.side at.u at.v
  pub is_named : named mask at.side ≡ true

abbrev pub places_of : ℕ → ℕ → FacePoint → Places
places_of n mask at =
    record { coarse = coarse_place n at.side at.u at.v; fine = fine_place n mask at.side at.u at.v }

-- the two lie on the same side of the threshold
abbrev pub agree_bits : Float → ℕ → ℕ → Bool
agree_bits threshold here there = beq (inside threshold (value_of here)) (inside threshold (value_of there))

-- the change at a point, and at a spot of the row
abbrev pub change_at : Header → Delivery → FacePoint → List Change
change_at h d at = cond (named h.mask at.side) (mismatch_at h d at.side at.u at.v) []

abbrev pub mismatch_spot : Header → Delivery → ℕ → List Change
mismatch_spot h d k = change_at h d (spot_of h.block.subdivisions k)

pub in_one_row : (h : Header) (d : Delivery) → mismatches h d ≡ gather (mismatch_spot h d) (spot_count h.block.subdivisions)
unfolding mismatches
in_one_row h d =
    let m = h.block.subdivisions + 1 in
    let on_side : ℕ → ℕ → List Change = λ side k. cond (named h.mask side) (mismatch_at h d side (k / m) (k % m)) [] in
    gather_same (mismatches_at h d) (λ side. gather (on_side side) (m * m)) side_count
    (λ side _.
    ap (λ (l : List Change). cond (named h.mask side) l []) (gather_rounds m (mismatch_at h d side) m)
    ∙ gather_if (named h.mask side) (λ k. mismatch_at h d side (k / m) (k % m)) (m * m))
    ∙ gather_rounds (m * m) on_side side_count

pub spot_on : (n k : ℕ) → n ≤ most_subdivisions → k < spot_count n → OnFace n (spot_of n k).side (spot_of n k).u (spot_of n k).v
spot_on n k few h =
    let m = n + 1 in
    let some : 0 < m = omega arith in
    let square : 0 < m * m = mul-pos some some in
    let side_in : k / (m * m) < side_count = (div-lt_iff_lt-mul square).1 (omega (arith, mul_comm side_count (m * m))) in
    let u_in : k % (m * m) / m < m = (div-lt_iff_lt-mul some).1 (mod-lt k square) in
    let v_in : k % (m * m) % m < m = mod-lt (k % (m * m)) some in
    record { few = few; side_is = side_in; u_in = omega arith; v_in = omega arith }

-- ---- where the samples stand

sample_at : (m : ℕ) (samples : List Float) (p : Xyz) → Within m p → sample_of m samples p ≡ get_or samples (place_at m p) nan
sample_at m samples p h = value_is m (p.x + 1) (p.y + 1) (p.z + 1) samples (steps_sampled m p h).here

module _ (n side u v : ℕ) (on : OnFace n side u v) where
  pub coarse_is : coarse_place n side u v ≡ side_place n side 0 u v
  unfolding side_place
  coarse_is =
      let p = face_point n side u v in
      let h = point_in side n u v 0 (coarse_on on) in
      place_in_block n p.x p.y p.z h.x_in h.y_in h.z_in

  pub fine_is : place_at (2 * n) (neighbour_point n side (2 * u) (2 * v)) ≡ side_place (2 * n) side (2 * n) (2 * u) (2 * v)
  unfolding side_place
  fine_is =
      let p = neighbour_point n side (2 * u) (2 * v) in
      let h = point_in side (2 * n) (2 * u) (2 * v) (2 * n) (fine_on on) in
      place_in_block (2 * n) p.x p.y p.z h.x_in h.y_in h.z_in

  pub fine_in : place_at (2 * n) (neighbour_point n side (2 * u) (2 * v)) < neighbour_length n
  fine_in = rw fine_is (spot_in (2 * n) side (2 * n) (2 * u) (2 * v) (fine_on on))

-- ---- how large these places are

pub part_small : (n mask side : ℕ) → n ≤ most_subdivisions → mask ≤ most_mask → side < side_count → named mask side ≡ true
    → named_below mask side * neighbour_length n + neighbour_length n ≤ most_samples
part_small n mask side few sides h is =
    let l = neighbour_length n in
    let b = named_below mask side in
    let e : (b + 1) * l ≤ ones mask * l = mul-le-mul_right l (omega (arith, named_below_lem mask side sides h is)) in
    omega (arith, add-mul b 1 l, count_small n mask few sides)

pub places_small : (n mask : ℕ) (at : FacePoint) → Spot n mask at → ((places_of n mask at).coarse < most_samples) × ((places_of n mask at).fine < most_samples)
places_small n mask at s = (
  omega (
    arith,
    coarse_is n at.side at.u at.v s.on,
    spot_in n at.side 0 at.u at.v (coarse_on s.on),
    count_small n mask s.on.few s.sides,
  ),
  omega (
    arith,
    part_small n mask at.side s.on.few s.sides s.on.side_is s.is_named,
    fine_in n at.side at.u at.v s.on,
  ),
)

-- ---- 8 by the bits that stand there

module _ (h : Header) (d : Delivery) (shaped : Shaped (as_star h d)) where
  abbrev n : ℕ
  n = h.block.subdivisions

  centre_long : length d.centre ≡ sample_length n
  centre_long = rw length-map at shaped.centre_is

  neighbours_long : length d.neighbours ≡ neighbours_length n h.mask
  neighbours_long = rw length-map at shaped.neighbours_are

  pub centre_small : length d.centre ≤ most_samples
  centre_small = omega (arith, centre_long, count_small n h.mask shaped.few shaped.sides)

  pub neighbours_small : length d.neighbours ≤ most_samples
  neighbours_small = omega (arith, neighbours_long, count_small n h.mask shaped.few shaped.sides)

  module _ (side u v : ℕ) (on : OnFace n side u v) (is : named h.mask side ≡ true) where
    pub coarse_held : coarse_place n side u v < length d.centre
    coarse_held = rw (coarse_is n side u v on, centre_long) (spot_in n side 0 u v (coarse_on on))

    part_held : named_below h.mask side * neighbour_length n + neighbour_length n ≤ length d.neighbours
    part_held =
        let there : NeighbourThere n h.mask (map value_of d.neighbours) side =
        record { few = shaped.few; sides = shaped.sides; side_is = on.side_is; is_named = is; neighbours_are = shaped.neighbours_are } in
        rw length-map at (part_ends n h.mask (map value_of d.neighbours) side there)

    pub fine_held : fine_place n h.mask side u v < length d.neighbours
    fine_held = omega (arith, part_held, fine_in n side u v on)

    -- the samples that 8 compares
    coarse_sample : sample_of n (map value_of d.centre) (face_point n side u v) ≡ value_of (get_or d.centre (coarse_place n side u v) 0)
    coarse_sample =
        sample_at n (map value_of d.centre) (face_point n side u v) (point_in side n u v 0 (coarse_on on))
        ∙ get_d_mapped value_of d.centre (coarse_place n side u v) 0 nan coarse_held

    fine_sample_lem : fine_sample (as_star h d) side (2 * u) (2 * v) ≡ value_of (get_or d.neighbours (fine_place n h.mask side u v) 0)
    unfolding fine_sample neighbour_of
    fine_sample_lem =
        let part = named_below h.mask side * neighbour_length n in
        let p = neighbour_point n side (2 * u) (2 * v) in
        let at = place_at (2 * n) p in
        let samples = map value_of d.neighbours in
        sample_at (2 * n) (neighbour_at (as_star h d) side) p (point_in side (2 * n) (2 * u) (2 * v) (2 * n) (fine_on on))
        ∙ get_or-take (neighbour_length n) (drop part samples) at nan (fine_in n side u v on)
        ∙ get_or-drop part samples at nan ∙ get_d_mapped value_of d.neighbours (part + at) 0 nan fine_held

    pub agree_is : faces_agree (as_star h d) side u v
        ≡ agree_bits h.threshold (get_or d.centre (coarse_place n side u v) 0) (get_or d.neighbours (fine_place n h.mask side u v) 0)
    unfolding faces_agree
    agree_is = λ i. beq (inside h.threshold (coarse_sample i)) (inside h.threshold (fine_sample_lem i))

-- ---- the change at a spot, as the fillers leave the samples

pub same_shape : (h : Header) (one other : Delivery) → length other.centre ≡ length one.centre → length other.neighbours ≡ length one.neighbours
    → Shaped (as_star h one) → Shaped (as_star h other)
same_shape h one other centre neighbours shaped =
    record {
      some = shaped.some;
      few = shaped.few;
      sides = shaped.sides;
      centre_is = length-map other.centre value_of ∙ centre ∙ centre_long h one shaped;
      neighbours_are = length-map other.neighbours value_of ∙ neighbours ∙ neighbours_long h one shaped;
    }

pub filled_shaped : (h : Header) (filler : ℕ) (d : Delivery) → Shaped (as_star h d) → Shaped (as_star h (filled_in filler d))
filled_shaped h filler d = same_shape h d (filled_in filler d) (length-map d.centre (filled_bits filler)) (length-map d.neighbours (filled_bits filler))

module _ (h : Header) (filler : ℕ) (d : Delivery) (shaped : Shaped (as_star h d)) (side u v : ℕ) (on : OnFace h.block.subdivisions side u v)
    (is : named h.mask side ≡ true) where
  abbrev filled : Delivery
  filled = filled_in filler d

  abbrev coarse : ℕ
  coarse = coarse_place h.block.subdivisions side u v

  abbrev fine : ℕ
  fine = fine_place h.block.subdivisions h.mask side u v

  coarse_filled : get_or filled.centre coarse 0 ≡ filled_bits filler (get_or d.centre coarse 0)
  coarse_filled = get_d_mapped (filled_bits filler) d.centre coarse 0 0 (coarse_held h d shaped side u v on is)

  fine_filled : get_or filled.neighbours fine 0 ≡ filled_bits filler (get_or d.neighbours fine 0)
  fine_filled = get_d_mapped (filled_bits filler) d.neighbours fine 0 0 (fine_held h d shaped side u v on is)

  -- by what is read there and found of it
  mismatch_is : {agree : Bool} {here there : ℕ} → here ≡ filled_bits filler (get_or d.centre coarse 0)
      → there ≡ filled_bits filler (get_or d.neighbours fine 0) → agree ≡ agree_bits h.threshold here there
      → change_unless agree (record { list = 1; place = fine; old = there; new = here }) ≡ mismatch_at h filled side u v
  mismatch_is {agree} {here} {there} here-is there-is found =
      let coarse_bits : here ≡ get_or filled.centre coarse 0 = here-is ∙ sym coarse_filled in
      let fine_bits : there ≡ get_or filled.neighbours fine 0 = there-is ∙ sym fine_filled in
      let judged : agree ≡ faces_agree (as_star h filled) side u v =
      found ∙ ap₂ (agree_bits h.threshold) coarse_bits fine_bits
      ∙ sym (agree_is h filled (filled_shaped h filler d shaped) side u v on is) in
      λ i. change_unless (judged i) (record { list = 1; place = fine; old = fine_bits i; new = coarse_bits i })

-- ---- the same of a spot of the row, by what the calls found

module _ (h : Header) (filler : ℕ) (d : Delivery) (shaped : Shaped (as_star h d)) (k : ℕ) (in_row : k < spot_count h.block.subdivisions)
    {at : FacePoint} (at-is : at ≡ spot_of h.block.subdivisions k) where
  pub on_spot : OnFace h.block.subdivisions at.side at.u at.v
  on_spot = subst (λ (at : FacePoint). OnFace h.block.subdivisions at.side at.u at.v) (sym at-is) (spot_on h.block.subdivisions k shaped.few in_row)

  pub nothing_at : named h.mask at.side ≡ false → [] ≡ mismatch_spot h (filled_in filler d) k
  nothing_at is =
      let here : [] ≡ change_at h (filled_in filler d) at = rw is in
      here ∙ ap (change_at h (filled_in filler d)) at-is

  pub found_at : {places : Places} {agree : Bool} {here there : ℕ} → named h.mask at.side ≡ true
      → places ≡ places_of h.block.subdivisions h.mask at → here ≡ filled_bits filler (get_or d.centre places.coarse 0)
      → there ≡ filled_bits filler (get_or d.neighbours places.fine 0) → agree ≡ agree_bits h.threshold here there
      → change_unless agree (record { list = 1; place = places.fine; old = there; new = here }) ≡ mismatch_spot h (filled_in filler d) k
  found_at {places} {agree} {here} {there} is places_are here-is there-is found =
      let here-bits = here-is ∙ ap (λ (p : Places). filled_bits filler (get_or d.centre p.coarse 0)) places_are in
      let there-bits = there-is ∙ ap (λ (p : Places). filled_bits filler (get_or d.neighbours p.fine 0)) places_are in
      let named_here : mismatch_at h (filled_in filler d) at.side at.u at.v ≡ change_at h (filled_in filler d) at = rw is in
      ap (λ (p : Places). change_unless agree (record { list = 1; place = p.fine; old = there; new = here })) places_are
      ∙ mismatch_is h filler d shaped at.side at.u at.v on_spot is here-bits there-bits found
      ∙ named_here ∙ ap (change_at h (filled_in filler d)) at-is
