-- Document 02, [5]: what a repair leaves. After it 7 and 8 cannot be met; where they are not met, nothing is listed, so a second pass lists nothing.
use Rattle.std.specs.Prelude.{ℕ, zero, suc, ◌+◌, ◌*◌, ◌/◌, ◌%◌, ◌<◌, ◌≡◌, Bool, eqb, length, get_or, set, Ok}
use Rattle.std.proofs.Common.{mul-suc, mul-le-mul_left, le_refl, arith, sym, ◌∙◌, subst, eqb-true, get_or-set_same, get_or-set_other}
use Rattle.std.proofs.Math.Nat.{le_step}
use Rattle.std.proofs.Math.Path.{refl, ap, ap₂}
use Rattle.std.proofs.Math.Bool.{true, false, cond}
use mathlib.Core.List.{List, [], ◌++◌, map}
use Rattle.std.proofs.lemmas.Bool.{eqb-false}
use Rattle.std.proofs.lemmas.List.{length-map}
use Rattle.laws.specs.Counting.{gather}
use Rattle.laws.specs.Iterated.{upper, lower}
use Rattle.laws.specs.Ranges.{eq_beq}
use Rattle.laws.specs.Rounds.{gather_none, get_d_mapped}
use Rattle.model.specs.declared.FacePoint.{FacePoint}
use Rattle.model.specs.declared.Header.{Header}
use Rattle.model.specs.Limits.{side_count}
use Rattle.model.specs.Sides.{named}
use Rattle.model.specs.Formulas.{inside}
use Rattle.model.specs.Judging.{usable, judge_samples, faces_agree, judge_faces}
use Rattle.grid.specs.Shape.{Shaped}
use Rattle.grid.specs.RotationLaws.{OnFace}
use Rattle.agreement.specs.Faces.{AllAgree, faces_agree_lem, faces_pass}
use Rattle.repair.specs.declared.Change.{Change}
use Rattle.repair.specs.Definition.{Delivery, value_of, as_star, applied, change_unless, filler_at, fillers_in, fillers, coarse_place, mismatch_at, mismatches, changes_of}
use Rattle.repair.specs.Spots.{applied_append, length_applied, Row, turn, after, applied_spots, after_here, length_after}
use Rattle.repair.specs.Filled.{filled_bits, filled_in, fillers_leave}
use Rattle.repair.specs.Faces.{spot_count, spot_of, agree_bits, spot_on, coarse_held, agree_is, same_shape, filled_shaped}
use Rattle.repair.specs.Apart.{spots_apart}
use Rattle.repair.specs.Told.{face_row, by_spots, bad_named, place_held}
use Rattle.repair.specs.Judged.{AllUsable, lists_pass, lists_usable}

-- ---- where 7 and 8 are not met

module _ (h : Header) (filler : ℕ) (d : Delivery) (centre : AllUsable d.centre) (neighbours : AllUsable d.neighbours) (agree : AllAgree (as_star h d)) where
  none_filled : (list : ℕ) (bits : List ℕ) → AllUsable bits → fillers_in list filler bits ≡ []
  none_filled list bits all =
      gather_none (filler_at list filler bits) (length bits)
      (λ k l. ap (λ (b : Bool). change_unless b (record { list = list; place = k; old = get_or bits k 0; new = filler })) (all k l))

  abbrev m : ℕ
  m = h.block.subdivisions + 1

  none_mismatched : mismatches h d ≡ []
  unfolding mismatches
  none_mismatched = gather_none _ side_count (λ side l. of_side side l (named h.mask side) refl)
    where
      of_side : (side : ℕ) → side < side_count → (b : Bool) → named h.mask side ≡ b
          → cond b (gather (λ u. gather (mismatch_at h d side u) m) m) [] ≡ []
      of_side side l true is =
          gather_none _ m (λ u hu. gather_none (mismatch_at h d side u) m (λ v hv. rw (agree side u v l is (omega arith) (omega arith))))
      of_side side l false is = refl

  nothing_listed : changes_of h filler d ≡ []
  unfolding changes_of
  nothing_listed =
      let none : fillers filler d ≡ [] = ap₂ ◌++◌ (none_filled 0 d.centre centre) (none_filled 1 d.neighbours neighbours) in
      ap (λ (l : List Change). l ++ mismatches h (applied l d)) none ∙ none_mismatched

-- ---- what stands at the places after the changes of the spots

module _ (row : Row) (P : ℕ → Type 0) where
  turn_each : (k : ℕ) (bits : List ℕ) → ((at : ℕ) → at < length bits → P (get_or bits at 0)) → (row.good k ≡ false → P (row.new k))
      → (at : ℕ) → at < length bits → P (get_or (turn row k bits) at 0)
  turn_each k bits all here at h = by (row.good k) refl
    where
      at_place : (b : Bool) → eqb at (row.place k) ≡ b → P (row.new k) → P (get_or (set bits (row.place k) (row.new k)) at 0)
      at_place true e w =
          let same = eqb-true at (row.place k) e in
          subst (λ (j : ℕ). P (get_or (set bits (row.place k) (row.new k)) j 0)) (sym same)
          (subst P (sym (get_or-set_same bits (row.place k) (row.new k) 0 (subst (λ (j : ℕ). j < length bits) same h))) w)
      at_place false e w = subst P (sym (get_or-set_other bits (row.place k) at (row.new k) 0 (eqb-false at (row.place k) e))) (all at h)

      by : (b : Bool) → row.good k ≡ b → P (get_or (cond b bits (set bits (row.place k) (row.new k))) at 0)
      by true e = all at h
      by false e = at_place (eqb at (row.place k)) refl (here e)

  after_each : (n : ℕ) (bits : List ℕ) → ((at : ℕ) → at < length bits → P (get_or bits at 0)) → ((k : ℕ) → k < n → row.good k ≡ false → P (row.new k))
      → (at : ℕ) → at < length bits → P (get_or (after row n bits) at 0)
  after_each zero bits all here at h = all at h
  after_each (suc n) bits all here at h =
      let long = length_after row n bits in
      turn_each n (after row n bits)
      (λ k l. after_each n bits all (λ j m. here j (le_step m)) k (rw long at l)) (here n (le_refl _)) at (rw long h)

-- ---- a point's spot

module _ (n side u v : ℕ) (hu : u < n + 1) (hv : v < n + 1) where
  abbrev spot_number : ℕ
  spot_number = (n + 1) * (n + 1) * side + ((n + 1) * u + v)

  in_face : (n + 1) * u + v < (n + 1) * (n + 1)
  in_face = omega (arith, mul-suc (n + 1) u, mul-le-mul_left (n + 1) hu)

  spot_in_row : side < side_count → spot_number < spot_count n
  spot_in_row h = omega (arith, in_face, mul-suc ((n + 1) * (n + 1)) side, mul-le-mul_left ((n + 1) * (n + 1)) h)

  spot_back : spot_of n spot_number ≡ record { side = side; u = u; v = v }
  spot_back =
      let at : spot_number % ((n + 1) * (n + 1)) ≡ (n + 1) * u + v = lower ((n + 1) * (n + 1)) side ((n + 1) * u + v) in_face in
      λ i.
      record {
        side = upper ((n + 1) * (n + 1)) side ((n + 1) * u + v) in_face i;
        u = (ap (λ (k : ℕ). k / (n + 1)) at ∙ upper (n + 1) u v hv) i;
        v = (ap (λ (k : ℕ). k % (n + 1)) at ∙ lower (n + 1) u v hv) i;
      }

-- ---- after the repair

filled_usable : (filler : ℕ) (bits : List ℕ) → usable (value_of filler) ≡ true → AllUsable (map (filled_bits filler) bits)
filled_usable filler bits is k h =
    let l : k < length bits = rw length-map at h in
    ap (λ (b : ℕ). usable (value_of b)) (get_d_mapped (filled_bits filler) bits k 0 0 l) ∙ by (usable (value_of (get_or bits k 0))) refl
  where
    by : (b : Bool) → usable (value_of (get_or bits k 0)) ≡ b → usable (value_of (cond b (get_or bits k 0) filler)) ≡ true
    by true e = e
    by false e = is

module _ (h : Header) (filler : ℕ) (d : Delivery) (shaped : Shaped (as_star h d)) (is : usable (value_of filler) ≡ true) where
  abbrev n : ℕ
  n = h.block.subdivisions

  abbrev filled : Delivery
  filled = filled_in filler d

  abbrev mended : List ℕ
  mended = after (face_row h filled) (spot_count n) filled.neighbours

  abbrev pub repaired : Delivery
  repaired = applied (changes_of h filler d) d

  repaired_is : repaired ≡ record { centre = filled.centre; neighbours = mended }
  unfolding changes_of
  repaired_is =
      applied_append (fillers filler d) (mismatches h (applied (fillers filler d) d)) d
      ∙ ap (λ (e : Delivery). applied (mismatches h e) e) (fillers_leave filler d)
      ∙ ap (λ (l : List Change). applied l filled) (by_spots h filled)
      ∙ applied_spots 1 (face_row h filled) (spot_count n) filled

  repaired_shaped : Shaped (as_star h repaired)
  repaired_shaped =
      same_shape h d repaired (length_applied (changes_of h filler d) 0 d) (length_applied (changes_of h filler d) 1 d) shaped

  filled_shape : Shaped (as_star h filled)
  filled_shape = filled_shaped h filler d shaped

  centre_usable : AllUsable repaired.centre
  centre_usable = subst AllUsable (sym (ap (λ (e : Delivery). e.centre) repaired_is)) (filled_usable filler d.centre is)

  neighbours_usable : AllUsable repaired.neighbours
  neighbours_usable = subst AllUsable (sym (ap (λ (e : Delivery). e.neighbours) repaired_is)) mended_usable
    where
      mended_usable : AllUsable mended
      mended_usable k l =
          after_each (face_row h filled) (λ b. usable (value_of b) ≡ true) (spot_count n) filled.neighbours
          (filled_usable filler d.neighbours is)
          (λ j m bad.
          let at = spot_of n j in
          filled_usable filler d.centre is (coarse_place n at.side at.u at.v)
          (coarse_held h filled filled_shape at.side at.u at.v (spot_on n j shaped.few m) (bad_named h filled j bad)))
          k (rw (length_after (face_row h filled) (spot_count n) filled.neighbours) at l)

  -- ---- 8 at a spot of the row

  module _ (k : ℕ) (in_row : k < spot_count n) (is_named : named h.mask (spot_of n k).side ≡ true) where
    abbrev at : FacePoint
    at = spot_of n k

    abbrev coarse : ℕ
    coarse = coarse_place n at.side at.u at.v

    on : OnFace n at.side at.u at.v
    on = spot_on n k shaped.few in_row

    abbrev fine : ℕ
    fine = (face_row h filled).place k

    abbrev leaves : ℕ
    leaves = cond ((face_row h filled).good k) (get_or filled.neighbours fine 0) (get_or filled.centre coarse 0)

    fine_left : get_or mended fine 0 ≡ leaves
    fine_left =
        after_here (face_row h filled) (spot_count n) k filled.neighbours in_row
        (place_held h filled filled_shape k in_row is_named)
        (λ j l bad other e. other (sym (spots_apart n h.mask k j shaped.few shaped.sides in_row l is_named (bad_named h filled j bad) e)))

    agree_left : agree_bits h.threshold (get_or filled.centre coarse 0) (get_or mended fine 0) ≡ true
    agree_left = ap (agree_bits h.threshold (get_or filled.centre coarse 0)) fine_left ∙ by (faces_agree (as_star h filled) at.side at.u at.v) refl
      where
        by : (b : Bool) → faces_agree (as_star h filled) at.side at.u at.v ≡ b → agree_bits h.threshold (get_or filled.centre coarse 0) leaves ≡ true
        by true e =
            rw (is_named, e)
            (sym (agree_is h filled filled_shape at.side at.u at.v on is_named) ∙ e)
        by false e = rw (is_named, e) (eq_beq (inside h.threshold (value_of (get_or filled.centre coarse 0))) _ refl)

    spot_agrees : faces_agree (as_star h repaired) at.side at.u at.v ≡ true
    spot_agrees =
        agree_is h repaired repaired_shaped at.side at.u at.v on is_named
        ∙ ap (λ (e : Delivery). agree_bits h.threshold (get_or e.centre coarse 0) (get_or e.neighbours fine 0)) repaired_is
        ∙ agree_left

  repaired_agrees : AllAgree (as_star h repaired)
  repaired_agrees side u v l is_named hu hv =
      let u_in : u < n + 1 = omega arith in
      let v_in : v < n + 1 = omega arith in
      let k = spot_number n side u v u_in v_in in
      let back = spot_back n side u v u_in v_in in
      let named_there : named h.mask (spot_of n k).side ≡ true = ap (λ (at : FacePoint). named h.mask at.side) back ∙ is_named in
      ap (λ (at : FacePoint). faces_agree (as_star h repaired) at.side at.u at.v) (sym back)
      ∙ spot_agrees k (spot_in_row n side u v u_in v_in l) named_there

  -- ---- 7 and 8 cannot be met

  pub seven_passes : judge_samples (map value_of repaired.centre ++ map value_of repaired.neighbours) ≡ Ok tt
  seven_passes = lists_pass repaired centre_usable neighbours_usable

  pub eight_passes : judge_faces (as_star h repaired) ≡ Ok tt
  eight_passes = faces_pass (as_star h repaired) repaired_agrees

  -- and a second pass, whatever its filler, lists nothing
  pub nothing_again : (other : ℕ) → changes_of h other repaired ≡ []
  nothing_again other = nothing_listed h other repaired centre_usable neighbours_usable repaired_agrees

-- a delivery that 7 and 8 accept is not changed
pub accepted_kept : (h : Header) (filler : ℕ) (d : Delivery) → judge_samples (map value_of d.centre ++ map value_of d.neighbours) ≡ Ok tt
    → judge_faces (as_star h d) ≡ Ok tt → changes_of h filler d ≡ []
accepted_kept h filler d seven eight =
    let usable = lists_usable d seven in
    nothing_listed h filler d usable.0 usable.1 (faces_agree_lem (as_star h d) eight)
