-- Document 02, [5]: each change tells the bits that stood there just before it, and is at a place that is there.
use Rattle.std.specs.Prelude.{ℕ, ◌<◌, ◌≡◌, refl, Bool, true, false, cond, [], length, get_or}
use Rattle.std.proofs.Common.{arith, sym, ◌∙◌}
use Rattle.laws.specs.Counting.{gather}
use Rattle.laws.specs.Gathered.{gather_same}
use Rattle.model.specs.declared.FacePoint.{FacePoint}
use Rattle.model.specs.declared.Header.{Header}
use Rattle.model.specs.Sides.{named}
use Rattle.model.specs.Judging.{faces_agree}
use Rattle.grid.specs.Shape.{Shaped}
use Rattle.repair.specs.Definition.{Delivery, delivery, as_star, in_list, applied, change_unless, fillers_in, fillers, coarse_place, fine_place, mismatches, changes_of}
use Rattle.repair.specs.Spots.{AllTell, told_append, Row, change_of, spot, told_spots}
use Rattle.repair.specs.Filled.{filled_in, sample_row, filled_in_lem, fillers_leave}
use Rattle.repair.specs.Faces.{spot_count, spot_of, mismatch_spot, in_one_row, spot_on, fine_held, filled_shaped}
use Rattle.repair.specs.Apart.{spots_apart}

told_fillers_in : (list filler : ℕ) → list < 2 → (d : Delivery) → AllTell (fillers_in list filler (in_list list d)) d
told_fillers_in list filler few d =
    let bits = in_list list d in
    told_spots list (sample_row filler bits) few d (length bits) (λ k h bad. refl) (λ k h bad. h) (λ j k l h _ _ e. omega arith)

told_fillers : (filler : ℕ) (d : Delivery) → AllTell (fillers filler d) d
told_fillers filler d =
    told_append (fillers_in 0 filler d.centre) (fillers_in 1 filler d.neighbours) d (told_fillers_in 0 filler (omega arith) d)
    (rw (filled_in_lem 0 filler d) (told_fillers_in 1 filler (omega arith) (delivery (filled_in filler d).centre d.neighbours)))

-- ---- the points of the faces

module _ (h : Header) (d : Delivery) where
  abbrev n : ℕ
  n = h.block.subdivisions

  abbrev at : ℕ → FacePoint
  at k = spot_of n k

  abbrev agrees : ℕ → Bool
  agrees k = faces_agree (as_star h d) (at k).side (at k).u (at k).v

  abbrev fine : ℕ → ℕ
  fine k = fine_place n h.mask (at k).side (at k).u (at k).v

  -- as they should be where 8 would not refuse them
  abbrev pub face_row : Row
  face_row =
      record {
        good = λ k. cond (named h.mask (at k).side) (agrees k) true;
        place = fine;
        old = λ k. get_or d.neighbours (fine k) 0;
        new = λ k. get_or d.centre (coarse_place n (at k).side (at k).u (at k).v) 0;
      }

  is_spot : (k : ℕ) → mismatch_spot h d k ≡ spot 1 face_row k
  is_spot k = by (named h.mask (at k).side)
    where
      by : (b : Bool) → cond b (change_unless (agrees k) (change_of 1 face_row k)) [] ≡ change_unless (cond b (agrees k) true) (change_of 1 face_row k)
      by true = refl
      by false = refl

  pub by_spots : mismatches h d ≡ gather (spot 1 face_row) (spot_count n)
  by_spots = in_one_row h d ∙ gather_same _ _ (spot_count n) (λ k _. is_spot k)

  -- it is a point of a named side where 8 would refuse it
  pub bad_named : (k : ℕ) → face_row.good k ≡ false → named h.mask (at k).side ≡ true
  bad_named k = by (named h.mask (at k).side) (agrees k)
    where
      by : (b agree : Bool) → cond b agree true ≡ false → b ≡ true
      by true agree e = refl
      by false agree e = sym e

  module _ (shaped : Shaped (as_star h d)) where
    pub place_held : (k : ℕ) → k < spot_count n → named h.mask (at k).side ≡ true → fine k < length d.neighbours
    place_held k l is = fine_held h d shaped (at k).side (at k).u (at k).v (spot_on n k shaped.few l) is

    told_mismatches : AllTell (mismatches h d) d
    told_mismatches =
        rw by_spots
        (told_spots 1 face_row (omega arith) d (spot_count n) (λ k l bad. refl) (λ k l bad. place_held k l (bad_named k bad))
        (λ j k before l bad-j bad-k e.
        let same : k ≡ j =
        spots_apart n h.mask k j shaped.few shaped.sides l (omega arith) (bad_named k bad-k) (bad_named j bad-j) e in
        omega arith))

pub told_changes : (h : Header) (filler : ℕ) (d : Delivery) → Shaped (as_star h d) → AllTell (changes_of h filler d) d
unfolding changes_of
told_changes h filler d shaped =
    told_append (fillers filler d) (mismatches h (applied (fillers filler d) d)) d (told_fillers filler d)
    (rw (fillers_leave filler d) (told_mismatches h (filled_in filler d) (filled_shaped h filler d shaped)))
