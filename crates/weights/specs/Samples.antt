-- A block that passes 1 to 7: its threshold, each sample that a cell reads, and the coordinates of its grid points are finite and not too large.
use Rattle.std.specs.Prelude.{ℕ, ◌+◌, ◌*◌, ◌≤◌, ◌<◌, ◌≡◌, true, ◌++◌, length, Ok}
use Rattle.std.proofs.Common.{sym, ap, ◌∙◌, length-append, get_or-append-add}
use Rattle.std.proofs.Math.Path.{subst}
use native.Mathlib.Omega.{arith}
use Rattle.std.specs.Float.Ieee.{nan}
use Rattle.std.proofs.Math.ListN.{get_or, get_or-append}
use Rattle.std.proofs.Math.Seq.{get_or-take, get_or-drop}
use Rattle.model.specs.declared.Xyz.{Xyz}
use Rattle.model.specs.Limits.{most_size}
use Rattle.model.specs.Samples.{sample_length, sample_of, in_block}
use Rattle.model.specs.Sides.{named, named_below, neighbour_length, neighbour_of}
use Rattle.model.specs.Rotations.{neighbour_point}
use Rattle.model.specs.Star.{Star, subdivisions, neighbour_at}
use Rattle.model.specs.Points.{fine_sample}
use Rattle.model.specs.Judging.{usable, measure_usable, judge_star}
use Rattle.grid.specs.Shape.{Shaped}
use Rattle.grid.specs.Places.{Within, in_block_lem, sample_is}
use Rattle.grid.specs.RotationLaws.{OnFineFace, neighbour_point_in}
use Rattle.grid.specs.SideLaws.{NeighbourThere, part_ends}
use Rattle.judge.specs.Passing.{star_measures, star_samples, star_shaped}
use Rattle.judge.specs.Usable.{measure_usable_lem, samples_usable}
use Rattle.weights.specs.Clauses.{AreF32}
use Rattle.weights.specs.Small.{Small}
use Rattle.weights.specs.Coordinates.{Measured, usable_small, usable_size_small}

-- ---- what passes

in_cube : (n x y z : ℕ) → x ≤ n → y ≤ n → z ≤ n → in_block n x y z < sample_length n
in_cube n x y z hx hy hz = omega (arith, in_block_lem n x y z hx hy hz)

module _ (s : Star) (fit : AreF32 s) (passed : judge_star s ≡ Ok tt) where
  pub shaped : Shaped s
  shaped = star_shaped s passed

  -- ---- 3

  measure : (k : ℕ) → k < 5 → measure_usable s.block s.threshold k ≡ true
  measure k h = measure_usable_lem s.block s.threshold k (star_measures s passed) h

  pub threshold_small : Small most_size s.threshold
  threshold_small = usable_small _ fit.threshold (measure 4 (omega arith))

  pub measured : Measured s.block
  measured =
      record {
        some = shaped.some;
        few = shaped.few;
        x = usable_small _ fit.base_x (measure 0 (omega arith));
        y = usable_small _ fit.base_y (measure 1 (omega arith));
        z = usable_small _ fit.base_z (measure 2 (omega arith));
        size = usable_size_small _ fit.size (measure 3 (omega arith));
      }

  -- ---- 7

  all_usable : (i : ℕ) → i < length (s.centre ++ s.neighbours) → usable (get_or (s.centre ++ s.neighbours) i nan) ≡ true
  all_usable i h = samples_usable (s.centre ++ s.neighbours) i (star_samples s passed) h

  in_centre : (i : ℕ) → i < length s.centre → Small most_size (get_or s.centre i nan)
  in_centre i h =
      usable_small _ (fit.centre i)
      (ap usable (sym (get_or-append s.centre s.neighbours nan i h)) ∙ all_usable i (rw length-append (omega arith)))

  in_neighbours : (i : ℕ) → i < length s.neighbours → Small most_size (get_or s.neighbours i nan)
  in_neighbours i h =
      usable_small _ (fit.neighbours i)
      (ap usable (sym (get_or-append-add s.centre s.neighbours i nan)) ∙ all_usable (length s.centre + i) (rw length-append (omega arith)))

  -- a grid point's sample, and a fine point's
  pub centre_small : (p : Xyz) → Within (subdivisions s) p → Small most_size (sample_of (subdivisions s) s.centre p)
  centre_small p w =
      rw (sample_is (subdivisions s) s.centre p w)
      (in_centre _ (rw shaped.centre_is (in_cube (subdivisions s) p.x p.y p.z w.x_in w.y_in w.z_in)))

  pub fine_small : (side u2 v2 : ℕ) → OnFineFace (subdivisions s) side u2 v2 → named s.mask side ≡ true → Small most_size (fine_sample s side u2 v2)
  unfolding fine_sample neighbour_of
  fine_small side u2 v2 on is_named =
      let n = subdivisions s in
      let h = shaped in
      let l = neighbour_length n in
      let k = named_below s.mask side * l in
      let p = neighbour_point n side u2 v2 in
      let w = neighbour_point_in n side u2 v2 on in
      let at = in_block (2 * n) p.x p.y p.z in
      let there : NeighbourThere n s.mask s.neighbours side =
      record { few = h.few; sides = h.sides; side_is = on.side_is; is_named = is_named; neighbours_are = h.neighbours_are } in
      let small : at < l = in_cube (2 * n) _ _ _ w.x_in w.y_in w.z_in in
      let e : get_or (neighbour_at s side) at nan ≡ get_or s.neighbours (k + at) nan = get_or-take l _ at nan small ∙ get_or-drop k s.neighbours at nan in
      subst (Small most_size) (sym (sample_is (2 * n) (neighbour_at s side) p w ∙ e))
      (in_neighbours (k + at) (beyond k at l _ small (part_ends n s.mask s.neighbours side there)))
    where
      beyond : (k at l m : ℕ) → at < l → k + l ≤ m → k + at < m
      beyond k at l m h g = omega arith
