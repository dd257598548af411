-- What was promised of cutting blocks holds: the call is judged by its judges in order, and what was cut is the definition's block, of which volume's
-- laws speak.
use Rattle.std.specs.Prelude.{ℕ, ◌*◌, ◌≡◌, true, ◌&&◌, List, eqb, leb, ltb, Float, length, Err, Ok}
use Rattle.std.proofs.Common.{arith, sym, ◌∙◌, subst}
use Rattle.std.proofs.Math.Path.{refl, ap}
use Rattle.model.specs.declared.Refusal.{Refusal}
use Rattle.model.specs.declared.Refusal.TheVariants.{Subdivisions, BadSample, VolumeSize, VolumeLength, FirstPoint}
use Rattle.model.specs.Answers.{Verdict}
use Rattle.model.specs.declared.Xyz.{Xyz}
use Rattle.model.specs.Limits.{most_subdivisions}
use Rattle.model.specs.Samples.{sample_length, sampled, value_at}
use Rattle.model.specs.Rotations.{xyz}
use Rattle.model.specs.Star.{Star, subdivisions}
use Rattle.model.specs.Judging.{usable, judge_centre, judge_samples, judge_faces}
use Rattle.judge.specs.First.{or_else_assoc, or_else_passed}
use Rattle.volume.specs.Definition.{volume_count, volume_place, volume_sample, nearest_point, taken_place, taken_sample, block_in, size_fits, taken_usable, judge_taken, judge_volume, judge_cut, cut_answer, cut_block}
use Rattle.volume.specs.Neighbours.{onward, SideBySide, TwiceAsFine, FineStar}
use Rattle.volume.specs.Known.{Cut}
use Rattle.volume.specs.Passing.{WasCut, was_cut}
use Rattle.volume.specs.Blocks.{length_block, value_is, passes_4, passes_7, next_along}
use Rattle.volume.specs.Finer.{passes_8}
use Rattle.promises.specs.Left.{Laid}
use Rattle.promises.specs.Orders.{in_order, Numbered, Judged}
use Rattle.promises.specs.Volume.{cut_judges, Accepted, cut_out, VolumePromises}
use Rattle.promises.proofs.Judges.{◌&◌, judged, Refuses, by_unless, by_first, buffer_number}
use Rattle.promises.proofs.ReadBack.{is_laid}

module _ (bytes : List ℕ) (sizes : Xyz) (n : ℕ) (first : Xyz) (samples : List Float) where
  -- ---- the judges

  taken_number : Refuses 7 (judge_taken bytes sizes n first)
  unfolding judge_taken
  taken_number =
      by_first 7 (taken_usable bytes sizes n first)
      (λ place. by_unless (usable (taken_sample bytes sizes n first place)) (BadSample (taken_place sizes n first place))) (sample_length n)

  in_order_lem : in_order (cut_judges bytes sizes n first samples) ≡ judge_cut bytes sizes n first (length samples)
  unfolding judge_cut judge_volume
  in_order_lem = simp (or_else_assoc, or_else_passed)

  numbered : Numbered (cut_judges bytes sizes n first samples)
  numbered =
      by_unless (leb 1 n && leb n most_subdivisions) (Subdivisions n) &
      by_unless (size_fits sizes.x && size_fits sizes.y && size_fits sizes.z) VolumeSize &
      by_unless (eqb (length bytes) (4 * volume_count sizes)) VolumeLength &
      by_unless (ltb first.x sizes.x && ltb first.y sizes.y && ltb first.z sizes.z) FirstPoint &
      taken_number & buffer_number (sample_length n) (length samples) & tt

  cutting : Judged (cut_judges bytes sizes n first samples) (λ r. (cut_block bytes sizes n first samples).answer ≡ Err r)
      (Accepted bytes sizes n first samples (sample_length n))
  unfolding cut_block
  cutting =
      judged Err (Ok (sample_length n)) (λ v. (cut_answer bytes sizes n first samples v).answer) refl (λ r. refl) (λ q r e. cc)
      (λ r e. cc) _ _ in_order_lem numbered

  untouched : (r : Refusal) → (cut_block bytes sizes n first samples).answer ≡ Err r → (cut_block bytes sizes n first samples).samples ≡ samples
  unfolding cut_block
  untouched r e = ap (λ (v : Verdict). (cut_answer bytes sizes n first samples v).samples) (sym in_order_lem ∙ (cutting.refused_by_first r).0 e)

  -- ---- what was cut

  module _ (k : ℕ) (e : Accepted bytes sizes n first samples k) where
    abbrev cut : WasCut bytes sizes n first samples k
    cut = was_cut bytes sizes n first samples k e

    is_cut : Cut sizes n first
    is_cut = cut.whole.ready.known.cut

    block_laid : Laid k (block_in bytes sizes n first) samples (cut_block bytes sizes n first samples).samples
    block_laid =
        subst (Laid k (block_in bytes sizes n first) samples) (sym cut.left)
        (is_laid _ _ _ (length_block bytes sizes n first ∙ sym cut.counted) (omega (arith, cut.counted, cut.whole.fits)))

    block_is : cut_out bytes sizes n first samples k ≡ block_in bytes sizes n first
    block_is = block_laid.first

    centre : judge_centre n (length (cut_out bytes sizes n first samples k)) ≡ Ok tt
    centre = rw block_is (passes_4 bytes sizes n first)

    usable_samples : judge_samples (cut_out bytes sizes n first samples k) ≡ Ok tt
    usable_samples = rw block_is (passes_7 bytes sizes n first cut.whole.ready)

    nearest_sample : (x y z : ℕ) → sampled n x y z ≡ true
        → value_at n (cut_out bytes sizes n first samples k) x y z ≡ volume_sample bytes (volume_place sizes (nearest_point sizes first (xyz x y z)))
    nearest_sample x y z h = rw block_is (value_is bytes sizes n first x y z h)

beside : (bytes : List ℕ) (sizes : Xyz) (n : ℕ) (first : Xyz) (axis : ℕ) (samples others : List Float) (k l : ℕ)
    → Accepted bytes sizes n first samples k → Accepted bytes sizes n (onward axis n first) others l
    → SideBySide n axis (cut_out bytes sizes n first samples k) (cut_out bytes sizes n (onward axis n first) others l)
beside bytes sizes n first axis samples others k l one next =
    rw (block_is bytes sizes n first samples k one, block_is bytes sizes n (onward axis n first) others l next)
    (next_along bytes sizes n first (is_cut bytes sizes n first samples k one).some axis)

finer : (bytes fineBytes : List ℕ) (sizes fineSizes first : Xyz) (samples : List Float) (k : ℕ) (s : Star)
    → Accepted bytes sizes (subdivisions s) first samples k → TwiceAsFine bytes sizes fineBytes fineSizes
    → FineStar bytes sizes fineBytes fineSizes first s → judge_faces s ≡ Ok tt
finer bytes fineBytes sizes fineSizes first samples k s e twice star =
    let at = (is_cut bytes sizes (subdivisions s) first samples k e).at in
    passes_8 s (record { x = omega (arith, at.x); y = omega (arith, at.y); z = omega (arith, at.z) }) twice star

pub volume_kept : VolumePromises
volume_kept =
    record {
      answered_always = record { cutting = cutting; untouched = untouched; samples = block_laid };
      blocks = record { centre = centre; usable = usable_samples; nearest = nearest_sample; side_by_side = beside; finer = finer };
    }
