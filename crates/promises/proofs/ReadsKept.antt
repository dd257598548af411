-- What was promised of the sample reads holds: the mesh's reads are model's Reads added over the sides that the mask names, its vertices are at most what
-- Room says, and at most sixty-four subdivisions and six sides make no large number.
use Rattle.std.specs.Prelude.{ℕ, zero, suc, ◌+◌, ◌-◌, ◌*◌, ◌^◌, ◌≤◌, ◌<◌, ◌≡◌, Bool, T, leb, length, Err, Ok}
use Rattle.std.proofs.Math.Nat.{le_trans}
use native.Mathlib.Omega.{arith}
use Rattle.std.proofs.Math.Path.{refl}
use Rattle.std.proofs.Common.{ap, ◌∙◌, leb→le}
use Rattle.std.specs.Int.Count.{ones, ones_in}
use Rattle.laws.specs.Tests.{both, below, all}
use Rattle.model.specs.declared.Counts.{Counts}
use Rattle.model.specs.declared.Refusal.{Refusal}
use Rattle.model.specs.Answers.{Verdict}
use Rattle.model.specs.Limits.{most_subdivisions, most_mask, side_count}
use Rattle.model.specs.Star.{Star, subdivisions}
use Rattle.model.specs.Judging.{judge_star}
use Rattle.model.specs.Mesh.{Mesh, transition_reads, mesh_of}
use Rattle.model.proofs.MeshReads.{mesh_reads}
use Rattle.model.specs.Extraction.{Outcome, judge_extraction, outcome, extract}
use Rattle.grid.specs.Shape.{Shaped}
use Rattle.judge.specs.First.{both_passed}
use Rattle.judge.specs.Passing.{star_shaped}
use Rattle.promises.specs.Left.{Lent, answered, counts}
use Rattle.promises.specs.Enough.{enough_vertices}
use Rattle.promises.proofs.Extracted.{passed, equal_mesh}
use Rattle.promises.proofs.Room.{named_most, sides_named, enough}
use Rattle.promises.specs.Reads.{reported, reads_total, most_reads, ReadsPromises}
use Rattle.promises.proofs.ReadsReached.{alone, alone_mask, alone_costly, among, among_mask, among_costly}

-- ---- the count

pub mesh_total : (s : Star) → s.mask ≤ most_mask → (mesh_of s).reads ≡ reads_total (subdivisions s) (ones s.mask) (counts s).vertices
mesh_total s h =
    let n = subdivisions s in
    omega (
      arith,
      mesh_reads s,
      named_most s.mask (transition_reads * n * n) side_count,
      ap (λ (k : ℕ). transition_reads * n * n * k) (sides_named s.mask h),
    )

-- with the most vertices that such a block can have
most_total : (n mask : ℕ) → reads_total n (ones mask) (enough_vertices n mask) ≡ most_reads n (ones mask)
most_total zero mask = omega arith
most_total (suc k) mask =
    let e : suc k * suc k + 4 * suc k - 1 ≡ k * k + 6 * k + 4 = omega arith in
    let f : 25 * (suc k * suc k) + 84 * suc k - 21 ≡ 25 * (k * k) + 134 * k + 88 = omega arith in
    rw (e, f) (omega arith)

pub mesh_most : (s : Star) → s.mask ≤ most_mask → (mesh_of s).reads ≤ most_reads (subdivisions s) (ones s.mask)
mesh_most s h = omega (arith, mesh_total s h, (enough s h).vertices, most_total (subdivisions s) s.mask)

-- ---- how large it can be

abbrev largest : ℕ
largest = most_reads most_subdivisions side_count

all_sides : T (below (λ mask. leb (ones mask) side_count) (most_mask + 1))
unfolding both ones ones_in
all_sides = tt

abbrev within : ℕ → ℕ → Bool
within n sides = leb (most_reads n sides) largest

all_within : T (below (λ n. below (within n) (side_count + 1)) (most_subdivisions + 1))
unfolding both
all_within = tt

most_within : (n mask : ℕ) → n ≤ most_subdivisions → mask ≤ most_mask → most_reads n (ones mask) ≤ largest
most_within n mask few sides =
    let here = all (λ n. below (within n) (side_count + 1)) (most_subdivisions + 1) all_within n (omega arith) in
    let six : ones mask ≤ side_count = leb→le _ _ (all (λ mask. leb (ones mask) side_count) (most_mask + 1) all_sides mask (omega arith)) in
    leb→le _ _ (all (within n) (side_count + 1) here (ones mask) (omega arith))

-- ---- what is reported, by the verdict

module _ (m : Mesh) (lent : Lent) where
  abbrev came : Verdict → Outcome
  came = outcome m lent.store lent.vertices lent.triangles

  came_accepted : (v : Verdict) (c : Counts) → (came v).answer ≡ Ok c → (came v).reads ≡ m.reads
  unfolding outcome
  came_accepted (Ok _) c e = refl
  came_accepted (Err q) c e = cc

  pub came_refused : (v : Verdict) (r : Refusal) → (came v).answer ≡ Err r → (came v).reads ≡ 0
  unfolding outcome
  came_refused (Ok _) r e = cc
  came_refused (Err q) r e = refl

  pub came_most : (v : Verdict) (most : ℕ) → (v ≡ Ok tt → m.reads ≤ most) → (came v).reads ≤ most
  unfolding outcome
  came_most (Ok _) most h = h refl
  came_most (Err q) most h = omega arith

module _ (s : Star) (lent : Lent) where
  abbrev verdict : Verdict
  verdict = judge_extraction s (length lent.store) (length lent.vertices) (length lent.triangles)

  -- 1 to 7 have passed
  shaped : verdict ≡ Ok tt → Shaped s
  unfolding judge_extraction
  shaped e = star_shaped s (both_passed (judge_star s) _ e).0

  counted : (c : Counts) → answered s lent ≡ Ok c → reported s lent ≡ (mesh_of s).reads
  unfolding extract
  counted c e = came_accepted (mesh_of s) lent verdict c e

  total : (c : Counts) → answered s lent ≡ Ok c → reported s lent ≡ reads_total (subdivisions s) (ones s.mask) c.vertices
  total c e =
      let t = mesh_total s (star_shaped s (passed s lent c e)).sides in
      counted c e ∙ rw (equal_mesh s lent c e).counted t

  refused : (r : Refusal) → answered s lent ≡ Err r → reported s lent ≡ 0
  unfolding extract
  refused r e = came_refused (mesh_of s) lent verdict r e

  most : reported s lent ≤ most_reads (subdivisions s) (ones s.mask)
  unfolding extract
  most = came_most (mesh_of s) lent verdict _ (λ e. mesh_most s (shaped e).sides)

  few : reported s lent ≤ largest
  unfolding extract
  few =
      came_most (mesh_of s) lent verdict largest
      (λ e. le_trans (mesh_most s (shaped e).sides) (most_within (subdivisions s) s.mask (shaped e).few (shaped e).sides))

  fits : reported s lent < 2 ^ 64
  fits = omega (arith, few)

pub reads_kept : ReadsPromises
reads_kept =
    record {
      counted = counted;
      total = total;
      refused = refused;
      most = most;
      fits = fits;
      reached_alone = record { block = alone; mask_is = alone_mask; costly = alone_costly };
      reached_among = record { block = among; mask_is = among_mask; costly = among_costly };
    }
