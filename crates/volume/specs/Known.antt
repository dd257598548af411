-- Document 02, [8]: what is known of a cut that 1, 20, 21 and 22 let pass, and of one that 7 lets pass too. Assumes nothing.
use Rattle.std.specs.Prelude.{ℕ, ◌+◌, ◌-◌, ◌*◌, ◌≤◌, ◌<◌, ◌≡◌, Bool, true, ◌&&◌, List, ◌⊎◌, leb, ltb, length, Ok}
use Rattle.std.proofs.Common.{mul-le-mul, mul-le-mul_left, mul-add, mul-one, mul_assoc, arith, inl, inr, ⊎_elim, leb-true, ltb-true, eqb-true, le-leb}
use Rattle.std.proofs.Math.Decide.{dec_le}
use Rattle.std.proofs.Math.Bool.{and-eq-true_iff}
use Rattle.std.proofs.lemmas.Bool.{lt-leb}
use Rattle.model.specs.declared.Xyz.{Xyz}
use Rattle.model.specs.declared.Refusal.TheVariants.{Subdivisions, VolumeSize, VolumeLength, FirstPoint, BadSample}
use Rattle.model.specs.Limits.{most_subdivisions}
use Rattle.model.specs.Samples.{sample_length}
use Rattle.model.specs.Judging.{usable, judge_subdivisions}
use Rattle.judge.specs.First.{both_passed, unless_passed, each_passed}
use Rattle.volume.specs.Definition.{most_across, volume_count, volume_place, volume_sample, nearest, nearest_point, taken_place, taken_sample, size_fits, judge_sizes, judge_volume_length, judge_first, taken_usable, judge_taken, judge_volume}

-- ---- an axis of the volume with a point on it, and a block's first point

pub record Axis (size first : ℕ) : Type 0 where
  pub few : size ≤ most_across
  pub inside : first < size

-- a point of a volume that is not too large
pub record InVolume (sizes p : Xyz) : Type 0 where
  pub x : Axis sizes.x p.x
  pub y : Axis sizes.y p.y
  pub z : Axis sizes.z p.z

pub record Cut (sizes : Xyz) (n : ℕ) (first : Xyz) : Type 0 where
  pub some : 1 ≤ n
  pub few : n ≤ most_subdivisions
  pub at : InVolume sizes first

pub record Known (held : ℕ) (sizes : Xyz) (n : ℕ) (first : Xyz) : Type 0 where
  pub cut : Cut sizes n first
  pub whole : held ≡ 4 * volume_count sizes

-- a point of the block or one step outside it, its coordinates kept one up
pub record Near (n : ℕ) (p : Xyz) : Type 0 where
  pub x : p.x ≤ n + 2
  pub y : p.y ≤ n + 2
  pub z : p.z ≤ n + 2

-- ---- places of the volume

-- a place in a row of so many, and the row's number
row_in : {x a y b : ℕ} → x < a → y < b → x + a * y < a * b
row_in {x} {a} {y} {b} hx hy =
    let next : a * (y + 1) ≤ a * b = mul-le-mul_left a (omega arith) in
    omega (arith, mul-add a y 1, mul-one a)

pub place_in : (sizes p : Xyz) → InVolume sizes p → volume_place sizes p < volume_count sizes
place_in sizes p h =
    let row : p.y + sizes.y * p.z < sizes.y * sizes.z = row_in h.y.inside h.z.inside in
    let place : p.x + sizes.x * (p.y + sizes.y * p.z) < sizes.x * (sizes.y * sizes.z) = row_in h.x.inside row in
    omega (arith, mul_assoc sizes.x sizes.y sizes.z)

-- the product fits, four times too
pub record Few (sizes : Xyz) : Type 0 where
  pub plane : sizes.x * sizes.y ≤ most_across * most_across
  pub volume : volume_count sizes ≤ most_across * most_across * most_across

pub few : (sizes : Xyz) → sizes.x ≤ most_across → sizes.y ≤ most_across → sizes.z ≤ most_across → Few sizes
few sizes hx hy hz =
    let plane = mul-le-mul hx hy in
    record { plane = plane; volume = mul-le-mul plane hz }

-- ---- the nearest sample

module _ (size c : ℕ) where
  -- in the volume, with -1, or beyond its end
  pub near : ((c ≤ size) × (nearest size c ≡ c - 1)) ⊎ ((size < c) × (nearest size c ≡ size - 1))
  near = go (dec_le c size)
    where
      go : Dec (c ≤ size) → ((c ≤ size) × (nearest size c ≡ c - 1)) ⊎ ((size < c) × (nearest size c ≡ size - 1))
      go (yes h) = inl (h, rw (le-leb c size h))
      go (no h) =
          let beyond : size < c = omega arith in
          inr (beyond, rw (lt-leb c size beyond))

  pub near_in : 1 ≤ size → nearest size c < size
  near_in h = ⊎_elim (λ w. omega arith) (λ w. omega arith) near

pub near_up : (size c d : ℕ) → c ≤ d → nearest size c ≤ nearest size d
near_up size c d h =
    ⊎_elim (λ w. ⊎_elim (λ v. omega arith) (λ v. omega arith) (near size d))
    (λ w. ⊎_elim (λ v. omega arith) (λ v. omega arith) (near size d))
    (near size c)

module _ {sizes : Xyz} {n : ℕ} {first : Xyz} (h : Cut sizes n first) where
  pub near_point : (p : Xyz) → InVolume sizes (nearest_point sizes first p)
  near_point p =
      let at = h.at in
      record {
        x = record { few = at.x.few; inside = near_in sizes.x (first.x + p.x) (omega (arith, at.x)) };
        y = record { few = at.y.few; inside = near_in sizes.y (first.y + p.y) (omega (arith, at.y)) };
        z = record { few = at.z.few; inside = near_in sizes.z (first.z + p.z) (omega (arith, at.z)) };
      }

  pub sizes_few : Few sizes
  sizes_few = few sizes h.at.x.few h.at.y.few h.at.z.few

  taken_in : (place : ℕ) → taken_place sizes n first place < volume_count sizes
  unfolding taken_place
  taken_in place = place_in sizes _ (near_point _)

-- ---- what the judges let pass

three : (a b c : Bool) → a && b && c ≡ true → (a ≡ true) × (b ≡ true) × (c ≡ true)
three a b c e =
    let rest = (and-eq-true_iff (a && b) c).0 e in
    let two = (and-eq-true_iff a b).0 rest.0 in
    (two.0, two.1, rest.1)

size_few : (size : ℕ) → size_fits size ≡ true → size ≤ most_across
size_few size e = leb-true size most_across ((and-eq-true_iff (leb 1 size) (leb size most_across)).0 e).1

pub sizes_fit : (sizes : Xyz) → judge_sizes sizes ≡ Ok tt → Few sizes
sizes_fit sizes e =
    let fit = three (size_fits sizes.x) (size_fits sizes.y) (size_fits sizes.z) (unless_passed _ VolumeSize e) in
    few sizes (size_few sizes.x fit.0) (size_few sizes.y fit.1) (size_few sizes.z fit.2)

pub known : (held : ℕ) (sizes : Xyz) (n : ℕ) (first : Xyz) → judge_volume held sizes n first ≡ Ok tt → Known held sizes n first
unfolding judge_volume
known held sizes n first e =
    let from-20 = both_passed (judge_subdivisions n) _ e in
    let from-21 = both_passed (judge_sizes sizes) _ from-20.1 in
    let from-22 = both_passed (judge_volume_length held sizes) (judge_first sizes first) from-21.1 in
    let range = (and-eq-true_iff (leb 1 n) (leb n most_subdivisions)).0 (unless_passed _ (Subdivisions n) from-20.0) in
    let fit = three (size_fits sizes.x) (size_fits sizes.y) (size_fits sizes.z) (unless_passed _ VolumeSize from-21.0) in
    let inside =
    three (ltb first.x sizes.x) (ltb first.y sizes.y) (ltb first.z sizes.z) (unless_passed _ FirstPoint from-22.1) in
    record {
      cut = record {
        some = leb-true 1 n range.0;
        few = leb-true n most_subdivisions range.1;
        at = record {
          x = record { few = size_few sizes.x fit.0; inside = ltb-true first.x sizes.x inside.0 };
          y = record { few = size_few sizes.y fit.1; inside = ltb-true first.y sizes.y inside.1 };
          z = record { few = size_few sizes.z fit.2; inside = ltb-true first.z sizes.z inside.2 };
        };
      };
      whole = eqb-true held (4 * volume_count sizes) (unless_passed _ VolumeLength from-22.0);
    }

-- a sample that can be read and used
pub record Readable (bytes : List ℕ) (place : ℕ) : Type 0 where
  pub inside : 4 * place + 4 ≤ length bytes
  pub good : usable (volume_sample bytes place) ≡ true

-- a cut all of whose samples can be used
pub record Ready (bytes : List ℕ) (sizes : Xyz) (n : ℕ) (first : Xyz) : Type 0 where
  pub known : Known (length bytes) sizes n first
  pub good : (place : ℕ) → place < sample_length n → usable (taken_sample bytes sizes n first place) ≡ true

module _ (bytes : List ℕ) (sizes : Xyz) (n : ℕ) (first : Xyz) where
  pub ready : Known (length bytes) sizes n first → judge_taken bytes sizes n first ≡ Ok tt → Ready bytes sizes n first
  unfolding judge_taken
  ready h e =
      record {
        known = h;
        good = λ place l.
            unless_passed (usable (taken_sample bytes sizes n first place)) (BadSample (taken_place sizes n first place))
            (each_passed (taken_usable bytes sizes n first) (sample_length n) place e l);
      }

  pub readable : Ready bytes sizes n first → (place : ℕ) → place < sample_length n → Readable bytes (taken_place sizes n first place)
  readable h place l = record { inside = omega (arith, h.known.whole, taken_in h.known.cut place); good = h.good place l }
