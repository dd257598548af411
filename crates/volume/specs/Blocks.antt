-- Document 02, [8]: what holds of a block that was cut: it passes 4 and 7; each sample is the volume's nearest; a block and the next one along an axis
-- have the same sample wherever they have the same point, so the same gradient at their common face. Assumes nothing.
use Prim.Native.Nat.{ℕ, zero, suc, ◌+◌, ◌-◌, ◌*◌, ◌≤◌, ◌<◌}
use Rattle.std.proofs.Common.{mul-add, arith, ◌∙◌, inl, inr, ⊎_elim, eq-eqb, ne_eqb}
use Rattle.std.specs.Prelude.{◌≡◌, refl, true, List, ◌⊎◌, Float, length, get_or, Ok}
use Rattle.std.proofs.Math.Path.{sym, ap}
use Rattle.std.specs.Float.Ieee.{nan}
use Rattle.laws.specs.Lists.{length_listed, get_d_listed}
use Rattle.model.specs.declared.Xyz.{Xyz}
use Rattle.model.specs.Samples.{sample_length, in_block, on_face, place_of, outside, sampled, value_at, sample_of}
use Rattle.model.specs.Rotations.{xyz}
use Rattle.model.specs.Formulas.{◌⊖◌, vector, gradient_at}
use Rattle.model.specs.Judging.{judge_centre, judge_samples}
use Rattle.grid.specs.Places as places
use Rattle.grid.specs.Places.{Within, Inner, outside_by, not_outside_inner, across_of, place_across_x, place_across_y, place_across_z, place_inner, sampled_sum, place_in, steps_sampled}
use Rattle.judge.specs.Usable.{samples_pass}
use Rattle.volume.specs.Definition.{volume_place, volume_sample, point_beside, point_of, nearest, nearest_point, taken_place, taken_sample, block_in}
use Rattle.volume.specs.Neighbours.{across, onward, value_across, SideBySide}
use Rattle.volume.specs.Known.{Ready}
use Rattle.volume.specs.Squares.{point_at, point_block, point_beside_lem}

-- ---- the point of a point's place is the point

module _ (n : ℕ) where
  abbrev m : ℕ
  m = n + 1

  on_face_lem : (face i j : ℕ) → i ≤ n → j ≤ n → point_of n (on_face n face i j) ≡ point_beside n face i j
  on_face_lem face i j hi hj =
      let is : on_face n face i j ≡ in_block n (n + 1 + face) i j = omega (arith, mul-add (m * m) m face) in
      ap (point_of n) is ∙ point_at n (n + 1 + face) i j hi hj ∙ point_beside_lem n i j (n + 1 + face) face refl

  -- a coordinate one step outside is -1 or n + 1
  ends : (c : ℕ) → outside n c ≡ 1 → (c ≡ 0) ⊎ (c ≡ n + 2)
  ends c = outside_by n c (λ o. o ≡ 1 → (c ≡ 0) ⊎ (c ≡ n + 2)) (λ h e. inl h) (λ h e. absurd (omega arith)) (λ h e. inr h) (λ h e. absurd (omega arith))

  -- on the lower of two faces, or on the other
  on_either : (low c i j : ℕ) (p : Xyz) → outside n c ≡ 1 → Inner n i → Inner n j → (c ≡ 0 → point_beside n low (i - 1) (j - 1) ≡ p)
      → (c ≡ n + 2 → point_beside n (low + 1) (i - 1) (j - 1) ≡ p) → point_of n (across_of n low c i j) ≡ p
  on_either low c i j p out hi hj is-low is-high =
      ⊎_elim (λ e. rw (eq-eqb c 0 e) (on_face_lem low (i - 1) (j - 1) (omega arith) (omega arith) ∙ is-low e))
      (λ e. rw (ne_eqb c 0 (λ z. omega arith)) (on_face_lem (low + 1) (i - 1) (j - 1) (omega arith) (omega arith) ∙ is-high e)) (ends c out)

  none_or_one : (P : Type 0) (o : ℕ) → o ≤ 1 → (o ≡ 0 → P) → (o ≡ 1 → P) → P
  none_or_one P zero l f g = f refl
  none_or_one P (suc o) l f g = g (omega arith)

  point_of_lem : (x y z : ℕ) → sampled n x y z ≡ true → point_of n (place_of n x y z) ≡ xyz x y z
  point_of_lem x y z h =
      let s = sampled_sum n x y z h in
      let back : (c : ℕ) → Inner n c → c - 1 + 1 ≡ c = λ c i. omega arith in
      none_or_one Goal (outside n x) (omega arith)
      (λ ex. let ix = not_outside_inner n x ex in none_or_one Goal (outside n y) (omega arith)
      (λ ey. let iy = not_outside_inner n y ey in none_or_one Goal (outside n z) (omega arith)
      (λ ez. let iz = not_outside_inner n z ez in
      ap (point_of n) (place_inner n x y z ex ey ez) ∙ point_at n (x - 1) (y - 1) (z - 1) (omega arith) (omega arith)
      ∙ point_block n (y - 1) (z - 1) (x - 1) (omega arith) ∙ (λ t. xyz (back x ix t) (back y iy t) (back z iz t)))
      (λ ez.
      ap (point_of n) (place_across_z n x y z ex ey ez)
      ∙ on_either 4 z x y (xyz x y z) ez ix iy (λ e t. xyz (back x ix t) (back y iy t) (sym e t)) (λ e t. xyz (back x ix t) (back y iy t) (sym e t))))
      (λ ey. let iz = not_outside_inner n z (omega arith) in
      ap (point_of n) (place_across_y n x y z ex ey)
      ∙ on_either 2 y x z (xyz x y z) ey ix iz (λ e t. xyz (back x ix t) (sym e t) (back z iz t)) (λ e t. xyz (back x ix t) (sym e t) (back z iz t))))
      (λ ex. let iy = not_outside_inner n y (omega arith) in let iz = not_outside_inner n z (omega arith) in
      ap (point_of n) (place_across_x n x y z ex)
      ∙ on_either 0 x y z (xyz x y z) ex iy iz (λ e t. xyz (sym e t) (back y iy t) (back z iz t)) (λ e t. xyz (sym e t) (back y iy t) (back z iz t)))
    where
      Goal : Type 0
      Goal = point_of n (place_of n x y z) ≡ xyz x y z

-- ---- a block that was cut

module _ (bytes : List ℕ) (sizes : Xyz) (n : ℕ) (first : Xyz) where
  pub length_block : length (block_in bytes sizes n first) ≡ sample_length n
  unfolding block_in
  length_block = length_listed (taken_sample bytes sizes n first) (sample_length n)

  sample_is : (place : ℕ) → place < sample_length n → get_or (block_in bytes sizes n first) place nan ≡ taken_sample bytes sizes n first place
  unfolding block_in
  sample_is place h = get_d_listed (taken_sample bytes sizes n first) (sample_length n) place nan h

  -- each sample is the volume's nearest
  pub value_is : (x y z : ℕ) → sampled n x y z ≡ true
      → value_at n (block_in bytes sizes n first) x y z ≡ volume_sample bytes (volume_place sizes (nearest_point sizes first (xyz x y z)))
  unfolding taken_place
  value_is x y z h =
      places.value_is n x y z (block_in bytes sizes n first) h ∙ sample_is (place_of n x y z) (place_in n x y z h)
      ∙ ap (λ (p : Xyz). volume_sample bytes (volume_place sizes (nearest_point sizes first p))) (point_of_lem n x y z h)

  -- 4 and 7
  pub passes_4 : judge_centre n (length (block_in bytes sizes n first)) ≡ Ok tt
  passes_4 = rw (eq-eqb _ _ length_block)

  pub passes_7 : Ready bytes sizes n first → judge_samples (block_in bytes sizes n first) ≡ Ok tt
  passes_7 h =
      samples_pass (block_in bytes sizes n first)
      (λ k l.
      let within : k < sample_length n = rw length_block at l in
      rw (sample_is k within) (h.good k within))

-- ---- two blocks of one volume

module _ (bytes : List ℕ) (sizes : Xyz) (n : ℕ) (first other : Xyz) where
  abbrev here : List Float
  here = block_in bytes sizes n first

  abbrev there : List Float
  there = block_in bytes sizes n other

  -- where they have the same point, they have the same sample
  same_point : (x y z u v w : ℕ) → sampled n x y z ≡ true → sampled n u v w ≡ true → first.x + x ≡ other.x + u → first.y + y ≡ other.y + v
      → first.z + z ≡ other.z + w → value_at n here x y z ≡ value_at n there u v w
  same_point x y z u v w h k ex ey ez =
      value_is bytes sizes n first x y z h
      ∙ (λ i. volume_sample bytes (volume_place sizes (xyz (nearest sizes.x (ex i)) (nearest sizes.y (ey i)) (nearest sizes.z (ez i)))))
      ∙ sym (value_is bytes sizes n other u v w k)

  -- and the same samples a step from it, so the same gradient
  record SameAt (a b : Xyz) : Type 0 where
    pub sample : sample_of n here a ≡ sample_of n there b
    pub x_up : value_at n here (a.x + 2) (a.y + 1) (a.z + 1) ≡ value_at n there (b.x + 2) (b.y + 1) (b.z + 1)
    pub x_down : value_at n here a.x (a.y + 1) (a.z + 1) ≡ value_at n there b.x (b.y + 1) (b.z + 1)
    pub y_up : value_at n here (a.x + 1) (a.y + 2) (a.z + 1) ≡ value_at n there (b.x + 1) (b.y + 2) (b.z + 1)
    pub y_down : value_at n here (a.x + 1) a.y (a.z + 1) ≡ value_at n there (b.x + 1) b.y (b.z + 1)
    pub z_up : value_at n here (a.x + 1) (a.y + 1) (a.z + 2) ≡ value_at n there (b.x + 1) (b.y + 1) (b.z + 2)
    pub z_down : value_at n here (a.x + 1) (a.y + 1) a.z ≡ value_at n there (b.x + 1) (b.y + 1) b.z

  same_at : (a b : Xyz) → Within n a → Within n b → first.x + a.x ≡ other.x + b.x → first.y + a.y ≡ other.y + b.y
      → first.z + a.z ≡ other.z + b.z → SameAt a b
  same_at a b ha hb ex ey ez =
      let one = steps_sampled n a ha in
      let two = steps_sampled n b hb in
      record {
        sample = same_point _ _ _ _ _ _ one.here two.here (omega arith) (omega arith) (omega arith);
        x_up = same_point _ _ _ _ _ _ one.x_up two.x_up (omega arith) (omega arith) (omega arith);
        x_down = same_point _ _ _ _ _ _ one.x_down two.x_down ex (omega arith) (omega arith);
        y_up = same_point _ _ _ _ _ _ one.y_up two.y_up (omega arith) (omega arith) (omega arith);
        y_down = same_point _ _ _ _ _ _ one.y_down two.y_down (omega arith) ey (omega arith);
        z_up = same_point _ _ _ _ _ _ one.z_up two.z_up (omega arith) (omega arith) (omega arith);
        z_down = same_point _ _ _ _ _ _ one.z_down two.z_down (omega arith) (omega arith) ez;
      }

  same_gradient : (a b : Xyz) → SameAt a b → gradient_at n here a ≡ gradient_at n there b
  unfolding gradient_at
  same_gradient a b s = λ i. vector (s.x_up i ⊖ s.x_down i) (s.y_up i ⊖ s.y_down i) (s.z_up i ⊖ s.z_down i)

-- ---- side by side

module _ (bytes : List ℕ) (sizes : Xyz) (n : ℕ) (first : Xyz) (some : 1 ≤ n) where
  -- a point of the common face, in both
  on_common : (axis u v : ℕ) → u ≤ n → v ≤ n → SameAt bytes sizes n first (onward axis n first) (across axis n u v) (across axis 0 u v)
  on_common zero u v hu hv =
      same_at bytes sizes n first (onward 0 n first) (xyz n u v) (xyz 0 u v) (omega arith) (omega arith) (omega arith) (omega arith) (omega arith)
  on_common (suc zero) u v hu hv =
      same_at bytes sizes n first (onward 1 n first) (xyz u n v) (xyz u 0 v) (omega arith) (omega arith) (omega arith) (omega arith) (omega arith)
  on_common (suc (suc axis)) u v hu hv =
      same_at bytes sizes n first (onward 2 n first) (xyz u v n) (xyz u v 0) (omega arith) (omega arith) (omega arith) (omega arith) (omega arith)

  abbrev one : List Float
  one = block_in bytes sizes n first

  next : ℕ → List Float
  next axis = block_in bytes sizes n (onward axis n first)

  next_high : (axis u v : ℕ) → u ≤ n → v ≤ n → value_across n one axis (n + 2) (u + 1) (v + 1) ≡ sample_of n (next axis) (across axis 1 u v)
  unfolding next
  next_high zero u v hu hv = (on_common 0 u v hu hv).x_up
  next_high (suc zero) u v hu hv = (on_common 1 u v hu hv).y_up
  next_high (suc (suc axis)) u v hu hv = (on_common 2 u v hu hv).z_up

  -- a step below n
  below : n ≡ n - 1 + 1
  below = omega arith

  next_low : (axis u v : ℕ) → u ≤ n → v ≤ n → value_across n (next axis) axis 0 (u + 1) (v + 1) ≡ sample_of n one (across axis (n - 1) u v)
  unfolding next
  next_low zero u v hu hv = sym (on_common 0 u v hu hv).x_down ∙ ap (λ (k : ℕ). value_at n one k (u + 1) (v + 1)) below
  next_low (suc zero) u v hu hv = sym (on_common 1 u v hu hv).y_down ∙ ap (λ (k : ℕ). value_at n one (u + 1) k (v + 1)) below
  next_low (suc (suc axis)) u v hu hv = sym (on_common 2 u v hu hv).z_down ∙ ap (λ (k : ℕ). value_at n one (u + 1) (v + 1) k) below

  pub next_along : (axis : ℕ) → SideBySide n axis (block_in bytes sizes n first) (block_in bytes sizes n (onward axis n first))
  unfolding next
  next_along axis =
      record {
        common = λ u v hu hv. (on_common axis u v hu hv).sample;
        high = next_high axis;
        low = next_low axis;
        gradient = λ u v hu hv. same_gradient bytes sizes n first (onward axis n first) (across axis n u v) (across axis 0 u v) (on_common axis u v hu hv);
      }
