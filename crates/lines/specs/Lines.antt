-- Lines of samples among those of a record, and that the points of a named side's face lie on such lines: the centre's own points, and the fine ones
-- of its neighbour there.
use Rattle.std.specs.Prelude.{ℕ, ◌+◌, ◌*◌, ◌≤◌, ◌<◌, ◌≡◌, true, List}
use Rattle.std.proofs.Math.Path.{sym, ap}
use Rattle.std.proofs.Common.{◌∙◌, add-mul, mul-le-mul_right, get_or-take, get_or-drop}
use native.Mathlib.Omega.{arith}
use Rattle.std.specs.Int.Count.{ones}
use Rattle.std.specs.Float.Ieee.{nan}
use Rattle.std.proofs.Math.ListN.{get_or, drop}
use Rattle.model.specs.declared.Header.{Header}
use Rattle.model.specs.Limits.{most_subdivisions, side_count, most_mask}
use Rattle.model.specs.Samples.{sample_length, sample_of}
use Rattle.model.specs.Sides.{named, named_below, neighbour_length, sample_count, neighbour_of}
use Rattle.model.specs.Rotations.{face_point}
use Rattle.model.specs.Star.{neighbour_at}
use Rattle.model.specs.Points.{fine_sample}
use Rattle.model.specs.Record.{header_of, count_of, samples_of, star_of}
use Rattle.grid.specs.declared.face_walk.Stride.{Stride}
use Rattle.grid.specs.Walks.{walk_of, side_place, along_by, Leads, spot_leads, spot_is, spot_in, spot_read}
use Rattle.grid.specs.RotationLaws.{OnSide}
use Rattle.grid.specs.SideLaws.{named_below_lem}
use Rattle.record.specs.Accepted.{Accepted}
use Rattle.lines.specs.declared.Line.{Line}

-- one place after another
abbrev pub by_one : Stride
by_one = record { up = 1; down = 0 }

abbrev pub place_on : Line → ℕ → ℕ
place_on line k = line.start + along_by line.first line.step k

-- the k-th of them is one of so many samples
pub record OnLine (held : ℕ) (line : Line) (k : ℕ) : Type 0 where
  pub leads : Leads line.first line.step k
  pub there : place_on line k < held

-- ---- the points (u, 0, w), (u, 1, w), .. of a side, in a block of m subdivisions whose samples begin at a place

abbrev pub face_line : ℕ → ℕ → ℕ → ℕ → ℕ → Line
face_line start m side w u = record { start = start; first = side_place m side w u 0; step = (walk_of m side w).v; points = m + 1 }

module _ (start m side w u v : ℕ) (on : OnSide side m u v w) where
  place_is : place_on (face_line start m side w u) v ≡ start + side_place m side w u v
  place_is = ap (λ (k : ℕ). start + k) (spot_is m side w u v on)

  face_on : (held : ℕ) → start + sample_length m ≤ held → OnLine held (face_line start m side w u) v
  face_on held fits =
      record { leads = spot_leads m side w u v on; there = rw place_is (omega (arith, spot_in m side w u v on)) }

-- ---- a named side of a block

pub record NamedSide (h : Header) (side : ℕ) : Type 0 where
  pub some : 1 ≤ h.block.subdivisions
  pub few : h.block.subdivisions ≤ most_subdivisions
  pub sides : h.mask ≤ most_mask
  pub side_is : side < side_count
  pub is_named : named h.mask side ≡ true

module _ (h : Header) (side : ℕ) where
  abbrev n : ℕ
  n = h.block.subdivisions

  abbrev pub coarse_line : ℕ → Line
  coarse_line u = face_line 0 n side 0 u

  -- the neighbour's samples begin after the centre's and those of the sides named below this one
  abbrev pub fine_start : ℕ
  fine_start = sample_length n + named_below h.mask side * neighbour_length n

  abbrev pub fine_line : ℕ → Line
  fine_line u2 = face_line fine_start (2 * n) side (2 * n) u2

  module _ (is : NamedSide h side) where
    pub part_fits : fine_start + neighbour_length n ≤ sample_count n h.mask
    part_fits =
        let part = neighbour_length n in
        let before = named_below h.mask side in
        let parts : (before + 1) * part ≤ ones h.mask * part =
        mul-le-mul_right part (omega (arith, named_below_lem h.mask side is.sides is.side_is is.is_named)) in
        omega (arith, parts, add-mul before 1 part)

    on_centre : (u v : ℕ) → u ≤ n → v ≤ n → OnSide side n u v 0
    on_centre u v hu hv = record { few = omega (arith, is.few); side_is = is.side_is; u_in = hu; v_in = hv; w_in = omega arith }

    on_neighbour : (u2 v2 : ℕ) → u2 ≤ 2 * n → v2 ≤ 2 * n → OnSide side (2 * n) u2 v2 (2 * n)
    on_neighbour u2 v2 hu hv = record { few = omega (arith, is.few); side_is = is.side_is; u_in = hu; v_in = hv; w_in = omega arith }

-- ---- in a record that passed

module _ (bytes : List ℕ) (side : ℕ) (is : NamedSide (header_of bytes) side) where
  abbrev subdivisions : ℕ
  subdivisions = (header_of bytes).block.subdivisions

  module _ (u v : ℕ) (hu : u ≤ subdivisions) (hv : v ≤ subdivisions) where
    abbrev coarse_point : OnSide side subdivisions u v 0
    coarse_point = on_centre (header_of bytes) side is u v hu hv

    pub coarse_on : OnLine (count_of bytes) (coarse_line (header_of bytes) side u) v
    coarse_on = face_on 0 subdivisions side 0 u v coarse_point (count_of bytes) (omega arith)

    pub coarse_read : get_or (samples_of bytes) (place_on (coarse_line (header_of bytes) side u) v) nan
        ≡ sample_of subdivisions (star_of bytes).centre (face_point subdivisions side u v)
    coarse_read =
        let at = side_place subdivisions side 0 u v in
        let here : place_on (coarse_line (header_of bytes) side u) v ≡ at = omega (arith, place_is 0 subdivisions side 0 u v coarse_point) in
        ap (λ (k : ℕ). get_or (samples_of bytes) k nan) here
        ∙ sym (get_or-take (sample_length subdivisions) (samples_of bytes) at nan (spot_in subdivisions side 0 u v coarse_point))
        ∙ spot_read subdivisions side 0 u v coarse_point (star_of bytes).centre

  module _ (u2 v2 : ℕ) (hu : u2 ≤ 2 * subdivisions) (hv : v2 ≤ 2 * subdivisions) where
    abbrev fine_point : OnSide side (2 * subdivisions) u2 v2 (2 * subdivisions)
    fine_point = on_neighbour (header_of bytes) side is u2 v2 hu hv

    pub fine_on : OnLine (count_of bytes) (fine_line (header_of bytes) side u2) v2
    fine_on =
        face_on (fine_start (header_of bytes) side) (2 * subdivisions) side (2 * subdivisions) u2 v2 fine_point (count_of bytes)
        (part_fits (header_of bytes) side is)

    pub fine_read : get_or (samples_of bytes) (place_on (fine_line (header_of bytes) side u2) v2) nan ≡ fine_sample (star_of bytes) side u2 v2
    unfolding fine_sample neighbour_of
    fine_read =
        let own = sample_length subdivisions in
        let before = named_below (header_of bytes).mask side * neighbour_length subdivisions in
        let rest = drop own (samples_of bytes) in
        let at = side_place (2 * subdivisions) side (2 * subdivisions) u2 v2 in
        let nearer : own + before + at ≡ own + (before + at) = omega arith in
        ap (λ (k : ℕ). get_or (samples_of bytes) k nan)
        (place_is (fine_start (header_of bytes) side) (2 * subdivisions) side (2 * subdivisions) u2 v2 fine_point ∙ nearer)
        ∙ sym (get_or-drop own (samples_of bytes) (before + at) nan)
        ∙ sym (get_or-drop before rest at nan)
        ∙ sym (get_or-take (neighbour_length subdivisions) (drop before rest) at nan (spot_in (2 * subdivisions) side (2 * subdivisions) u2 v2 fine_point))
        ∙ spot_read (2 * subdivisions) side (2 * subdivisions) u2 v2 fine_point (neighbour_at (star_of bytes) side)

pub side_of : (bytes : List ℕ) → Accepted bytes → (h : Header) → h ≡ header_of bytes → (side : ℕ) → side < side_count → named h.mask side ≡ true → NamedSide h side
side_of bytes a h e side hs is_named =
    record { some = rw e a.some; few = rw e a.few; sides = rw e a.sides; side_is = hs; is_named = is_named }
