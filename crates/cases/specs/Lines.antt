-- The planes of a block's samples and their lines, and that the numbers of the cells between four lines are the model's.
use Rattle.std.specs.Prelude.{ℕ, ◌+◌, ◌-◌, ◌*◌, ◌≤◌, ◌<◌, ◌≡◌, List, Float, get_or, length, take, drop, Ok}
use Rattle.std.proofs.Common.{sym, ◌∙◌, subst, add-zero, arith, length-take, length-drop, get_or-take, get_or-drop, ext_get_or}
use Rattle.std.proofs.Math.Path.{ap}
use Rattle.std.specs.Float.{nan}
use Rattle.model.specs.declared.PlaceKind.TheVariants.{InBlock}
use Rattle.model.specs.Answers.{Reading}
use Rattle.model.specs.Samples.{in_block, value_of, value_at}
use Rattle.model.specs.Rotations.{xyz}
use Rattle.model.specs.Formulas.{inside_bit}
use Rattle.model.specs.Star.{Star, subdivisions}
use Rattle.model.specs.Points.{regular_case}
use Rattle.grid.specs.Kinds.{in_block_reading_lem}
use Rattle.cases.specs.Sheets.{row_start, four_inside, line_case, Measured, Plane, Line}
use Rattle.cases.specs.Pairs.{point_bit}
use Rattle.cases.specs.RowPlaces.{row_before, point_at}

abbrev of_block : Float → Reading
of_block v = Ok (v, InBlock)

-- ---- planes and lines

-- the samples of a block lie plane by plane
module _ (s : Star) (x start end : ℕ) (hx : x ≤ subdivisions s) (starts : start ≡ in_block (subdivisions s) x 0 0)
    (ends : end ≡ start + (subdivisions s + 1) * (subdivisions s + 1)) (fits : end ≤ length s.centre) where
  abbrev n : ℕ
  n = subdivisions s

  abbrev part : List Float
  part = take (end - start) (drop start s.centre)

  pub part_is_plane : Plane s x part
  part_is_plane =
      record {
        reading_at_lem = λ y z hy hz.
            let i = row_start n y + z in
            let e : start + i ≡ in_block n x y z = omega arith in
            let l : i < end - start = omega (arith, row_before n y (n + 1) z (omega arith) hz) in
            ap of_block
            (get_or-take (end - start) (drop start s.centre) i nan l ∙ get_or-drop start s.centre i nan ∙ ap (λ (k : ℕ). get_or s.centre k nan) e)
            ∙ sym (in_block_reading_lem n s.centre (xyz x y z) (record { x_in = hx; y_in = hy; z_in = hz }));
      }

-- a plane is one list
pub plane_one : (s : Star) (x : ℕ) (one other : List Float) → length one ≡ (subdivisions s + 1) * (subdivisions s + 1) → length one ≡ length other
    → Plane s x one → Plane s x other → one ≡ other
plane_one s x one other long same p q =
    ext_get_or nan one other same
    (λ i h.
    let n = subdivisions s in
    let at = point_at n i (omega (arith, long)) in
    let read = p.reading_at_lem at.y at.z at.y_in at.z_in ∙ sym (q.reading_at_lem at.y at.z at.y_in at.z_in) in
    ap (λ (k : ℕ). get_or one k nan) (sym at.is_at) ∙ ap value_of read ∙ ap (λ (k : ℕ). get_or other k nan) at.is_at)

-- and a plane line by line
pub part_is_line : (s : Star) (x y start end : ℕ) (plane : List Float) → Plane s x plane → y ≤ subdivisions s → start ≡ row_start (subdivisions s) y
    → end ≡ start + subdivisions s + 1 → end ≤ length plane → Line (subdivisions s) s.centre x y (take (end - start) (drop start plane))
part_is_line s x y start end plane p hy starts ends fits =
    let w : end - start ≡ subdivisions s + 1 = omega arith in
    record {
      long = rw w (simp (length-take, length-drop) (omega arith));
      reading_at_lem = λ z hz.
          ap of_block
          (get_or-take (end - start) (drop start plane) z nan (omega arith) ∙ get_or-drop start plane z nan
          ∙ ap (λ (k : ℕ). get_or plane (k + z) nan) starts)
          ∙ p.reading_at_lem y z hy hz;
    }

-- ---- the case number

abbrev pub four_corners : Star → ℕ → ℕ → ℕ → ℕ → ℕ
four_corners s x y z w =
    w * point_bit s x y z + 2 * w * point_bit s (x + 1) y z + 4 * w * point_bit s x (y + 1) z + 8 * w * point_bit s (x + 1) (y + 1) z

pub eight_are : (s : Star) (x y z : ℕ) → four_corners s x y z 1 + four_corners s x y (z + 1) 16 ≡ regular_case s x y z
unfolding regular_case
eight_are s x y z = simp add-zero (omega arith)

module _ (s : Star) (x y : ℕ) (a b c d : List Float) (la : Line (subdivisions s) s.centre x y a)
    (lb : Line (subdivisions s) s.centre (x + 1) y b) (lc : Line (subdivisions s) s.centre x (y + 1) c)
    (ld : Line (subdivisions s) s.centre (x + 1) (y + 1) d) where
  bit_is : (p q : ℕ) (line : List Float) → Line (subdivisions s) s.centre p q line → (z : ℕ) → z ≤ subdivisions s
      → inside_bit s.threshold (get_or line z nan) ≡ point_bit s p q z
  unfolding value_at
  bit_is p q line l z hz = ap (λ (r : Reading). inside_bit s.threshold (value_of r)) (l.reading_at_lem z hz)

  four_is : (z w : ℕ) → z ≤ subdivisions s → four_inside s.threshold a b c d z w ≡ four_corners s x y z w
  four_is z w hz =
      λ i.
      w * bit_is x y a la z hz i + 2 * w * bit_is (x + 1) y b lb z hz i + 4 * w * bit_is x (y + 1) c lc z hz i
      + 8 * w * bit_is (x + 1) (y + 1) d ld z hz i

  case_is : (z : ℕ) → z < subdivisions s → line_case s.threshold a b c d z ≡ regular_case s x y z
  case_is z hz = (λ i. four_is z 1 (omega arith) i + four_is (z + 1) 16 (omega arith) i) ∙ eight_are s x y z

-- so for any measures that are the block's
pub case_measured : (s : Star) (n : ℕ) (threshold : Float) (x y : ℕ) (a b c d : List Float) → Measured s n threshold → Line n s.centre x y a
    → Line n s.centre (x + 1) y b → Line n s.centre x (y + 1) c → Line n s.centre (x + 1) (y + 1) d
    → (z : ℕ) → z < n → line_case threshold a b c d z ≡ regular_case s x y z
case_measured s n threshold x y a b c d is la lb lc ld z h =
    let in_s : (x y : ℕ) (l : List Float) → Line n s.centre x y l → Line (subdivisions s) s.centre x y l =
    λ x y l line. subst (λ (k : ℕ). Line k s.centre x y l) (sym is.subdivisions_are) line in
    ap (λ (t : Float). line_case t a b c d z) (sym is.threshold_is)
    ∙ case_is s x y a b c d (in_s x y a la) (in_s (x + 1) y b lb) (in_s x (y + 1) c lc) (in_s (x + 1) (y + 1) d ld) z (omega (arith, is.subdivisions_are))
