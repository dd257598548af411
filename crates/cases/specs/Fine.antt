-- The lines of fine samples at the rows of a side's transition cells, and that the cells' numbers are the model's.
use Rattle.std.specs.Prelude.{ℕ, ◌+◌, ◌*◌, ◌≤◌, ◌<◌, ◌≡◌, List, Float, get_or}
use Rattle.std.proofs.Common.{sym, ap, ◌∙◌, add-zero, zero-add, arith}
use Rattle.std.specs.Float.{nan}
use Rattle.model.specs.Limits.{most_subdivisions, side_count}
use Rattle.model.specs.Samples.{sample_length}
use Rattle.model.specs.Formulas.{inside_bit}
use Rattle.model.specs.Star.{Star, subdivisions, neighbour_at}
use Rattle.model.specs.Points.{fine_sample, transition_case}
use Rattle.grid.specs.RotationLaws.{OnSide}
use Rattle.grid.specs.declared.face_walk.FaceWalk.{FaceWalk}
use Rattle.grid.specs.Walks.{side_place, walk_of, along_by, row_leads, row_is, spot_leads, spot_is, spot_in, spot_read}
use Rattle.cases.specs.declared.transition.Lines.{Lines}
use Rattle.cases.specs.Faces.{Spot, three_inside, nine_inside, lines_at, Walked, OnWalk}

-- ---- the case number: the nine points of a cell by their fine rows

abbrev fine_bit : Star → ℕ → ℕ → ℕ → ℕ
fine_bit s side u2 v2 = inside_bit s.threshold (fine_sample s side u2 v2)

nine_are : (s : Star) (side u v : ℕ) → let bit = fine_bit s side in
    (0x01 * bit (2 * u) (2 * v) + 0x02 * bit (2 * u + 1) (2 * v) + 0x04 * bit (2 * u + 2) (2 * v))
    + (0x80 * bit (2 * u) (2 * v + 1) + 0x100 * bit (2 * u + 1) (2 * v + 1) + 0x08 * bit (2 * u + 2) (2 * v + 1))
    + (0x40 * bit (2 * u) (2 * v + 2) + 0x20 * bit (2 * u + 1) (2 * v + 2) + 0x10 * bit (2 * u + 2) (2 * v + 2))
    ≡ transition_case s side u v
unfolding transition_case
nine_are s side u v = simp add-zero (omega arith)

-- three lines whose points read as those of the fine rows 2u, 2u + 1 and 2u + 2
pub record FineRows (s : Star) (side u : ℕ) (fine : List Float) (l : Lines) : Type 0 where
  pub a_reads : (v2 : ℕ) → v2 ≤ 2 * subdivisions s → get_or fine (along_by l.a l.step v2) nan ≡ fine_sample s side (2 * u) v2
  pub b_reads : (v2 : ℕ) → v2 ≤ 2 * subdivisions s → get_or fine (along_by l.b l.step v2) nan ≡ fine_sample s side (2 * u + 1) v2
  pub c_reads : (v2 : ℕ) → v2 ≤ 2 * subdivisions s → get_or fine (along_by l.c l.step v2) nan ≡ fine_sample s side (2 * u + 2) v2

-- the cells on them have the model's numbers
module _ (s : Star) (side u : ℕ) (fine : List Float) (l : Lines) (rows : FineRows s side u fine l) where
  three_is : (v2 wa wb wc : ℕ) → v2 ≤ 2 * subdivisions s
      → three_inside s.threshold fine l v2 wa wb wc
      ≡ wa * fine_bit s side (2 * u) v2 + wb * fine_bit s side (2 * u + 1) v2 + wc * fine_bit s side (2 * u + 2) v2
  three_is v2 wa wb wc h =
      let bit = inside_bit s.threshold in
      λ i. wa * bit (rows.a_reads v2 h i) + wb * bit (rows.b_reads v2 h i) + wc * bit (rows.c_reads v2 h i)

  pub cells_are : (v : ℕ) → v < subdivisions s → nine_inside s.threshold fine l v ≡ transition_case s side u v
  cells_are v h =
      (λ i. three_is (2 * v) 0x01 0x02 0x04 (omega arith) i + three_is (2 * v + 1) 0x80 0x100 0x08 (omega arith) i
      + three_is (2 * v + 2) 0x40 0x20 0x10 (omega arith) i) ∙ nine_are s side u v

-- ---- where the lines stand among the neighbour's samples

module _ (s : Star) (side : ℕ) (few : subdivisions s ≤ most_subdivisions) (side_is : side < side_count) where
  abbrev m : ℕ
  m = 2 * subdivisions s

  abbrev walk : FaceWalk
  walk = walk_of m side m

  -- the fine point (u2, v2) of the side
  on : (u2 v2 : ℕ) → u2 ≤ m → v2 ≤ m → OnSide side m u2 v2 m
  on u2 v2 h k = record { few = omega arith; side_is = side_is; u_in = h; v_in = k; w_in = omega arith }

  first_is : (u2 : ℕ) → u2 ≤ m → along_by walk.first walk.u u2 ≡ side_place m side m u2 0
  first_is u2 h = row_is m side m u2 0 (on u2 0 h (omega arith))

  spot : (held u2 v2 : ℕ) → held ≡ sample_length m → u2 ≤ m → v2 ≤ m → Spot held (along_by walk.first walk.u u2) walk.v v2
  spot held u2 v2 e h k =
      let o = on u2 v2 h k in
      rw (first_is u2 h, e) (record { leads = spot_leads m side m u2 v2 o; there = rw (spot_is m side m u2 v2 o) (spot_in m side m u2 v2 o) })

  -- each of the face's rows
  pub face_walked : (held : ℕ) → held ≡ sample_length m → Walked held (subdivisions s) walk (subdivisions s)
  face_walked held e =
      record {
        leads = λ u2 h. row_leads m side m u2 0 (on u2 0 h (omega arith));
        lined = λ u v2 hu h.
            record {
              on_a = spot held (2 * u) v2 e (omega arith) h;
              on_b = spot held (2 * u + 1) v2 e (omega arith) h;
              on_c = spot held (2 * u + 2) v2 e (omega arith) h;
            };
      }

  module _ (fine : List Float) (e : fine ≡ neighbour_at s side) where
    reads : (u2 v2 : ℕ) → u2 ≤ m → v2 ≤ m
        → get_or fine (along_by (along_by walk.first walk.u u2) walk.v v2) nan ≡ fine_sample s side u2 v2
    unfolding fine_sample
    reads u2 v2 h k =
        let o = on u2 v2 h k in
        rw (first_is u2 h, spot_is m side m u2 v2 o, e) (spot_read m side m u2 v2 o (neighbour_at s side))

    pub face_numbers : OnWalk (transition_case s side) s.threshold fine (subdivisions s) walk (subdivisions s) 0
    face_numbers =
        record {
          number = λ u v hu hv.
              cells_are s side u fine (lines_at walk u)
              (record {
                a_reads = λ v2 h. reads (2 * u) v2 (omega arith) h;
                b_reads = λ v2 h. reads (2 * u + 1) v2 (omega arith) h;
                c_reads = λ v2 h. reads (2 * u + 2) v2 (omega arith) h;
              })
              v hv
              ∙ ap (λ (j : ℕ). transition_case s side j v) (sym (zero-add u));
        }
