-- The three fine lines that a row of transition cells lies on, one after another in a list: the cells' numbers are the model's. And what the sides'
-- cells add is the definition's sum over the named sides.
use Rattle.std.specs.Prelude.{◌≡◌, List, ℕ, ◌+◌, ◌*◌, ◌≤◌, ◌<◌, Float, length, get_or}
use Rattle.std.proofs.Common.{sym, ap, ◌∙◌, subst, add-zero, mul_comm, mul-le-mul, mul-le-mul_left, le_of_suc-le-suc, arith}
use Rattle.std.specs.Float.{nan}
use Rattle.std.proofs.Math.ListN.{get_or-append}
use Rattle.std.proofs.lemmas.List.Edits.{sets}
use Rattle.laws.specs.Steps.{total, listed, laid}
use Rattle.laws.specs.Counting.{gather}
use Rattle.laws.specs.Gathered.{length_gather, get_d_gather}
use Rattle.laws.specs.Lists.{length_listed, get_d_listed, sets_first}
use Rattle.model.specs.declared.Counts.{Counts}
use Rattle.model.specs.declared.Header.{Header}
use Rattle.model.specs.Limits.{most_subdivisions}
use Rattle.model.specs.Star.{Star, subdivisions}
use Rattle.model.specs.Points.{fine_sample, transition_case}
use Rattle.model.specs.Record.{header_of, count_of, samples_of, star_of}
use Rattle.model.specs.OverCells.{over_side, triangles_on_side}
use Rattle.grid.specs.declared.face_walk.FaceWalk.{FaceWalk}
use Rattle.grid.specs.Walks.{along_by}
use Rattle.lines.specs.declared.Line.{Line}
use Rattle.lines.specs.Lines.{by_one, place_on, OnLine, NamedSide, fine_line, fine_on, fine_read}
use Rattle.cases.specs.Faces.{lines_at, Walked, OnWalk}
use Rattle.cases.specs.Fine.{cells_are}
use Rattle.sheet.specs.Definition.{made_on_side}

-- the places that three fine lines have room for
abbrev pub three_lines : ℕ
three_lines = 3 * (2 * most_subdivisions + 1)

-- the lines at the fine rows 2u, 2u + 1 and 2u + 2
pub record FineLines (s : Star) (side u : ℕ) (samples : List Float) : Type 0 where
  pub sample_at : (i v2 : ℕ) → i < 3 → v2 ≤ 2 * subdivisions s
      → get_or samples ((2 * subdivisions s + 1) * i + v2) nan ≡ fine_sample s side (2 * u + i) v2

-- the walk over them: the next line lies behind a line
abbrev pub over_lines : ℕ → FaceWalk
over_lines n = record { first = 0; u = record { up = 2 * n + 1; down = 0 }; v = by_one }

-- a row of cells lies on them
pub lines_walked : (n : ℕ) → n ≤ most_subdivisions → Walked three_lines n (over_lines n) 1
lines_walked n few =
    record {
      leads = λ u2 h.
          let wide : 2 * n + 1 ≤ 2 * most_subdivisions + 1 = omega arith in
          record { enough = omega arith; within = omega (arith, mul-le-mul h wide) };
      lined = λ u v2 hu h.
          let first : u ≡ 0 = omega arith in
          rw first
          (record {
            on_a = record { leads = omega arith; there = omega arith };
            on_b = record { leads = omega arith; there = omega arith };
            on_c = record { leads = omega arith; there = omega arith };
          });
    }

module _ (s : Star) (side u : ℕ) (samples : List Float) (f : FineLines s side u samples) where
  abbrev n : ℕ
  n = subdivisions s

  -- the i-th of them
  reads : (i u2 v2 : ℕ) → i < 3 → 2 * u + i ≡ u2 → v2 ≤ 2 * n
      → get_or samples (along_by (along_by 0 (over_lines n).u i) by_one v2) nan ≡ fine_sample s side u2 v2
  reads i u2 v2 hi row hv =
      let at : along_by (along_by 0 (over_lines n).u i) by_one v2 ≡ (2 * n + 1) * i + v2 = omega (arith, mul_comm (2 * n + 1) i) in
      ap (λ (k : ℕ). get_or samples k nan) at ∙ f.sample_at i v2 hi hv ∙ ap (λ (k : ℕ). fine_sample s side k v2) row

  -- so the cells on them have the model's numbers
  fine_cases : OnWalk (transition_case s side) s.threshold samples n (over_lines n) 1 u
  fine_cases =
      record {
        number = λ j v hj hv.
            let first : j ≡ 0 = omega arith in
            rw first
            (cells_are s side u samples (lines_at (over_lines n) 0)
            (record {
              a_reads = λ v2 h. reads 0 (2 * u) v2 (omega arith) (omega arith) h;
              b_reads = λ v2 h. reads 1 (2 * u + 1) v2 (omega arith) (omega arith) h;
              c_reads = λ v2 h. reads 2 (2 * u + 2) v2 (omega arith) (omega arith) h;
            })
            v hv
            ∙ ap (λ (k : ℕ). transition_case s side k v) (sym (add-zero u)));
      }

-- with the record's header
pub face_cases : (bytes : List ℕ) (h : Header) (side u : ℕ) → h ≡ header_of bytes → (samples : List Float) → FineLines (star_of bytes) side u samples
    → OnWalk (transition_case (star_of bytes) side) h.threshold samples h.block.subdivisions (over_lines h.block.subdivisions) 1 u
face_cases bytes h side u e samples f =
    subst
    (λ (g : Header). OnWalk (transition_case (star_of bytes) side) g.threshold samples g.block.subdivisions (over_lines g.block.subdivisions) 1 u)
    (sym e) (fine_cases (star_of bytes) side u samples f)

-- they are, if line after line was written
lines_filled : (s : Star) (side u : ℕ) (before after : List Float) (line : ℕ → List Float)
    → 3 * (2 * subdivisions s + 1) ≤ length before → ((i : ℕ) → length (line i) ≡ 2 * subdivisions s + 1)
    → ((i v2 : ℕ) → i < 3 → v2 ≤ 2 * subdivisions s → get_or (line i) v2 nan ≡ fine_sample s side (2 * u + i) v2)
    → after ≡ sets before 0 (gather line 3) → FineLines s side u after
lines_filled s side u before after line room wide read e =
    let w = 2 * subdivisions s + 1 in
    let long = length_gather line w wide 3 in
    let laid_is : after ≡ laid (gather line 3) before = e ∙ sets_first before (gather line 3) (omega arith) in
    record {
      sample_at = λ i v2 hi hv.
          let within : w * i + v2 < length (gather line 3) = omega (arith, long, by_three i hi) in
          ap (λ (l : List Float). get_or l (w * i + v2) nan) laid_is
          ∙ get_or-append (gather line 3) _ nan (w * i + v2) within
          ∙ get_d_gather line w wide 3 i v2 nan hi (omega arith)
          ∙ read i v2 hi hv;
    }
  where
    by_three : (i : ℕ) → i < 3 → (2 * subdivisions s + 1) * i ≤ (2 * subdivisions s + 1) * 2
    by_three i h = mul-le-mul_left (2 * subdivisions s + 1) (le_of_suc-le-suc h)

-- in a record that passed
abbrev pub line_samples : List ℕ → Line → List Float
line_samples bytes line = listed (λ k. get_or (samples_of bytes) (place_on line k) nan) line.points

pub record ThreeLined (bytes : List ℕ) (h : Header) (side u : ℕ) : Type 0 where
  pub on_line : (i : ℕ) → i < 3 → (k : ℕ) → k < (fine_line h side (2 * u + i)).points → OnLine (count_of bytes) (fine_line h side (2 * u + i)) k
  pub filled : (before after : List Float) → 3 * (2 * h.block.subdivisions + 1) ≤ length before
      → after ≡ sets before 0 (gather (λ i. line_samples bytes (fine_line h side (2 * u + i))) 3) → FineLines (star_of bytes) side u after

module _ (bytes : List ℕ) (side u : ℕ) where
  lined : NamedSide (header_of bytes) side → u < (header_of bytes).block.subdivisions → ThreeLined bytes (header_of bytes) side u
  lined is hu =
      let h = header_of bytes in
      record {
        on_line = λ i hi k hk. fine_on bytes side is (2 * u + i) k (omega arith) (omega arith);
        filled = λ before after room e.
            lines_filled (star_of bytes) side u before after (λ i. line_samples bytes (fine_line h side (2 * u + i))) room (λ i. length_listed _ _)
            (λ i v2 hi hv. get_d_listed _ (2 * h.block.subdivisions + 1) v2 nan (omega arith)
            ∙ fine_read bytes side is (2 * u + i) v2 (omega arith) hv)
            e;
      }

  pub three_lined : (h : Header) → h ≡ header_of bytes → NamedSide h side → u < h.block.subdivisions → ThreeLined bytes h side u
  three_lined h e is hu = subst (λ (g : Header). ThreeLined bytes g side u) (sym e) (lined (rw e at is) (rw e at hu))

-- ---- the sides

pub record SideCounts (s : Star) (k : ℕ) (counts : Counts) : Type 0 where
  pub vertices_are : counts.vertices ≡ total (over_side s (made_on_side s)) k
  pub triangles_are : counts.triangles ≡ total (over_side s (triangles_on_side s)) k
