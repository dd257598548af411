-- Document 02, [1]: what the judges of writing and of reading let pass, and that they let it pass.
use Rattle.std.specs.Prelude.{ℕ, ◌*◌, ◌≤◌, ◌≡◌, List, Float, length, Ok}
use borrow.Author.Tests.{leb-true, eqb-true, le-leb, eq-eqb}
use Rattle.judge.specs.First.{both_passed, unless_passed}
use Rattle.model.specs.Corners.{triangle_count, judge_named}
use Rattle.stl.specs.Definition.{vertex_count, start_length, file_length, most_triangles, judge_writing, count_in, float_count, judge_file, judge_reading}
use Rattle.stl.specs.Named.{AllName, names, all_name_passes}

-- ---- writing

pub record Writable (vertices : List Float) (triangles : List ℕ) (room : ℕ) : Type 0 where
  pub few : triangle_count triangles ≤ most_triangles
  pub named : AllName vertices triangles
  pub fits : file_length (triangle_count triangles) ≤ room

module _ (vertices : List Float) (triangles : List ℕ) (room : ℕ) where
  pub writable : judge_writing (vertex_count vertices) triangles room ≡ Ok tt → Writable vertices triangles room
  unfolding judge_writing
  writable e =
      let many = both_passed _ _ e in
      let rest = both_passed (judge_named (vertex_count vertices) triangles) _ many.1 in
      record {
        few = leb-true _ _ (unless_passed _ _ many.0);
        named = names vertices triangles rest.0;
        fits = leb-true _ _ (unless_passed _ _ rest.1);
      }

  pub writing_passes : Writable vertices triangles room → judge_writing (vertex_count vertices) triangles room ≡ Ok tt
  unfolding judge_writing
  writing_passes w =
      rw (
        le-leb (triangle_count triangles) most_triangles w.few,
        all_name_passes vertices triangles w.named,
        le-leb (file_length (triangle_count triangles)) room w.fits,
      )

-- ---- reading

-- as long as its count says
pub record Whole (bytes : List ℕ) : Type 0 where
  pub long : start_length ≤ length bytes
  pub counted : length bytes ≡ file_length (count_in bytes)

module _ (bytes : List ℕ) where
  pub whole : judge_file bytes ≡ Ok tt → Whole bytes
  whole e =
      let parts = both_passed _ _ e in
      record { long = leb-true _ _ (unless_passed _ _ parts.0); counted = eqb-true _ _ (unless_passed _ _ parts.1) }

  pub file_passes : Whole bytes → judge_file bytes ≡ Ok tt
  file_passes w = rw (le-leb start_length (length bytes) w.long, eq-eqb (length bytes) (file_length (count_in bytes)) w.counted)

pub record Readable (bytes : List ℕ) (room : ℕ) : Type 0 where
  pub file : Whole bytes
  pub fits : float_count * count_in bytes ≤ room

module _ (bytes : List ℕ) (room : ℕ) where
  pub readable : judge_reading bytes room ≡ Ok tt → Readable bytes room
  unfolding judge_reading
  readable e =
      let parts = both_passed (judge_file bytes) _ e in
      record { file = whole bytes parts.0; fits = leb-true _ _ (unless_passed _ _ parts.1) }

  pub reading_passes : Readable bytes room → judge_reading bytes room ≡ Ok tt
  unfolding judge_reading
  reading_passes r = rw (file_passes bytes r.file, le-leb (float_count * count_in bytes) room r.fits)
