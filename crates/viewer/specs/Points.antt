-- Document 02, [4]: a record's point by its signed coordinates, and what is answered of it when the record is refused and when it passes.
use Rattle.std.specs.Prelude.{ℕ, ◌≡◌, List, ℤ, Err, Ok}
use Rattle.model.specs.Answers.{Reading}
use Rattle.model.specs.declared.Refusal.{Refusal}
use Rattle.model.specs.Samples.{reading_at, one_up}
use Rattle.model.specs.Extraction.{point_answer}
use Rattle.model.specs.Record.{header_of, samples_of, judge_record}
use Rattle.model.specs.Viewer.{record_point}

abbrev pub point_reading : List ℕ → ℤ → ℤ → ℤ → Reading
point_reading bytes x y z =
    let n = (header_of bytes).block.subdivisions in
    reading_at n (samples_of bytes) (one_up n x) (one_up n y) (one_up n z)

module _ (bytes : List ℕ) (x y z : ℤ) where
  pub point_refused : (r : Refusal) → judge_record bytes ≡ Err r → Err r ≡ record_point bytes x y z
  unfolding record_point
  point_refused r e = rw e

  pub point_passed : judge_record bytes ≡ Ok tt → point_answer (Ok tt) (point_reading bytes x y z) ≡ record_point bytes x y z
  unfolding record_point
  point_passed e = rw e
