-- What the buyer was promised of blank (document 02, [3]), for every record: the viewer's call answers 1 exactly when extraction makes no triangle, and
-- with mask 0 it answers as before. It speaks of the model's `blank_answer`, to which the `ensures` of the call says that the code is equal, and of the
-- record's block, `star_of`. Definitions only.
use Rattle.std.specs.Prelude.{ℕ, ◌≡◌, ◌↔◌, List, Float, Ok}
use Rattle.model.specs.declared.Counts.{Counts}
use Rattle.model.specs.declared.Header.{Header}
use Rattle.model.specs.Star.{star}
use Rattle.model.specs.Judging.{judge_faces}
use Rattle.model.specs.Record.{header_of, star_of, read_record}
use Rattle.model.specs.Viewer.{blank_answer, blank_answer_before}
use Rattle.promises.specs.Left.{Lent, answered, counts, centre_of, neighbours_of}
use Rattle.promises.specs.Orders.{in_order, block_judges, record_judges}

pub record BlankPromises : Type 0 where
  -- the block of a record that the call accepts passes 1 to 7
  pub passes : (bytes : List ℕ) → in_order (record_judges bytes) ≡ Ok tt → in_order (block_judges (star_of bytes)) ≡ Ok tt
  -- where it passes 8 too, the answer is 1 exactly when the definition's mesh has no triangle
  pub exactly : (bytes : List ℕ) → in_order (record_judges bytes) ≡ Ok tt → judge_faces (star_of bytes) ≡ Ok tt
      → (blank_answer bytes ≡ 1) ↔ ((counts (star_of bytes)).triangles ≡ 0)
  -- so, of a record that is read and then meshed, exactly when extraction answers that it made none
  pub by_calls : (bytes : List ℕ) (samples : List Float) (h : Header) (lent : Lent) (c : Counts) → (read_record bytes samples).answer ≡ Ok h
      → let read = (read_record bytes samples).samples in
      answered (star h (centre_of h read) (neighbours_of h read)) lent ≡ Ok c → (blank_answer bytes ≡ 1) ↔ (c.triangles ≡ 0)
  -- whether or not 8 passes, a block that is skipped has no triangle
  pub nothing_skipped : (bytes : List ℕ) → blank_answer bytes ≡ 1 → (counts (star_of bytes)).triangles ≡ 0
  -- with mask 0 the answer is document 01's, whatever the record
  pub as_before : (bytes : List ℕ) → (header_of bytes).mask ≡ 0 → blank_answer bytes ≡ blank_answer_before bytes
