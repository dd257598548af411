-- `faces::judge_row` meets its contract. The loop's invariant: no point passed over differs.
use Rattle.std.specs.Prelude.{◌≡◌, Ok}
use Rattle.model.specs.Judging.{face_row}
use Rattle.model.specs.Record.{star_of}
use Rattle.sheet.proofs.faces.judge_row.Given as goal

abbrev pub invariant-loop-v : goal.invariant-loop-v
invariant-loop-v l = face_row (star_of l.src.bytes.now) l.side l.u l.v ≡ Ok tt
