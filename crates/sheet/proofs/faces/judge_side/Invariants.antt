-- `faces::judge_side` meets its contract. The loop's invariant: no row passed over has a point that differs.
use Rattle.std.specs.Prelude.{◌≡◌, Ok}
use Rattle.model.specs.Judging.{face_side}
use Rattle.model.specs.Record.{star_of}
use Rattle.sheet.proofs.faces.judge_side.Given as goal

abbrev pub invariant-loop-u : goal.invariant-loop-u
invariant-loop-u l = face_side (star_of l.src.bytes.now) l.side l.u ≡ Ok tt
