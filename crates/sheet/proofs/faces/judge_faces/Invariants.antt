-- `faces::judge_faces` meets its contract. The loop's invariant: no named side passed over has a point that differs.
use Rattle.judge.specs.NamedSides.{GonePast}
use Rattle.sheet.specs.Faces.{side_judged}
use Rattle.sheet.proofs.faces.judge_faces.Given as goal

abbrev pub invariant-loop-side : goal.invariant-loop-side
invariant-loop-side l = GonePast l.src.header.mask (side_judged l.src.bytes.now) l.side-iterator.mask l.side-iterator.from
