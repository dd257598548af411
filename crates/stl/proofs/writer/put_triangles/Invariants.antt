-- `put_triangles` meets its contract. The invariant: the triangles passed stand after the start.
use Rattle.std.specs.Prelude.{◌≡◌}
use Rattle.std.proofs.lemmas.List.Edits.{sets}
use Rattle.laws.specs.Counting.{gather}
use Rattle.stl.specs.Definition.{start_length}
use Rattle.stl.specs.Parts.{facet_of}
use Rattle.stl.proofs.writer.put_triangles.Given as goal

abbrev pub invariant-loop-t : goal.invariant-loop-t
invariant-loop-t l = l.bytes ≡ sets l.initial.bytes start_length (gather (facet_of l.vertices l.triangles) l.t)
