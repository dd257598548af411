-- `one_side::sides_lie` meets its contract. The loop's invariant: the samples of every named side passed lie as wanted.
use Rattle.model.specs.Record.{star_of}
use Rattle.model.specs.Blank.{side_as}
use Rattle.viewer.specs.NamedSides.{GonePast}
use Rattle.viewer.proofs.one_side.sides_lie.Given as goal

abbrev pub invariant-loop-side : goal.invariant-loop-side
invariant-loop-side l =
    GonePast l.src.header.mask (side_as l.wanted (star_of l.src.bytes.now)) l.side-iterator.mask l.side-iterator.from
