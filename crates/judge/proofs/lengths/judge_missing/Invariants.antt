-- `judge::lengths::judge_missing` meets its contract. The invariant: each named side's part is there below the one that the walk goes on from.
use Rattle.judge.specs.NamedSides.{GonePast}
use Rattle.judge.specs.Lengths.{part_there}
use Rattle.judge.proofs.lengths.judge_missing.Given as goal

abbrev pub invariant-loop-side : goal.invariant-loop-side
invariant-loop-side l = GonePast l.mask (part_there l.n l.mask l.held) l.side-iterator.mask l.side-iterator.from
