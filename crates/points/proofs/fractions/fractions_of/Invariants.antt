-- `fractions::fractions_of` meets its contract. The invariant: the places passed hold their fractions, and the others are as they were.
use mathlib.Core.Path.{◌≡◌}
use mathlib.Core.List.{◌++◌}
use lib.ListN.{drop}
use Rattle.laws.specs.Steps.{listed}
use Rattle.points.specs.Fractions.{fraction}
use Rattle.points.proofs.fractions.fractions_of.Given as goal

abbrev pub invariant-loop-index : goal.invariant-loop-index
invariant-loop-index l = l.fraction-items ≡ listed (fraction l.n) l.index ++ drop l.index l.initial.fraction-items
