-- `pair_cases` meets its contract. The loop's invariant: the places passed hold their cells' numbers.
use Prim.Native.Nat.{◌+◌}
use Rattle.cases.specs.Sheets.{RowPut}
use Rattle.cases.specs.Pairs.{of_pairs}
use Rattle.pairs.proofs.pair_cases.Given as goal

abbrev pub invariant-loop-i : goal.invariant-loop-i
invariant-loop-i l = RowPut (of_pairs (l.n + 1) l.pairs) 0 l.i l.initial.case-items l.case-items
