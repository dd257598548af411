-- `all_numbers` meets its contract. The invariant: the flag tells whether the words before this one are numbers.
use Rattle.std.specs.Prelude.{◌≡◌}
use Rattle.stl.specs.Numbers.{all_numbers}
use Rattle.stl.proofs.reader.all_numbers.Given as goal

abbrev pub invariant-loop-k : goal.invariant-loop-k
invariant-loop-k l = l.numbers ≡ all_numbers l.bytes l.from l.k
