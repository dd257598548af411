-- `judge::samples::all_usable` meets its contract: two halves are the whole list, or leave one sample.
use Prim.Native.Nat.{◌+◌, ◌/◌}
use mathlib.Core.Path.{◌≡◌, ap, ◌∙◌}
use native.Mathlib.Omega.{arith}
use lib.ListN.{length}
use Rattle.judge.specs.Counted.{all_usable, last_one}
use Rattle.judge.proofs.samples.all_usable.Goals as goal

pub returns-then-samples-eq0 : goal.returns-then-samples-eq0
returns-then-samples-eq0 c =
    let samples = c.args.samples.now in
    let even : length samples / 2 + length samples / 2 ≡ length samples = omega arith in
    c.halves_usable-usable.ensures ∙ ap (all_usable samples) even

pub returns : goal.returns
returns c =
    let samples = c.args.samples.now in
    rw (c.halves_usable-usable.ensures, c.is_usable.ensures) (last_one samples (length samples / 2 + length samples / 2) (omega arith))
