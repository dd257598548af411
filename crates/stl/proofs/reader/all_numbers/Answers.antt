-- `all_numbers` meets its contract. The invariant: the flag tells whether the words before this one are numbers.
use Rattle.std.specs.Prelude.{ℕ, ◌≡◌, not}
use Rattle.std.proofs.Common.{◌∙◌, ap, add-one, arith}
use Rattle.std.specs.Float.{binary32}
use Rattle.std.specs.Float.Ieee.{nan_bits}
use Rattle.stl.specs.Definition.{float_count}
use Rattle.stl.specs.Numbers.{nan_after, all_numbers}
use Rattle.stl.proofs.reader.all_numbers.Goals as goal

pub loop-k-preserved : goal.loop-k-preserved
loop-k-preserved c =
    let turn = c.loop-k in
    let start = c.args in
    let looked : c.is_number-numbers.result ≡ not (nan_after start.bytes.now start.from turn.k) =
    c.is_number-numbers.ensures ∙ ap (λ (w : ℕ). not (nan_bits binary32 w)) c.word_at.ensures in
    rw (add-one, turn.invariant, looked)

pub returns : goal.returns
returns c =
    let start = c.args in
    let all : c.loop-k.k ≡ float_count = omega arith in
    c.loop-k.invariant ∙ ap (all_numbers start.bytes.now start.from) all
