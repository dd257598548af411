-- `is_usable_size_at` meets its contract: sizes are ordered as their bit patterns are.
use Prim.Native.Nat.{ℕ}
use mathlib.Core.Path.{ap, sym, ◌∙◌}
use mathlib.Core.Bool.{◌&&◌}
use lib.Dec.{leb}
use Rattle.model.specs.Words.{word_at}
use Rattle.record.specs.Patterns.{usable_size_bits}
use Rattle.words.specs.Orders.{word_lt}
use Rattle.record.proofs.judging.is_usable_size_at.Goals as goal

pub returns : goal.returns
returns c =
    let bytes = c.args.bytes.now in
    let at = c.args.at in
    ap (λ (w : ℕ). leb 0x3A80_0000 w && leb w 0x4980_0000) c.word_at-size.ensures
    ∙ sym (usable_size_bits (word_at bytes at) (word_lt bytes (λ k. (c.shared_slice_known-1.given k).fits) at))
