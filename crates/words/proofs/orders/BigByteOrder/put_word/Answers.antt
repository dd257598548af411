-- `put_word` meets its contract: the four bytes are the digits, the highest first.
use Rattle.std.specs.Prelude.{◌≡◌}
use Rattle.std.proofs.Common.{ap, ◌∙◌, arith, length}
use Rattle.std.proofs.lemmas.List.Edits.{sets}
use Rattle.model.specs.Words.{word_bytes}
use Rattle.words.specs.Puts.{put_sets}
use Rattle.words.proofs.orders.BigByteOrder.put_word.Goals as goal

pub returns : goal.returns
unfolding word_bytes
returns c =
    let put : c.copy_from_slice.new.self ≡ word_bytes c.args.word = c.copy_from_slice.ensures.after ∙ c.to_be_bytes.ensures in
    put_sets c.args.bytes.now c.copy_from_slice.new.self c.args.at _ (omega (arith, ap length put)) (omega arith)
    ∙ ap (sets c.args.bytes.now c.args.at) put
