-- `word_at` meets its contract: the four bytes in the one order are those in the other, turned round.
use Rattle.std.proofs.Common.{◌≡◌, ap, ◌∙◌, arith}
use Rattle.words.specs.Orders.{turned, little_turned}
use Rattle.words.proofs.orders.BigByteOrder.word_at.Goals as goal

pub returns : goal.returns
returns c =
    let turned_round : c.swap_bytes.result ≡ turned c.word_at.result = omega (arith, c.swap_bytes.ensures) in
    turned_round ∙ ap turned c.word_at.ensures ∙ little_turned c.args.bytes.now (λ k. (c.type_inv.bytes k).fits) c.args.at
