-- `put_floats` meets its contract. The loop's invariant: the bytes of the floats passed stand from `at` on.
use Rattle.std.specs.Prelude.{ℕ, ◌+◌, ◌*◌, List, get_or}
use Rattle.std.proofs.Common.{◌∙◌, ap}
use Rattle.std.proofs.lemmas.List.Edits.{sets}
use Rattle.std.specs.Float.{nan}
use Rattle.model.specs.Words.{float_bytes}
use Rattle.words.specs.Orders.{big}
use Rattle.words.specs.Floats.{put_more}
use Rattle.record.proofs.writer.put_floats.Goals as goal

pub loop-k-preserved : goal.loop-k-preserved
loop-k-preserved c =
    let args = c.args in
    let k = c.loop-k.k in
    c.put_word.ensures
    ∙ ap (λ (l : List ℕ). sets l (args.at + 4 * k) (float_bytes (get_or args.floats.now k nan))) c.loop-k.invariant
    ∙ put_more big args.bytes.now args.at args.floats.now k c.loop-k-test.true
