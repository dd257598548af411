-- `all_at_most` meets its contract: the fold works out the test of each sample.
use Rattle.std.specs.Prelude.{true, ◌&&◌}
use Rattle.std.proofs.Common.{◌∙◌, arith, refl, rules}
use Rattle.std.proofs.lemmas.Iterator.{YieldsList-from_range}
use Rattle.std.proofs.lemmas.Iterator.Consumers.{fold_from_yields_List}
use Rattle.words.specs.Folds.{fold_all}
use Rattle.record.specs.Together.{bare_at_most}
use Rattle.record.proofs.judging.all_at_most.Goals as goal

pub returns : goal.returns
returns c =
    let at_most = bare_at_most c.args.bytes.now c.args.most in
    let whole = YieldsList-from_range 0 c.args.count c.args.count refl (omega arith) in
    fold_from_yields_List _ (λ b k. b && at_most k) true c.fold.result c.fold.ensures.ran whole (λ a x b q k. search rules)
    ∙ fold_all at_most c.args.count
