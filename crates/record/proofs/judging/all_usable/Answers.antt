-- `all_usable` meets its contract: small samples can be used, and otherwise their patterns tell exactly.
use Rattle.std.proofs.Common.{◌∙◌, arith}
use Rattle.record.specs.Together.{all_by_bits, told_small}
use Rattle.record.proofs.judging.all_usable.Goals as goal

pub returns-then-all_at_most : goal.returns-then-all_at_most
returns-then-all_at_most c =
    let usable = told_small c.args.bytes.now (λ k. (c.type_inv.bytes k).fits) _ c.args.count in
    c.if-all_at_most.true ∙ usable c.all_at_most.ensures (omega arith) c.if-all_at_most.true

pub returns-else-all_at_most : goal.returns-else-all_at_most
returns-else-all_at_most c =
    c.all_at_most-else-all_at_most.ensures ∙ all_by_bits c.args.bytes.now (λ k. (c.type_inv.bytes k).fits) c.args.count
