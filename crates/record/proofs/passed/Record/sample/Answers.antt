-- `sample` meets its contract: no sample of a record that passed is a NaN, and the list of samples has it at its place.
use Rattle.std.proofs.Common.{◌∙◌, ap, sym, arith}
use Rattle.model.specs.Words.{float_at}
use Rattle.model.specs.Record.{sample_from}
use Rattle.judge.specs.Usable.{usable_number}
use Rattle.record.specs.Accepted.{accepted, sample_is}
use Rattle.record.proofs.passed.Record.sample.Goals as goal

pub sample_from-requires : goal.sample_from-requires
sample_from-requires c =
    let whole = accepted _ c.args.self.now.passed in
    omega (arith, whole.counted)

pub float_at-requires : goal.float_at-requires
float_at-requires c =
    let whole = accepted _ c.args.self.now.passed in
    let k = c.args.k in
    record {
      room = omega (arith, whole.counted);
      number = rw c.sample_from.ensures
          (usable_number (float_at c.args.self.now.bytes.now (sample_from k)) (whole.usable_samples k c.requires));
    }

pub returns : goal.returns
returns c =
    let bytes = c.args.self.now.bytes.now in
    c.float_at.ensures ∙ ap (float_at bytes) c.sample_from.ensures ∙ sym (sample_is bytes c.args.k c.requires)
