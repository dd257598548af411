-- `write_record` meets its contract: a refusal leaves the bytes; otherwise header, centre and neighbours are put one after another, which is
-- the whole record.
use Rattle.std.specs.Prelude.{Ok}
use Prim.Native.Nat.{◌+◌, ◌≤◌}
use mathlib.Core.Path.{◌≡◌, sym, ap, ◌∙◌}
use mathlib.Core.List.{◌++◌}
use native.Mathlib.Omega.{arith}
use lib.ListN.{length, length-append}
use lib.Seq.{sets}
use Rattle.laws.specs.Steps.{each, laid}
use Rattle.laws.specs.Exits.{handed_on}
use Rattle.model.specs.Refusals.{or_else}
use Rattle.model.specs.Star.{star}
use Rattle.model.specs.Judging.{judge_buffer, judge_star}
use Rattle.model.specs.Words.{float_bytes}
use Rattle.model.specs.Record.{sample_from, record_of, write_answer, write_record}
use Rattle.judge.specs.First.{both_passed}
use Rattle.record.specs.ReadingOrder.{buffer_holds}
use Rattle.record.specs.Bytes.{parts_laid}
use Rattle.record.specs.Writable.{Writable, writable}
use Rattle.record.proofs.writer.write_record.Goals as goal
use Rattle.record.proofs.writer.write_record.Goals.{In_ok-judge_writing}

passed : (c : In_ok-judge_writing) → or_else (judge_star (star c.args.lent.now.header c.args.lent.now.centre.now c.args.lent.now.neighbours.now)) (judge_buffer (sample_from (length (c.args.lent.now.centre.now ++ c.args.lent.now.neighbours.now))) (length c.args.bytes.now)) ≡ Ok tt
passed c = sym c.judge_writing.ensures ∙ c.in_ok-judge_writing.was

is-writable : (c : In_ok-judge_writing) → Writable c.args.lent.now.header c.args.lent.now.centre.now c.args.lent.now.neighbours.now
is-writable c = writable c.args.lent.now.header c.args.lent.now.centre.now c.args.lent.now.neighbours.now (both_passed (judge_star (star c.args.lent.now.header c.args.lent.now.centre.now c.args.lent.now.neighbours.now)) _ (passed c)).0

room : (c : In_ok-judge_writing) → sample_from (length c.args.lent.now.centre.now + length c.args.lent.now.neighbours.now) ≤ length c.args.bytes.now
room c =
    rw length-append at
    (buffer_holds (sample_from (length (c.args.lent.now.centre.now ++ c.args.lent.now.neighbours.now))) (length c.args.bytes.now) (both_passed (judge_star (star c.args.lent.now.header c.args.lent.now.centre.now c.args.lent.now.neighbours.now)) _ (passed c)).1)

pub returns-in_err-judge_writing : goal.returns-in_err-judge_writing
unfolding write_record
returns-in_err-judge_writing c =
    let lent = c.args.lent.now in
    let refused = sym c.judge_writing.ensures ∙ c.in_err-judge_writing.was in
    rw (handed_on _ _ c.from_residual.ensures.1)
    (sym (ap (write_answer lent.header (lent.centre.now ++ lent.neighbours.now) c.args.bytes.now) refused))

pub put_header-requires : goal.put_header-requires
put_header-requires c =
    let w = is-writable (goal.at.put_header-requires c).In_ok-judge_writing in
    (omega (arith, room (goal.at.put_header-requires c).In_ok-judge_writing), (omega (arith, w.few), (w.counted, w.measures)))

pub put_floats-requires : goal.put_floats-requires
put_floats-requires c =
    (omega (arith, room (goal.at.put_floats-requires c).In_ok-judge_writing), (is-writable (goal.at.put_floats-requires c).In_ok-judge_writing).centre_numbers)

pub put_floats-requires-2 : goal.put_floats-requires-2
put_floats-requires-2 c =
    (omega (arith, room (goal.at.put_floats-requires-2 c).In_ok-judge_writing), (is-writable (goal.at.put_floats-requires-2 c).In_ok-judge_writing).neighbour_numbers)

pub sample_from-requires-3 : goal.sample_from-requires-3
sample_from-requires-3 c =
    omega (arith, (is-writable (goal.at.sample_from-requires-3 c).In_ok-judge_writing).counted)

pub returns : goal.returns
unfolding write_record
returns c =
    let c' = c.args.lent.now.centre.now in
    let n' = c.args.lent.now.neighbours.now in
    let put : c.put_floats-2.new.bytes ≡ laid (record_of c.args.lent.now.header (c' ++ n')) c.args.bytes.now =
    c.put_floats-2.ensures
    ∙ (λ i. sets (c.put_floats.ensures i) (c.sample_from-2.ensures i) (each float_bytes n'))
    ∙ (λ i. sets (sets (c.put_header.ensures i) (c.sample_from.ensures i) (each float_bytes c')) (sample_from (length c')) (each float_bytes n'))
    ∙ parts_laid c.args.lent.now.header c' n' c.args.bytes.now (room (goal.at.returns c).In_ok-judge_writing) in
    (λ i. record { answer = Ok ((c.sample_from-3.ensures ∙ ap sample_from (sym (length-append c' n'))) i); bytes = put i })
    ∙ sym (ap (write_answer c.args.lent.now.header (c' ++ n') c.args.bytes.now) (passed (goal.at.returns c).In_ok-judge_writing))
