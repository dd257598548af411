-- `Cutout::first_bad` meets its contract. The invariant: no sample passed is refused.
use Rattle.std.specs.Prelude.{Err, Ok}
use native.Mathlib.Omega.{arith}
use mathlib.Core.Path.{◌≡◌, refl, sym}
use Rattle.model.specs.declared.Refusal.TheVariants.{BadSample}
use Rattle.model.specs.Samples.{sample_length}
use Rattle.judge.specs.First.{not_yet, hit}
use Rattle.volume.specs.Definition.{taken_usable, judge_taken}
use Rattle.volume.proofs.places.Cutout.first_bad.Goals as goal

pub sample_length-place-end-requires : goal.sample_length-place-end-requires
sample_length-place-end-requires c = omega (arith, c.requires.cut.few)

pub loop-place-init : goal.loop-place-init
loop-place-init c = (omega arith, c.sample_length-place-end.ensures, refl)

pub taken_place-taken-requires : goal.taken_place-taken-requires
taken_place-taken-requires c = (c.requires.cut, omega arith)

pub is_usable_at-requires : goal.is_usable_at-requires
is_usable_at-requires c = omega (arith, c.taken_place-taken.ensures.1, c.requires.whole)

pub returns-then-not-is_usable_at : goal.returns-then-not-is_usable_at
unfolding judge_taken
returns-then-not-is_usable_at c =
    let turn = c.loop-place in
    let here : (let args = c.args in taken_usable args.bytes.now args.self.sizes args.self.n args.self.first) turn.place ≡ Err (BadSample c.taken_place-taken.result) =
    rw (← c.taken_place-taken.ensures.0, ← c.is_usable_at.ensures, c.if-not-is_usable_at.true) in
    sym (hit (let args = c.args in taken_usable args.bytes.now args.self.sizes args.self.n args.self.first) turn.place (sample_length c.args.self.n) (BadSample c.taken_place-taken.result) turn.invariant.2 here (omega (arith, turn.invariant)))

pub overflow_step-place : goal.overflow_step-place
overflow_step-place c = omega arith

pub loop-place-smaller : goal.loop-place-smaller
loop-place-smaller c = omega arith

pub loop-place-preserved : goal.loop-place-preserved
loop-place-preserved c =
    let turn = c.loop-place in
    let here : (let args = c.args in taken_usable args.bytes.now args.self.sizes args.self.n args.self.first) turn.place ≡ Ok tt = rw (← c.taken_place-taken.ensures.0, ← c.is_usable_at.ensures, c.if-not-is_usable_at.false) in
    (omega arith, turn.invariant.1, not_yet (let args = c.args in taken_usable args.bytes.now args.self.sizes args.self.n args.self.first) turn.place turn.invariant.2 here)

pub returns : goal.returns
unfolding judge_taken
returns c =
    let turn = c.loop-place in
    let all : turn.place ≡ sample_length c.args.self.n = omega (arith, turn.invariant) in
    sym (rw all at turn.invariant.2)
