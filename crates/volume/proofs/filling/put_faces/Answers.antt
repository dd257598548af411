-- `put_faces` meets its contract. The invariant: the faces passed are put.
use Prim.Native.Nat.{◌+◌, ◌≤◌}
use native.Mathlib.Nat.{mul-le-mul}
use native.Mathlib.Omega.{arith}
use mathlib.Core.Path.{◌≡◌, refl, ◌∙◌}
use Rattle.model.specs.Limits.{most_subdivisions}
use Rattle.volume.specs.Putting.{no_faces, faces_more, small}
use Rattle.volume.proofs.filling.put_faces.Goals as goal

pub overflow_add-m : goal.overflow_add-m
overflow_add-m c = omega arith

pub loop-side-init : goal.loop-side-init
loop-side-init c =
    let args = c.args in (
      omega arith,
      refl,
      no_faces args.n args.bytes.now args.xs.now args.across.now args.along.now args.square args.samples.now,
    )

pub overflow_add-m-in-loop-side : goal.overflow_add-m-in-loop-side
overflow_add-m-in-loop-side c = omega arith

pub offset_bounds-across-m : goal.offset_bounds-across-m
offset_bounds-across-m c = omega arith

pub bounds-across-m : goal.bounds-across-m
bounds-across-m c = omega (arith, c.requires.1.long_across)

pub overflow_mul-first : goal.overflow_mul-first
overflow_mul-first c = omega (arith, small c.args.n c.requires.0 (c.args.n + 1) (omega arith))

pub overflow_add-first : goal.overflow_add-first
overflow_add-first c = omega (arith, c.requires.1.few)

pub overflow_mul-first-in-loop-side : goal.overflow_mul-first-in-loop-side
overflow_mul-first-in-loop-side c =
    let n = c.args.n in
    let square = small n c.requires.0 (n + 1) (omega arith) in
    let number : c.args.square + c.loop-side.side ≤ most_subdivisions + 7 = omega (arith, c.requires) in
    omega (arith, mul-le-mul square number)

pub put_line-requires : goal.put_line-requires
put_line-requires c =
    let pre = c.requires.1 in
    let turn = c.loop-side in
    record {
      some = omega arith;
      long = omega (arith, pre.long_x);
      long_along = omega (arith, pre.long_along);
      narrow = omega arith;
      room = λ j k hj hk. omega (arith, pre.room turn.side k j (omega arith) (omega arith) (omega arith), turn.invariant.1);
      readable = λ j k hj hk. pre.readable turn.side k j (omega arith) (omega arith) (omega arith);
    }

pub overflow_step-side : goal.overflow_step-side
overflow_step-side c = omega arith

pub loop-side-smaller : goal.loop-side-smaller
loop-side-smaller c = omega arith

pub loop-side-preserved : goal.loop-side-preserved
loop-side-preserved c =
    let turn = c.loop-side in
    let args = c.args in (
      omega arith,
      c.put_line.auto.samples ∙ turn.invariant.1,
      faces_more args.n args.bytes.now args.xs.now args.across.now args.along.now args.square args.samples.now turn.side
          turn.samples c.put_line.new.samples c.put_line.ensures turn.invariant.2,
    )

pub shape_of-samples : goal.shape_of-samples
shape_of-samples c = c.loop-side.invariant.1

pub returns : goal.returns
returns c =
    let turn = c.loop-side in
    let all : turn.side ≡ 2 = omega arith in
    rw all at turn.invariant.2
