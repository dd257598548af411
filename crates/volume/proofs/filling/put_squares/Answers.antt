-- `put_squares` meets its contract. The invariant: the lines passed are put, of each square.
use Prim.Native.Nat.{◌+◌, ◌*◌, ◌≤◌}
use native.Mathlib.Nat.{mul-le-mul_left, mul-one}
use native.Mathlib.Omega.{arith}
use mathlib.Core.Path.{◌≡◌, refl, ◌∙◌}
use Rattle.volume.specs.Putting.{no_squares, squares_more, small}
use Rattle.volume.proofs.filling.put_squares.Goals as goal

pub overflow_add-m : goal.overflow_add-m
overflow_add-m c = omega arith

pub loop-y-init : goal.loop-y-init
loop-y-init c =
    let args = c.args in
    (omega arith, refl, no_squares args.n args.bytes.now args.axes.now.xs args.axes.now.ys args.axes.now.zs args.samples.now)

pub offset_bounds-axes-y : goal.offset_bounds-axes-y
offset_bounds-axes-y c = omega arith

pub bounds-axes-y : goal.bounds-axes-y
bounds-axes-y c = omega (arith, c.requires.1.long_y)

pub overflow_mul-first : goal.overflow_mul-first
overflow_mul-first c = omega (arith, small c.args.n c.requires.0 c.loop-y.y (omega arith))

pub overflow_mul-first-in-loop-y : goal.overflow_mul-first-in-loop-y
overflow_mul-first-in-loop-y c = omega (arith, small c.args.n c.requires.0 (c.args.n + 1) (omega arith))

pub overflow_add-first : goal.overflow_add-first
overflow_add-first c = omega arith

pub put_line-requires : goal.put_line-requires
put_line-requires c =
    let pre = c.requires.1 in
    let m = c.args.n + 1 in
    let turn = c.loop-y in
    let wide : m * 1 ≤ m * m = mul-le-mul_left m (omega arith) in
    record {
      some = omega arith;
      long = omega (arith, pre.long_x);
      long_along = omega (arith, pre.long_z);
      narrow = omega (arith, mul-one m);
      room = λ j k hj hk. omega (arith, pre.room k turn.y j (omega arith) (omega arith) (omega arith), turn.invariant.1);
      readable = λ j k hj hk. pre.readable k turn.y j (omega arith) (omega arith) (omega arith);
    }

pub overflow_step-y : goal.overflow_step-y
overflow_step-y c = omega arith

pub loop-y-smaller : goal.loop-y-smaller
loop-y-smaller c = omega arith

pub loop-y-preserved : goal.loop-y-preserved
loop-y-preserved c =
    let turn = c.loop-y in
    let args = c.args in (
      omega arith,
      c.put_line.auto.samples ∙ turn.invariant.1,
      squares_more args.n args.bytes.now args.axes.now.xs args.axes.now.ys args.axes.now.zs args.samples.now turn.y turn.samples
          c.put_line.new.samples (omega arith) c.put_line.ensures turn.invariant.2,
    )

pub shape_of-samples : goal.shape_of-samples
shape_of-samples c = c.loop-y.invariant.1

pub returns : goal.returns
returns c =
    let turn = c.loop-y in
    let all : turn.y ≡ c.args.n + 1 = omega arith in
    rw all at turn.invariant.2
