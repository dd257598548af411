-- `slot_up` meets its contract, case by case.
use Prim.Native.Nat.{suc, ◌+◌, ◌-◌}
use native.Mathlib.Omega.{arith}
use mathlib.Core.Path.{sym}
use Rattle.volume.specs.Slots.{slot_block, slot_out}
use Rattle.volume.proofs.filling.slot_up.Goals as goal

pub returns-then-slot-n : goal.returns-then-slot-n
returns-then-slot-n c = (sym (slot_block c.args.n c.args.slot c.if-slot-n.true), omega arith)

pub returns-then-slot-n-2 : goal.returns-then-slot-n-2
returns-then-slot-n-2 c =
    let args = c.args in
    (sym (slot_out args.n args.slot 0 (omega arith)), omega arith)

pub returns : goal.returns
returns c =
    let args = c.args in
    (sym (slot_out args.n args.slot (suc (args.slot - (args.n + 2))) (omega arith)), omega arith)
