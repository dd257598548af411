-- `Memory::place_of` meets its contract: a number whose bit is clear stands nowhere, and any other is looked for. Assumes nothing.
use native.Mathlib.Omega.{arith}
use Rattle.weld.specs.Seen.{not_noted}
use Rattle.weld.proofs.memory.Memory.place_of.Goals as goal

pub returns-then-is_new : goal.returns-then-is_new
returns-then-is_new g c =
    let a = c.args in
    record {
      within = omega arith;
      has = λ l. absurd (omega arith);
      regular = λ l. absurd (omega arith);
      new = λ _ _. not_noted a.self.now.seen a.edges.now a.k a.number c.requires.noted (c.is_new.ensures c.if-is_new.true);
    }
