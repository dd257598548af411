-- `blank` meets its contract: the record is refused, or it passes and its block is blank or not.
use Rattle.std.specs.Prelude.{◌≡◌, Bool, true, false, cond, refl}
use Rattle.std.proofs.Common.{◌∙◌}
use mir.Val.{bool_byte}
use Rattle.model.specs.Viewer.{blank_answer}
use Rattle.viewer.proofs.blank.Goals as goal

as_number : (b : Bool) → bool_byte b ≡ cond b 1 0
as_number true = refl
as_number false = refl

pub returns-in-Ok : goal.returns-in-Ok
unfolding blank_answer
returns-in-Ok c = rw (← c.in-Ok.ensures, c.in-Ok.whole.passed, ← c.is_blank.ensures) (c.from.ensures ∙ as_number _)

pub returns-in-Err : goal.returns-in-Err
unfolding blank_answer
returns-in-Err c = rw c.in-Err.ensures c.packed_refusal.ensures
