-- `pass::pass_in` meets its contract: what it keeps in mind fits in memory. Assumes nothing.
use native.Mathlib.Omega.{arith}
use Rattle.weld.proofs.pass.pass_in.Goals as goal

pub new-requires : goal.new-requires
new-requires g c = omega arith

pub windows-requires : goal.windows-requires
windows-requires g c = (omega arith, (c.requires.fits, c.requires.some))
