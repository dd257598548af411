-- `layers::setting::point_up` meets its contract. A signed argument reaches the callee as its bits, and `to_z-of_z` reads the number back.
use mir.Syntax.{w32}
use mir.Facts.{to_z-of_z}
use Rattle.layers.proofs.setting.point_up.Goals as goal

pub returns : goal.returns
returns c =
    let x = rw (to_z-of_z {w = w32} c.ranges.x) at c.one_up.ensures in
    let y = rw (to_z-of_z {w = w32} c.ranges.y) at c.one_up-2.ensures in
    let z = rw (to_z-of_z {w = w32} c.ranges.z) at c.one_up-3.ensures in
    λ i. record { x = x i; y = y i; z = z i }
