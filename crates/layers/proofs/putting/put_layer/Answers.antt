-- `layers::putting::put_layer` meets its contract: the two numbers are stored one after the other.
use Prim.Native.Nat.{◌*◌}
use native.Mathlib.Numerals.{add-one}
use native.Mathlib.Omega.{arith}
use mathlib.Core.Path.{ap}
use mathlib.Core.List.{[], ◌∷◌}
use lib.ListN.{length-set}
use lib.Seq.{sets}
use Rattle.model.specs.declared.Extent.{Extent}
use Rattle.layers.proofs.putting.put_layer.Goals as goal

pub bounds-summary-at-2 : goal.bounds-summary-at-2
bounds-summary-at-2 c = simp length-set (omega arith)

pub returns : goal.returns
returns c =
    let a = c.args in
    rw add-one (ap (λ (e : Extent). sets a.summary.now (2 * a.x) (e.least ∷ e.greatest ∷ [])) c.layer_extent-extent.ensures)
