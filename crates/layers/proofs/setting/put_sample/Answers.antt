-- `layers::setting::put_sample` meets its contract: the value is set at the point's place.
use Prim.Native.Nat.{ℕ}
use mathlib.Core.Path.{ap}
use lib.ListN.{set}
use Rattle.layers.proofs.setting.put_sample.Goals as goal

pub returns : goal.returns
returns c =
    let a = c.args in
    ap (λ (k : ℕ). set a.samples.now k a.value) c.place.ensures.0
