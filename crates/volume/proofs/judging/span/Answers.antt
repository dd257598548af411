-- `span` meets its contract: the greatest coordinate is not below the least.
use Prim.Native.Nat.{◌+◌, ◌-◌}
use native.Mathlib.Nat.{add-zero}
use native.Mathlib.Omega.{arith}
use mathlib.Core.Path.{◌≡◌, sym, ap, ◌∙◌}
use Rattle.volume.specs.Definition.{nearest}
use Rattle.volume.specs.Known.{near_up}
use Rattle.volume.proofs.judging.span.Goals as goal

pub overflow_sub-result : goal.overflow_sub-result
overflow_sub-result c =
    let args = c.args in
    omega (
      arith,
      near_up args.size args.first (args.first + (args.n + 2)) (omega arith),
      c.nearest.ensures.0,
      c.nearest-2.ensures.0,
    )

pub returns : goal.returns
returns c =
    let args = c.args in
    let low : c.nearest-2.result ≡ nearest args.size (args.first + 0) = c.nearest-2.ensures.0 ∙ ap (nearest args.size) (sym (add-zero args.first)) in
    λ i. c.nearest.ensures.0 i - low i + 1
