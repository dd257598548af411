-- Document 02, [12]: what the reads of a mesh come to where layers are passed over: those of its steps, so none for a layer that takes no step.
use Rattle.std.specs.Prelude.{ℕ, zero, suc, ◌+◌, ◌*◌, ◌≡◌, Bool, List, Float}
use Rattle.std.proofs.Math.Nat.{add-zero}
use Rattle.std.proofs.Common.{mul-zero, mul-suc, add-one, arith}
use Rattle.std.proofs.Math.Bool.{true, false, cond}
use Rattle.laws.specs.Steps.{total}
use Rattle.model.specs.Star.{Star, subdivisions}
use Rattle.model.specs.Mesh.{regular_reads}
use Rattle.model.specs.Layers.{passed_over}
use Rattle.model.specs.Layered.{layers_over}

module _ (s : Star) (summary : List Float) where
  abbrev n : ℕ
  n = subdivisions s

  -- a layer of regular cells, unless it is passed over
  abbrev pub layer_reads : ℕ → ℕ
  layer_reads x = cond (passed_over s.threshold summary x) 0 (regular_reads * n * n)

  -- each layer passed over spares a layer's reads
  abbrev square : ℕ
  square = regular_reads * n * n

  pub layers_spared : (k : ℕ) → total layer_reads k + square * layers_over s summary k ≡ square * k
  layers_spared zero = rw mul-zero
  layers_spared (suc k) = go (passed_over s.threshold summary k) (layers_spared k)
    where
      go : (b : Bool) → total layer_reads k + square * layers_over s summary k ≡ square * k
          → total layer_reads k + cond b 0 square + square * (layers_over s summary k + cond b 1 0) ≡ square * suc k
      go true h = rw (mul-suc, add-one, mul-suc) (omega (arith, h))
      go false h = rw (mul-suc, add-zero) (omega (arith, h))
