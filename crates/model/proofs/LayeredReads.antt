-- Document 02, [12]: what the reads of a mesh come to where layers are passed over: those of its steps, so none for a layer that takes no step.
use Rattle.std.specs.Prelude.{ℕ, zero, ◌+◌, ◌*◌, Bool, List, Float}
use Rattle.std.proofs.Math.Nat.{add-zero, zero-add}
use Rattle.std.proofs.Math.Bool.{true, false, cond}
use Rattle.laws.specs.Steps.{iterate, total}
use Rattle.model.specs.Limits.{side_count}
use Rattle.model.specs.Star.{Star, subdivisions}
use Rattle.model.specs.Mesh.{Mesh, regular_reads, empty_mesh, regular_layer, transition_side}
use Rattle.model.specs.Adding.{steps_add}
use Rattle.model.specs.Layers.{passed_over}
use Rattle.model.specs.Layered.{layer_step, layered_mesh}
use Rattle.model.specs.Reads.{Reads, reads_none, side_reads}
use Rattle.model.specs.LayeredReads.{layer_reads}
use Rattle.model.proofs.MeshReads.{layer_reads_lem, side_reads_lem}

module _ (s : Star) (summary : List Float) where
  abbrev n : ℕ
  n = subdivisions s

  step_reads : (x cases : ℕ) (m : Mesh) → Reads cases m → Reads (cases + layer_reads s summary x) (layer_step s summary x m)
  unfolding layer_step
  step_reads x cases m h = go (passed_over s.threshold summary x)
    where
      go : (b : Bool) → Reads (cases + cond b 0 (regular_reads * n * n)) (cond b m (regular_layer s x m))
      go true = rw add-zero h
      go false = layer_reads_lem s x cases m h

  pub layered_reads : Reads (total (layer_reads s summary) n + total (side_reads s) side_count) (layered_mesh s summary)
  unfolding layered_mesh
  layered_reads =
      let regular = iterate (layer_step s summary) n (empty_mesh n) in
      let none : Reads (0 + total (layer_reads s summary) n) regular = steps_add Reads (layer_step s summary) (layer_reads s summary) step_reads n 0 (empty_mesh n) (reads_none n) in
      steps_add Reads (transition_side s) (side_reads s) (side_reads_lem s) side_count (total (layer_reads s summary) n) regular (rw zero-add at none)
