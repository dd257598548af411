-- Document 02, [7]: what the reads of a mesh come to. Each cell's case number adds the samples that it reads, and each vertex that was made fourteen.
use Rattle.std.specs.Prelude.{ℕ, ◌+◌, ◌*◌, ◌≡◌, refl, cond, length}
use Rattle.std.proofs.Common.{arith, length-append}
use Rattle.model.specs.Sides.{named}
use Rattle.model.specs.Star.{Star, subdivisions}
use Rattle.model.specs.Mesh.{Cell, Mesh, vertex_reads, transition_reads, empty_mesh, cell_step}

-- so many reads for case numbers, and those of the vertices that were made
abbrev pub Reads : ℕ → Mesh → Type 0
Reads cases m = m.reads ≡ cases + vertex_reads * length m.made

pub reads_none : (n : ℕ) → Reads 0 (empty_mesh n)
unfolding empty_mesh
reads_none n = refl

pub cell_reads : (c : Cell) (cases : ℕ) (m : Mesh) → Reads cases m → Reads (cases + c.samples) (cell_step c m)
unfolding cell_step
cell_reads c cases m h = rw length-append (omega (arith, h))

module _ (s : Star) where
  abbrev n : ℕ
  n = subdivisions s

  -- the transition cells of a side, if it is named
  abbrev pub side_reads : ℕ → ℕ
  side_reads side = cond (named s.mask side) (transition_reads * n * n) 0
