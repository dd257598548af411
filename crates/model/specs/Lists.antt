-- The four lists that a mesh is written into: that they are the same ones still. Definition only.
use Rattle.std.specs.Prelude.{◌≡◌}
use Rattle.model.specs.declared.Buffers.{Buffers}

abbrev pub SameLists : Buffers → Buffers → Type 0
SameLists old new =
    (new.store.ghost_name ≡ old.store.ghost_name) × (new.vertices.ghost_name ≡ old.vertices.ghost_name)
    × (new.triangles.ghost_name ≡ old.triangles.ghost_name) × (new.edges.ghost_name ≡ old.edges.ghost_name)
