-- What the statement of a public function allows is one outcome: of two that it allows for the same inputs, the answers are equal, and so is
-- what each lent buffer holds.
use mathlib.Core.Path.{◌≡◌}
use contract.Lifetimes.{Lfts}
use Rattle.model.specs.Pinned.{pinned}
use Rattle.counting.proofs.count_mesh.Reads as count-mesh

pub count_mesh_pinned : (κs : Lfts 3) (a : _) (r r' : _) (e e' : _) → count-mesh.Learnt κs a r e → count-mesh.Learnt κs a r' e' → r ≡ r'
count_mesh_pinned κs a r r' e e' h k =
    λ i. record {
      vertices = pinned h.1.vertices_are k.1.vertices_are i;
      triangles = pinned h.1.triangles_are k.1.triangles_are i;
    }
