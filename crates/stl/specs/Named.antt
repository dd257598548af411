-- Document 02, [1]: what passes 17 names a vertex with each corner, said of each triangle's three places, as the writer asks for it.
use Rattle.std.specs.Prelude.{ℕ, zero, suc, ◌+◌, ◌*◌, ◌<◌, ◌≡◌, List, Float, get_or, Ok}
use Rattle.std.proofs.Common.{add-zero, arith}
use Rattle.model.specs.Corners.{triangle_count, corner_of, judge_named}
use Rattle.naming.specs.Corners.{corner_named, by_place, places_named}
use Rattle.stl.specs.Definition.{vertex_count}

-- each corner of a triangle names a vertex
pub record Names (vertices : List Float) (triangles : List ℕ) (t : ℕ) : Type 0 where
  pub one : get_or triangles (3 * t) 0 < vertex_count vertices
  pub two : get_or triangles (3 * t + 1) 0 < vertex_count vertices
  pub three : get_or triangles (3 * t + 2) 0 < vertex_count vertices

abbrev pub AllName : List Float → List ℕ → Type 0
AllName vertices triangles = (t : ℕ) → t < triangle_count triangles → Names vertices triangles t

module _ (vertices : List Float) (triangles : List ℕ) where
  abbrev held : ℕ
  held = vertex_count vertices

  pub names : judge_named held triangles ≡ Ok tt → AllName vertices triangles
  names e t h =
      record {
        one = rw add-zero at (corner_named held triangles e t 0 h (omega arith));
        two = corner_named held triangles e t 1 h (omega arith);
        three = corner_named held triangles e t 2 h (omega arith);
      }

  pub all_name_passes : AllName vertices triangles → judge_named held triangles ≡ Ok tt
  all_name_passes name = places_named held triangles (by_place held triangles corner)
    where
      corner : (t corner : ℕ) → t < triangle_count triangles → corner < 3 → corner_of triangles t corner < held
      corner t zero l small = rw add-zero (name t l).one
      corner t (suc zero) l small = (name t l).two
      corner t (suc (suc zero)) l small = (name t l).three
      corner t (suc (suc (suc c))) l small = absurd (omega arith)
