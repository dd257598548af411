-- What is said of the indices of a block's mesh: each is at most that of the last of the vertices made so far, or it is 0, which the store begins
-- with. Definitions only.
use Rattle.std.specs.Prelude.{◌≡◌, List, get_or, ℕ, ◌+◌, ◌-◌, ◌≤◌, ◌<◌, length}
use Rattle.std.proofs.Math.Bool.{true}
use Rattle.model.specs.declared.Triangle.{Triangle}
use Rattle.model.specs.Limits.{side_count}
use Rattle.model.specs.Sides.{named}
use Rattle.model.specs.Star.{Star, subdivisions}
use Rattle.model.specs.Mesh.{CodeUse, Fill, Mesh}
use Rattle.closed.specs.Clauses.{no_triangle}

-- what holds at each place of a list, and of what stands for a place past its end
abbrev pub Every : {A : Type 0} → (A → Type 0) → A → List A → Type 0
Every P none l = (k : ℕ) → P (get_or l k none)

-- an index is at most that of the last of so many vertices, or 0 where there is none
abbrev pub Low : ℕ → ℕ → Type 0
Low made i = i ≤ made - 1

abbrev pub AllLow : ℕ → List ℕ → Type 0
AllLow made = Every (Low made) 0

-- a code that stores its vertex makes it
abbrev pub Storing : CodeUse → Type 0
Storing t = t.stores ≡ true → t.makes ≡ true

-- after so many codes of a cell, where base vertices were made before it
pub record LowFill (base : ℕ) (f : Fill) : Type 0 where
  pub index : AllLow (base + length f.made) f.index
  pub store : AllLow (base + length f.made) f.store

pub record LowCorners (made : ℕ) (t : Triangle) : Type 0 where
  pub a : Low made t.a
  pub b : Low made t.b
  pub c : Low made t.c

pub record LowMesh (m : Mesh) : Type 0 where
  pub triangles : Every (LowCorners (length m.made)) no_triangle m.triangles
  pub store : AllLow (length m.made) m.store

-- a cell of a named side
pub record IsSideCell (s : Star) (side u v : ℕ) : Type 0 where
  pub side_in : side < side_count
  pub side_named : named s.mask side ≡ true
  pub u_in : u < subdivisions s
  pub v_in : v < subdivisions s
