-- The index store's invariant, over a code and over the codes of a cell: for every finished cell and every index whose edge is crossed, the
-- stored index names a vertex on that edge. So an index that is taken from the store names the edge that its code stands for.
use Rattle.std.specs.Prelude.{◌≡◌, true, List, ℕ, ◌-◌, ◌≤◌, ◌<◌, get_or}
use Rattle.std.proofs.Math.Path.{refl, sym}
use Rattle.std.proofs.Common.{arith}
use Rattle.tables.specs.Codes.{step_x, step_y, step_z, is_new, reuse_index}
use Rattle.model.specs.Star.{Star, subdivisions}
use Rattle.model.specs.Mesh.{Made, store_length, regular_use}
use Rattle.closed.specs.Clauses.{Edge, number, OfBlock, Crossed, Names, IsCell, vertex_on}
use Rattle.closed.specs.Places.{rank, place}
use Rattle.closed.specs.Cells.{code_edge, code_at, slot_edge}
use Rattle.closed.specs.CellStep.{Pays, names_as}

-- ---- the invariants

module _ (s : Star) where
  -- the store names, at the cell (x, y, z) and the index r, a vertex on the edge of that index
  abbrev pub Holds : List Made → List ℕ → ℕ → ℕ → ℕ → ℕ → Type 0
  Holds made store x y z r = Names made (get_or store (place s x y z r) 0) (number s (slot_edge x y z r))

  -- of each cell before the rank `here`
  abbrev pub Stored : ℕ → List Made → List ℕ → Type 0
  Stored here made store =
      (x y z r : ℕ) → IsCell s x y z → 1 ≤ r → r < 4 → rank s x y z < here → Crossed s (slot_edge x y z r) → Holds made store x y z r

-- the same by place: what is owed at the place p is a vertex on the grid edge g
pub record Owed (s : Star) (here p g : ℕ) : Type 0 where
  pub x : ℕ
  pub y : ℕ
  pub z : ℕ
  pub r : ℕ
  pub cell : IsCell s x y z
  pub some : 1 ≤ r
  pub small : r < 4
  pub before : rank s x y z < here
  pub crossed : Crossed s (slot_edge x y z r)
  pub place_is : p ≡ place s x y z r
  pub label_is : g ≡ number s (slot_edge x y z r)

pub pays : (s : Star) (here : ℕ) (made : List Made) (store : List ℕ) → Stored s here made store → Pays (Owed s here) made store
pays s here made store stored p g o =
    rw o.place_is
    (names_as (sym o.label_is) (stored o.x o.y o.z o.r o.cell o.some o.small o.before o.crossed))

-- a vertex lies on a crossed grid edge of the block
pub record LiesOn (s : Star) (m : Made) : Type 0 where
  pub on : Edge
  pub of_block : OfBlock s on
  pub crossed : Crossed s on
  pub edge_is : m.edge ≡ number s on
  pub vertex_is : m.vertex ≡ vertex_on s on

-- ---- a code

pub back_in : (x a n : ℕ) → x < n → (x - a < n) × (x - a ≤ x) × (0 < n)
back_in x a n h = (omega arith, omega arith, omega arith)

module _ (s : Star) (x y z : ℕ) (c : IsCell s x y z) where
  -- what the cells before are owed, and the places of the store
  abbrev pub owed : ℕ → ℕ → Type 0
  owed = Owed s (rank s x y z)

  abbrev pub size : ℕ
  size = store_length (subdivisions s)

  -- where a code's index stands: at this cell, and at the cell that it steps to
  abbrev pub here : ℕ → ℕ
  here code = place s x y z (reuse_index code)

  abbrev pub back : ℕ → ℕ
  back code = place s (x - step_x code) (y - step_y code) (z - step_z code) (reuse_index code)

  -- ---- the codes of the cell

  -- a new code's vertex is stored at its index
  pub stored_at : (code : ℕ) → is_new code ≡ 1 → ((regular_use s x y z code).stores ≡ true) × ((regular_use s x y z code).place ≡ here code)
  unfolding regular_use
  stored_at code e = (rw e refl, rw e refl)

  -- the grid edge of code j
  abbrev pub label : ℕ → ℕ
  label j = number s (code_edge x y z (code_at s x y z j))
