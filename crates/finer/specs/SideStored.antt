-- The store's invariant over the cells of a side: for every finished cell and every index that has a new code whose edge is crossed, the stored index
-- names a vertex with that code's label. So an index that is taken from the store names the label of its code.
use Rattle.std.specs.Prelude.{◌≡◌, true, List, ℕ, ◌+◌, ◌-◌, ◌*◌, ◌<◌, get_or}
use Rattle.std.proofs.Math.Path.{refl, sym}
use Rattle.tables.specs.Codes.{step_x, step_y, is_new, reuse_index}
use Rattle.tables.specs.RulesBorder.{transition_new_code}
use Rattle.model.specs.Star.{Star, subdivisions}
use Rattle.model.specs.Mesh.{Made, store_length, transition_place, transition_use}
use Rattle.closed.specs.Clauses.{Names}
use Rattle.closed.specs.CellStep.{Pays, names_as}
use Rattle.closed.specs.SideCells.{code_at, CrossedAt}
use Rattle.closed.specs.Indices.{IsSideCell}
use Rattle.finer.specs.Labels.{label_of}

-- ---- the store's places

module _ (s : Star) (side : ℕ) where
  abbrev pub place : ℕ → ℕ → ℕ → ℕ
  place = transition_place (subdivisions s) side

  -- the order of the cells
  abbrev pub rank_of : ℕ → ℕ → ℕ
  rank_of u v = u * subdivisions s + v

  -- ---- the invariant

  -- the store names, at the cell (u, v) and the index r, a vertex with the label of that index
  abbrev pub HoldsFine : List Made → List ℕ → ℕ → ℕ → ℕ → Type 0
  HoldsFine made store u v r = Names made (get_or store (place u v r) 0) (label_of s side u v (transition_new_code r))

  -- of each cell before the rank `here`
  abbrev pub StoredFine : ℕ → List Made → List ℕ → Type 0
  StoredFine here made store =
      (u v r : ℕ) → IsSideCell s side u v → r < 10 → is_new (transition_new_code r) ≡ 1 → rank_of u v < here
      → CrossedAt s side u v (transition_new_code r) → HoldsFine made store u v r

  -- the same by place: what is owed at the place p is a vertex with the label g
  pub record Owed (here p g : ℕ) : Type 0 where
    pub u : ℕ
    pub v : ℕ
    pub r : ℕ
    pub cell : IsSideCell s side u v
    pub small : r < 10
    pub new : is_new (transition_new_code r) ≡ 1
    pub before : rank_of u v < here
    pub crossed : CrossedAt s side u v (transition_new_code r)
    pub place_is : p ≡ place u v r
    pub label_is : g ≡ label_of s side u v (transition_new_code r)

  pub pays : (here : ℕ) (made : List Made) (store : List ℕ) → StoredFine here made store → Pays (Owed here) made store
  pays here made store stored p g o =
      rw o.place_is
      (names_as (sym o.label_is) (stored o.u o.v o.r o.cell o.small o.new o.before o.crossed))

module _ (s : Star) (side u v : ℕ) (cell : IsSideCell s side u v) where
  -- what the cells before are owed, and the places of the store
  abbrev pub owed : ℕ → ℕ → Type 0
  owed = Owed s side (rank_of s side u v)

  abbrev pub size : ℕ
  size = store_length (subdivisions s)

  -- where a code's index stands: at this cell, and at the cell that it steps to
  abbrev pub here : ℕ → ℕ
  here code = place s side u v (reuse_index code)

  abbrev pub back : ℕ → ℕ
  back code = place s side (u - step_x code) (v - step_y code) (reuse_index code)

  -- ---- the codes of the cell

  -- a new code's vertex is stored at its index
  pub stored_at : (code : ℕ) → is_new code ≡ 1 → ((transition_use s side u v code).stores ≡ true) × ((transition_use s side u v code).place ≡ here code)
  unfolding transition_use
  stored_at code e = (rw e refl, rw e refl)

  -- the label of code j
  abbrev pub label : ℕ → ℕ
  label j = label_of s side u v (code_at s side u v j)
