-- What a code comes to, put together from what the functions over it ensure.
use Rattle.std.specs.Prelude.{ℕ, ◌+◌, ◌<◌, ◌≡◌, refl, Bool, true, false, cond, List, [], ◌∷◌, eqb, Float, length, get_or, set}
use Rattle.std.proofs.Common.{sym, ap, ◌∙◌, add-zero, arith}
use Rattle.tables.specs.Codes.{is_new, reuse_index}
use Rattle.model.specs.declared.Xyz.{Xyz}
use Rattle.model.specs.declared.FacePoint.{FacePoint}
use Rattle.model.specs.declared.Vertex.{Vertex}
use Rattle.model.specs.Star.{Star, subdivisions}
use Rattle.model.specs.Mesh.{CodeUse, made_by, regular_use, transition_use, vertex_reads}
use Rattle.model.specs.Extraction.{vertex_floats}
use Rattle.codes.specs.declared.CellIndex.{CellIndex}
use Rattle.codes.specs.declared.CellIndex.TheVariants.{Regular, Transition}
use Rattle.vertices.specs.Buffers.{lay_vertices}
use Rattle.laws.specs.Counting.{one}
use Rattle.laws.specs.Laying.{lay_none}
use Rattle.laws.specs.Tests.{neither}
use Rattle.codes.specs.Kinds.{use_at, makes_at, back_from, place_at, InBlock, OnSide, Placed, slots, Usable}
use Rattle.vertices.specs.Puts.{CodePut}
use Rattle.vertices.specs.Fills.{made_one}

-- ---- any use of a code

module _ (t : CodeUse) (next : ℕ) (vertices : List Float) (store : List ℕ) where
  use_made : t.makes ≡ true → (vertices' : List Float) (store' : List ℕ)
      → vertices' ≡ lay_vertices vertices next (t.made ∷ []) → store' ≡ cond t.stores (set store t.place next) store
      → CodePut t next vertices store next (next + 1) vertex_reads vertices' store'
  use_made m vertices' store' v e =
      let one : made_by t ≡ t.made ∷ [] = rw m in
      record { index_is = rw m; next_is = rw one; reads_are = rw one; vertices_are = rw one v; store_is = e }

  use_taken : t.makes ≡ false → t.stores ≡ false → CodePut t next vertices store (get_or store t.place 0) next 0 vertices store
  use_taken m k =
      let none : made_by t ≡ [] = rw m in
      record {
        index_is = rw m;
        next_is = rw (none, add-zero);
        reads_are = rw none;
        vertices_are = rw none (sym (lay_none 6 vertex_floats vertices next));
        store_is = rw k;
      }

-- ---- what a code comes to

pub use_makes : (s : Star) (at : CellIndex) (code : ℕ) → (use_at s at code).makes ≡ makes_at at code
unfolding regular_use transition_use
use_makes s (Regular at) code = refl
use_makes s (Transition at) code = refl

use_stores : (s : Star) (at : CellIndex) (code : ℕ) → (use_at s at code).stores ≡ eqb (is_new code) 1
unfolding regular_use transition_use
use_stores s (Regular at) code = refl
use_stores s (Transition at) code = refl

use_place : (s : Star) (at : CellIndex) (code : ℕ) → (use_at s at code).place
    ≡ cond (eqb (is_new code) 1) (place_at (subdivisions s) at (reuse_index code)) (place_at (subdivisions s) (back_from at code) (reuse_index code))
unfolding regular_use transition_use
use_place s (Regular at) code = refl
use_place s (Transition at) code = refl

kept_old : (at : CellIndex) (code : ℕ) → makes_at at code ≡ false → eqb (is_new code) 1 ≡ false
kept_old (Regular at) code e = (neither _ _ e).0
kept_old (Transition at) code e = (neither (eqb (is_new code) 1) _ e).0

-- what is known of a cell, once its kind is
pub regular_in : {n : ℕ} {at : CellIndex} {cell : Xyz} → at ≡ Regular cell → Placed n at → InBlock n cell.x cell.y cell.z
regular_in e p = rw e at p

pub transition_in : {n : ℕ} {at : CellIndex} {cell : FacePoint} → at ≡ Transition cell → Placed n at → OnSide n cell.side cell.u cell.v
transition_in e p = rw e at p

-- the reuse index that was read of a usable code is one of the cell's
pub index_within : (at : CellIndex) (code r : ℕ) → Usable at code → r ≡ reuse_index code → r < slots at
index_within at code r usable e = rw e usable.index_in

-- the cell that a code steps back to lies where the cell does, and can store as many indices
module _ (code : ℕ) where
  pub back_placed : (n : ℕ) (at from : CellIndex) → from ≡ back_from at code → Placed n at → Placed n from
  back_placed n at from e p = rw e (go at p)
    where
      go : (at : CellIndex) → Placed n at → Placed n (back_from at code)
      go (Regular at) p = record { x_in = omega arith; y_in = omega arith; z_in = omega arith }
      go (Transition at) p = record { side_in = p.side_in; u_in = omega arith; v_in = omega arith }

  pub back_within : (r : ℕ) (at from : CellIndex) → from ≡ back_from at code → r < slots at → r < slots from
  back_within r at from e h = rw e (go at h)
    where
      go : (at : CellIndex) → r < slots at → r < slots (back_from at code)
      go (Regular at) h = h
      go (Transition at) h = h

pub use_count : (s : Star) (at : CellIndex) (code : ℕ) → length (made_by (use_at s at code)) ≡ cond (makes_at at code) 1 0
use_count s at code = made_one (use_at s at code) ∙ ap one (use_makes s at code)

pub one_made : (s : Star) (at : CellIndex) (code : ℕ) (makes : Bool) → makes ≡ makes_at at code → makes ≡ true
    → length (made_by (use_at s at code)) ≡ 1
one_made s at code makes makes-is m = made_one (use_at s at code) ∙ ap one (use_makes s at code ∙ sym makes-is ∙ m)

module _ (s : Star) (at : CellIndex) (code next r : ℕ) (vertices : List Float) (store : List ℕ)
    (makes : Bool) (makes-is : makes ≡ makes_at at code) (r-is : r ≡ reuse_index code) where
  module _ (vertices' : List Float) (v : Vertex) (new : Bool) (v_is : v ≡ (use_at s at code).made.vertex)
      (put : (edge : ℕ) → vertices' ≡ lay_vertices vertices next (record { vertex = v; edge = edge } ∷ []))
      (new_is : new ≡ eqb (is_new code) 1) (m : makes ≡ true) where
    pub code_stored : (p : ℕ) → p ≡ place_at (subdivisions s) at r → new ≡ true
        → CodePut (use_at s at code) next vertices store next (next + 1) vertex_reads vertices' (set store p next)
    code_stored p p-is e =
        let t = use_at s at code in
        let stores : t.stores ≡ true = use_stores s at code ∙ sym new_is ∙ e in
        let fresh : eqb (is_new code) 1 ≡ true = sym new_is ∙ e in
        let place : t.place ≡ place_at (subdivisions s) at (reuse_index code) = rw fresh at (use_place s at code) in
        use_made t next vertices store (use_makes s at code ∙ sym makes-is ∙ m) vertices' (set store p next)
        (rw v_is at (put t.made.edge)) (rw stores (cc))

    pub code_loose : new ≡ false → CodePut (use_at s at code) next vertices store next (next + 1) vertex_reads vertices' store
    code_loose e =
        let t = use_at s at code in
        let stores : t.stores ≡ false = use_stores s at code ∙ sym new_is ∙ e in
        use_made t next vertices store (use_makes s at code ∙ sym makes-is ∙ m) vertices' store
        (rw v_is at (put t.made.edge)) (rw stores)

  pub code_taken : (p : ℕ) (from : CellIndex) → from ≡ back_from at code → p ≡ place_at (subdivisions s) from r → makes ≡ false
      → CodePut (use_at s at code) next vertices store (get_or store p 0) next 0 vertices store
  code_taken p from from_is p-is m =
      let t = use_at s at code in
      let kept : makes_at at code ≡ false = sym makes-is ∙ m in
      let old = kept_old at code kept in
      let place : t.place ≡ place_at (subdivisions s) (back_from at code) (reuse_index code) = rw old at (use_place s at code) in
      let e : p ≡ t.place = cc in
      rw e (use_taken t next vertices store (use_makes s at code ∙ kept) (use_stores s at code ∙ old))
