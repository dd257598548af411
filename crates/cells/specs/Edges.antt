-- The further list of grid edges: what one code and what a cell's codes leave in it, whatever cell it is.
use Rattle.std.specs.Prelude.{ℕ, suc, ◌+◌, ◌*◌, ◌≤◌, true, false, ◌≡◌, refl, length, set}
use Rattle.std.proofs.Math.Path.{sym}
use mathlib.Core.List.{List, [], ◌∷◌}
use Rattle.std.proofs.Common.{add-zero, length-append}
use Rattle.std.proofs.Math.Nat.{add_assoc}
use Rattle.std.proofs.Math.Numerals.{add-one}
use native.Mathlib.Omega.{arith}
use Rattle.std.proofs.lemmas.List.Edits.{sets}
use Rattle.std.proofs.Math.Seq.{set_out}
use Rattle.laws.specs.Steps.{each}
use Rattle.laws.specs.Laying.{lay, lay_none, lay_append}
use Rattle.model.specs.Mesh.{CodeUse, Made, Cell, made_by, fill_step, fill_to}
use Rattle.model.specs.Edges.{edge_number}
use Rattle.vertices.specs.Buffers.{lay_edges}

-- one code's vertex, if it makes one, after next others
pub record EdgePut (t : CodeUse) (next : ℕ) (edges : List ℕ) (next' : ℕ) (edges' : List ℕ) : Type 0 where
  pub next_is : next' ≡ next + length (made_by t)
  pub edges_are : edges' ≡ lay_edges edges next (made_by t)

-- what lies past the end is left out
sets_out : {A : Type 0} (l : List A) (i : ℕ) (more : List A) → length l ≤ i → sets l i more ≡ l
sets_out l i [] h = refl
sets_out l i (a ∷ more) h = rw (set_out l i a h) (sets_out l (suc i) more (omega arith))

pub edges_out : (edges : List ℕ) (base : ℕ) (made : List Made) → length edges ≤ base → lay_edges edges base made ≡ edges
unfolding lay
edges_out edges base made h = sets_out edges (1 * base) (each edge_number made) (omega arith)

module _ (t : CodeUse) (next : ℕ) (edges : List ℕ) where
  pub edge_set : t.makes ≡ true → EdgePut t next edges (next + 1) (set edges next t.made.edge)
  unfolding lay
  edge_set m =
      let one : made_by t ≡ t.made ∷ [] = rw m in
      let at : 1 * next ≡ next = omega arith in
      record { next_is = rw one; edges_are = rw (one, at) }

  pub edge_out : t.makes ≡ true → length edges ≤ next → EdgePut t next edges (next + 1) edges
  edge_out m h =
      let one : made_by t ≡ t.made ∷ [] = rw m in
      record { next_is = rw one; edges_are = sym (edges_out edges next (made_by t) h) }

  pub edge_none : t.makes ≡ false → EdgePut t next edges next edges
  edge_none m =
      let none : made_by t ≡ [] = rw m in
      record { next_is = rw (none, add-zero); edges_are = rw none (sym (lay_none 1 edge_number edges next)) }

-- the first k codes' vertices of a cell, after base others
pub record EdgesTo (c : Cell) (base : ℕ) (store : List ℕ) (k : ℕ) (edges₀ : List ℕ) (next : ℕ) (edges : List ℕ) : Type 0 where
  pub next_is : next ≡ base + length (fill_to c base store k).made
  pub edges_are : edges ≡ lay_edges edges₀ base (fill_to c base store k).made

module _ (c : Cell) (base : ℕ) (store edges₀ : List ℕ) where
  pub edges_none : EdgesTo c base store 0 edges₀ base edges₀
  unfolding fill_to
  edges_none = record { next_is = sym (add-zero base); edges_are = sym (lay_none 1 edge_number edges₀ base) }

  pub edges_more : (k next : ℕ) (edges : List ℕ) (next' : ℕ) (edges' : List ℕ) → EdgesTo c base store k edges₀ next edges
      → EdgePut (c.uses k) next edges next' edges' → EdgesTo c base store (k + 1) edges₀ next' edges'
  unfolding fill_to fill_step
  edges_more k next edges next' edges' f p =
      let before = (fill_to c base store k).made in
      let added = made_by (c.uses k) in
      let there = f.next_is in
      let laid = f.edges_are in
      let then = p.next_is in
      let more = p.edges_are in
      rw add-one
      (record {
        next_is = cc (length-append before added, add_assoc base (length before) (length added));
        edges_are = cc (lay_append 1 edge_number (λ m. refl) edges₀ base before added);
      })
