-- The mesh of a block begins with that of its regular cells: the transition cells only add, and where no side is named there are none. So what is
-- proved of the regular cells is said of the first vertices and triangles that extraction writes.
use Rattle.std.specs.Prelude.{◌≡◌, refl, Bool, true, false, cond, List, [], ◌++◌, ℕ, zero, suc, ◌+◌, length, set}
use Rattle.std.proofs.Common.{sym, ap, ◌∙◌, append_assoc, append-nil, length-set}
use Rattle.model.specs.declared.Triangle.{Triangle}
use Rattle.model.specs.Sides.{named}
use Rattle.laws.specs.Steps.{iterate}
use Rattle.laws.specs.Iterated.{iterate_keeps}
use Rattle.model.specs.Star.{Star, subdivisions}
use Rattle.model.specs.Mesh.{Made, Cell, Fill, Mesh, fill_step, fill_to, store_length, cell_step, transition_cell, transition_row, transition_side, regular_mesh, mesh_of}
use Rattle.closed.proofs.Whole.{whole}

pub record Begins (first all : Mesh) : Type 0 where
  pub made : List Made
  pub triangles : List Triangle
  pub made_are : all.made ≡ first.made ++ made
  pub triangles_are : all.triangles ≡ first.triangles ++ triangles
  pub store_long : length all.store ≡ length first.store

none_added : (m : Mesh) → Begins m m
none_added m =
    record { made = []; triangles = []; made_are = sym (append-nil _); triangles_are = sym (append-nil _); store_long = refl }

joined : {A : Type 0} {b c : List A} (a p q : List A) → b ≡ a ++ p → c ≡ b ++ q → c ≡ a ++ (p ++ q)
joined {A} a p q e f = f ∙ ap (λ (l : List A). l ++ q) e ∙ append_assoc a p q

then_added : {a b c : Mesh} → Begins a b → Begins b c → Begins a c
then_added {a} p q =
    record {
      made = p.made ++ q.made;
      triangles = p.triangles ++ q.triangles;
      made_are = joined a.made p.made q.made p.made_are q.made_are;
      triangles_are = joined a.triangles p.triangles q.triangles p.triangles_are q.triangles_are;
      store_long = q.store_long ∙ p.store_long;
    }

-- a cell's codes keep the store's length
stored_long : (b : Bool) (l : List ℕ) (i v : ℕ) → length (cond b (set l i v) l) ≡ length l
stored_long true l i v = length-set l i v
stored_long false l i v = refl

filled_long : (c : Cell) (base : ℕ) (store : List ℕ) (k : ℕ) → length (fill_to c base store k).store ≡ length store
unfolding fill_to fill_step
filled_long c base store =
    iterate_keeps (λ (f : Fill). length f.store) (λ i f. fill_step (c.uses i) (base + length f.made) f)
    (λ i f. stored_long (c.uses i).stores f.store (c.uses i).place (base + length f.made)) _

pub cell_added : (c : Cell) (m : Mesh) → Begins m (cell_step c m)
unfolding cell_step
cell_added c m =
    record { made = _; triangles = _; made_are = refl; triangles_are = refl; store_long = filled_long c (length m.made) m.store c.vertices }

all_added : (f : ℕ → Mesh → Mesh) → ((k : ℕ) (m : Mesh) → Begins m (f k m)) → (n : ℕ) (m : Mesh) → Begins m (iterate f n m)
all_added f step zero m = none_added m
all_added f step (suc n) m = then_added (all_added f step n m) (step n (iterate f n m))

pub row_added : (s : Star) (side u : ℕ) (m : Mesh) → Begins m (transition_row s side u m)
unfolding transition_row
row_added s side u m = all_added _ (λ v. cell_added (transition_cell s side u v)) (subdivisions s) m

pub side_added : (s : Star) (side : ℕ) (m : Mesh) → Begins m (transition_side s side m)
unfolding transition_side
side_added s side m = go (named s.mask side)
  where
    go : (b : Bool) → Begins m (cond b (iterate (transition_row s side) (subdivisions s) m) m)
    go true = all_added (transition_row s side) (row_added s side) (subdivisions s) m
    go false = none_added m

pub regular_first : (s : Star) → Begins (regular_mesh s) (mesh_of s)
unfolding mesh_of
regular_first s = all_added (transition_side s) (side_added s) 6 _

pub store_long : (s : Star) → length (mesh_of s).store ≡ store_length (subdivisions s)
store_long s = (regular_first s).store_long ∙ (whole s).long

pub none_named : (s : Star) → s.mask ≡ 0 → mesh_of s ≡ regular_mesh s
unfolding mesh_of transition_side named
none_named s e = rw e
