-- Document 02, [10]: the corners once some vertices are welded. Assumes nothing.
use Rattle.std.specs.Prelude.{ℕ, zero, suc, ◌+◌, ◌-◌, ◌≤◌, ◌<◌, ◌≡◌, refl, Bool, true, false, cond, List, [], ◌∷◌, map, ltb, Float, length, get_or}
use Rattle.std.proofs.Common.{zero-le, suc-le-suc, arith, sym, ap, ap₂, ◌∙◌, lt-ltb, le-ltb, ltb-true, ltb-false}
use Rattle.weld.specs.Definition.{new_index, edges_at, vertices_at}
use Rattle.weld.specs.Leaves.{Tabled, corner_by, up_to, AllWelded}
use Rattle.weld.specs.Kept.{new_first}

-- two that agree at each item, and one that leaves each item
map_agree : (f g : ℕ → ℕ) (l : List ℕ) → ((p : ℕ) → p < length l → f (get_or l p 0) ≡ g (get_or l p 0)) → map f l ≡ map g l
map_agree f g [] h = refl
map_agree f g (x ∷ l) h = ap₂ (λ (a : ℕ) (b : List ℕ). a ∷ b) (h zero (omega arith)) (map_agree f g l (λ p below. h (suc p) (suc-le-suc below)))

pub map_leaves : (f : ℕ → ℕ) (l : List ℕ) → ((p : ℕ) → p < length l → f (get_or l p 0) ≡ get_or l p 0) → map f l ≡ l
map_leaves f [] h = refl
map_leaves f (x ∷ l) h = ap₂ (λ (a : ℕ) (b : List ℕ). a ∷ b) (h zero (omega arith)) (map_leaves f l (λ p below. h (suc p) (suc-le-suc below)))

-- a corner that names a vertex of the window gets its new index, and one that was renumbered before stays: it is below the window
pub window_corner : (edges table : List ℕ) (start end c : ℕ) → start ≤ end → Tabled edges start end table
    → corner_by table start end (up_to edges start c) ≡ up_to edges end c
unfolding Tabled
window_corner edges table start end c l t = go (ltb c start) refl (ltb c end) refl
  where
    go : (b : Bool) → ltb c start ≡ b → (d : Bool) → ltb c end ≡ d → corner_by table start end (cond b (new_index edges c) c) ≡ cond d (new_index edges c) c
    go true p d q =
        let before : c < start = ltb-true _ _ p in
        let new : ltb (new_index edges c) start ≡ true = lt-ltb (new_index edges c) start (omega (arith, new_first edges c)) in
        let within : d ≡ true = sym q ∙ lt-ltb c end (omega arith) in
        rw (new, within)
    go false p true q =
        let from : start ≤ c = ltb-false _ _ p in
        let below : c < end = ltb-true _ _ q in
        let at : start + (c - start) ≡ c = omega arith in
        rw (p, q) (t (c - start) (omega arith) ∙ ap (new_index edges) at)
    go false p false q = rw (p, q)

pub welded_none : (vertices : List Float) (triangles edges : List ℕ) → AllWelded 0 vertices triangles edges 0 vertices triangles edges
unfolding edges_at vertices_at
welded_none vertices triangles edges =
    record {
      lists = record { count_is = refl; vertices_are = refl; edges_are = refl };
      triangles_are = sym (map_leaves (up_to edges 0) triangles (λ p below. rw (le-ltb (get_or triangles p 0) 0 zero-le)));
    }

-- corners that are all below m
pub all_renumbered : (edges : List ℕ) (m : ℕ) (l : List ℕ) → ((p : ℕ) → p < length l → get_or l p 0 < m) → map (up_to edges m) l ≡ map (new_index edges) l
all_renumbered edges m l h = map_agree (up_to edges m) (new_index edges) l (λ p below. rw (lt-ltb (get_or l p 0) m (h p below)))
