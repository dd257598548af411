-- A labelled mesh is the definition's mesh but for the labels: a step adds the same vertices, bit for bit, and the same triangles, and leaves the same
-- store.
use Rattle.std.specs.Prelude.{◌≡◌, refl, Bool, true, false, cond, List, [], ◌∷◌, ◌++◌, map, ℕ, zero, suc, ◌+◌, length, get_or, set}
use Rattle.std.proofs.Common.{sym, ap, ap₂, ◌∙◌}
use Rattle.laws.specs.Steps.{listed}
use Rattle.model.specs.declared.Vertex.{Vertex}
use Rattle.model.specs.Mesh.{Made, CodeUse, Cell, Fill, Mesh, made_by, fill_step, fill_to, filled, triangle_of, cell_step}
use Rattle.closed.specs.Clauses.{no_vertex, vertex_at}
use Rattle.finer.specs.Labels.{labelled_use, labelled, SameBut}

abbrev vertex_of : Made → Vertex
vertex_of m = m.vertex

map-append : (xs ys : List Made) → map vertex_of (xs ++ ys) ≡ map vertex_of xs ++ map vertex_of ys
map-append [] ys = refl
map-append (x ∷ xs) ys = ap (λ (l : List Vertex). vertex_of x ∷ l) (map-append xs ys)

length_of : (xs : List Made) → length (map vertex_of xs) ≡ length xs
length_of [] = refl
length_of (x ∷ xs) = ap suc (length_of xs)

same_length : (xs ys : List Made) → map vertex_of xs ≡ map vertex_of ys → length xs ≡ length ys
same_length xs ys e = sym (length_of xs) ∙ ap (λ (l : List Vertex). length l) e ∙ length_of ys

map_at : (xs : List Made) (i : ℕ) → get_or (map vertex_of xs) i no_vertex.vertex ≡ vertex_at xs i
map_at [] i = refl
map_at (x ∷ xs) zero = refl
map_at (x ∷ xs) (suc i) = map_at xs i

pub same_vertex : {m l : Mesh} → SameBut m l → (i : ℕ) → vertex_at m.made i ≡ vertex_at l.made i
same_vertex {m} {l} r i = sym (map_at m.made i) ∙ ap (λ (v : List Vertex). get_or v i no_vertex.vertex) r.vertices ∙ map_at l.made i

pub as_many : {m l : Mesh} → SameBut m l → (length m.made ≡ length l.made) × (length m.triangles ≡ length l.triangles)
as_many {m} {l} r = (same_length m.made l.made r.vertices, ap length r.triangles)

record SameFill (f l : Fill) : Type 0 where
  made : map vertex_of f.made ≡ map vertex_of l.made
  index : f.index ≡ l.index
  store : f.store ≡ l.store

made_same : (t : CodeUse) (g : ℕ) → map vertex_of (made_by t) ≡ map vertex_of (made_by (labelled_use g t))
made_same t g = go t.makes
  where
    go : (b : Bool) → map vertex_of (cond b (t.made ∷ []) []) ≡ map vertex_of (cond b ((labelled_use g t).made ∷ []) [])
    go true = refl
    go false = refl

fill_same : (c : Cell) (label : ℕ → ℕ) (base : ℕ) (store : List ℕ) (k : ℕ) → SameFill (fill_to c base store k) (fill_to (labelled label c) base store k)
unfolding fill_to fill_step
fill_same c label base store zero = record { made = refl; index = refl; store = refl }
fill_same c label base store (suc k) =
    let r = fill_same c label base store k in
    let t = c.uses k in
    let f = fill_to c base store k in
    let l = fill_to (labelled label c) base store k in
    let next : base + length f.made ≡ base + length l.made = ap (λ (i : ℕ). base + i) (same_length f.made l.made r.made) in
    record {
      made = map-append f.made (made_by t) ∙ ap₂ ◌++◌ r.made (made_same t (label k)) ∙ sym (map-append l.made (made_by (labelled_use (label k) t)));
      index = ap₂ (λ (i : List ℕ) (j : ℕ). i ++ (j ∷ [])) r.index
          (ap₂ (λ (n : ℕ) (st : List ℕ). cond t.makes n (get_or st t.place 0)) next r.store);
      store = ap₂ (λ (n : ℕ) (st : List ℕ). cond t.stores (set st t.place n) st) next r.store;
    }

pub step_same : (c : Cell) (label : ℕ → ℕ) (m l : Mesh) → SameBut m l → SameBut (cell_step c m) (cell_step (labelled label c) l)
unfolding cell_step triangle_of
step_same c label m l r =
    let n = same_length m.made l.made r.vertices in
    let base = ap₂ (λ (b : ℕ) (st : List ℕ). fill_to c b st c.vertices) n r.store in
    let q = fill_same c label (length l.made) l.store c.vertices in
    record {
      vertices =
          map-append m.made (filled c m).made
          ∙ ap₂ ◌++◌ r.vertices (ap (λ (x : Fill). map vertex_of x.made) base ∙ q.made)
          ∙ sym (map-append l.made (filled (labelled label c) l).made);
      triangles =
          ap₂ ◌++◌ r.triangles
          (ap (λ (i : List ℕ). listed (triangle_of c i) c.triangles) (ap (λ (x : Fill). x.index) base ∙ q.index));
      store = ap (λ (x : Fill). x.store) base ∙ q.store;
    }

pub same_mesh : (m : Mesh) → SameBut m m
same_mesh m = record { vertices = refl; triangles = refl; store = refl }
