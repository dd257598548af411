-- Laws of a cell's vertices, whatever cell it is: how many there are, and what the buffers hold after one more.
use Prim.Native.Nat.{ℕ, zero, suc, ◌+◌, ◌-◌, ◌≤◌, ◌<◌}
use Rattle.std.specs.Prelude.{◌≡◌, Bool, true, false, cond, List, [], ◌∷◌, ◌++◌, Float, get_or, replicate}
use Rattle.std.proofs.Math.Path.{refl, sym, ap}
use Rattle.std.proofs.Common.{◌∙◌, append_assoc, add-zero, arith, length-set}
use Rattle.std.proofs.Math.Nat.{add_assoc}
use Rattle.std.proofs.Math.Numerals.{add-one}
use Rattle.std.proofs.Math.ListN.{length, set, length-append}
use Rattle.std.proofs.lemmas.List.{set_at}
use Rattle.laws.specs.Steps.{total}
use Rattle.laws.specs.Counting.{one}
use Rattle.model.specs.Mesh.{Made, CodeUse, Cell, Fill, made_by, fill_step, fill_to}
use Rattle.model.specs.Extraction.{vertex_floats}
use Rattle.vertices.specs.Buffers.{pad}
use Rattle.laws.specs.Iterated.{iterate_upto, iterate_keeps}
use Rattle.laws.specs.Laying.{lay_none, lay_append, length_lay}
use Rattle.vertices.specs.Puts.{Room, CodePut, FillPut}

-- ---- twelve places

get_d_zeros : (k p : ℕ) → ◌≡◌ {A = ℕ} (get_or (replicate k 0) p 0) 0
get_d_zeros zero p = refl
get_d_zeros (suc k) zero = refl
get_d_zeros (suc k) (suc p) = get_d_zeros k p

get_d_more : (indices : List ℕ) (k p : ℕ) → get_or (indices ++ replicate k 0) p 0 ≡ get_or indices p 0
get_d_more [] k p = get_d_zeros k p
get_d_more (i ∷ indices) k zero = refl
get_d_more (i ∷ indices) k (suc p) = get_d_more indices k p

pub get_d_pad : (indices : List ℕ) (p : ℕ) → get_or (pad indices) p 0 ≡ get_or indices p 0
unfolding pad
get_d_pad indices p = get_d_more indices (12 - length indices) p

set_pad : (indices : List ℕ) (v : ℕ) → length indices < 12 → set (pad indices) (length indices) v ≡ pad (indices ++ (v ∷ []))
unfolding pad
set_pad indices v h =
    let left : List ℕ = replicate (12 - length (indices ++ (v ∷ []))) 0 in
    let e : 12 - length indices ≡ suc (12 - length (indices ++ (v ∷ []))) = omega (arith, length-append indices (v ∷ [])) in
    rw e (set_at indices 0 left v (length indices) refl ∙ sym (append_assoc indices (v ∷ []) left))

-- ---- a cell's vertices

length_kept : (stores : Bool) (store : List ℕ) (place next : ℕ) → length (cond stores (set store place next) store) ≡ length store
length_kept true store place next = length-set store place next
length_kept false store place next = refl

module _ (c : Cell) (base : ℕ) (store : List ℕ) where
  fill_made : (k : ℕ) → length (fill_to c base store (suc k)).made
      ≡ length (fill_to c base store k).made + length (made_by (c.uses k))
  unfolding fill_to fill_step
  fill_made k = rw length-append

  fill_grows : (k : ℕ) (f : Fill) → length f.made ≤ length (fill_step (c.uses k) (base + length f.made) f).made
  unfolding fill_step
  fill_grows k f = omega (arith, length-append f.made (made_by (c.uses k)))

  -- what vertex k makes is within what all of them make
  fill_room : (k m : ℕ) → k < m → length (fill_to c base store k).made + length (made_by (c.uses k))
      ≤ length (fill_to c base store m).made
  unfolding fill_to
  fill_room k m h =
      rw (← fill_made k)
      (iterate_upto (λ (f : Fill). length f.made) (λ i f. fill_step (c.uses i) (base + length f.made) f) fill_grows
      (record { made = []; index = []; store = store }) (suc k) m h)

  length_index : (k : ℕ) → length (fill_to c base store k).index ≡ k
  unfolding fill_to fill_step
  length_index zero = refl
  length_index (suc k) = rw (length-append, add-one) (ap suc (length_index k))

  pub length_fill_store : (k : ℕ) → length (fill_to c base store k).store ≡ length store
  unfolding fill_to fill_step
  length_fill_store =
      iterate_keeps (λ (f : Fill). length f.store) (λ i f. fill_step (c.uses i) (base + length f.made) f)
      (λ k f. length_kept (c.uses k).stores f.store (c.uses k).place (base + length f.made))
      (record { made = []; index = []; store = store })

  pub fill_none : (vertices : List Float) → FillPut (fill_to c base store 0) base vertices (replicate 12 0) 0 base 0 vertices store
  unfolding fill_to pad
  fill_none vertices =
      record {
        index_is = refl;
        count_is = refl;
        next_is = sym (add-zero base);
        reads_are = refl;
        vertices_are = sym (lay_none 6 vertex_floats vertices base);
        store_is = refl;
      }

  module _ (k : ℕ) (t : CodeUse) (use-is : t ≡ c.uses k) (vertices₀ : List Float) (index : List ℕ) (count next reads : ℕ)
      (vertices : List Float) (store₁ : List ℕ)
      (f : FillPut (fill_to c base store k) base vertices₀ index count next reads vertices store₁) where
    -- the room that the next vertex wants is there
    pub fill_ready : (m : ℕ) → k < m → Room 6 (base + length (fill_to c base store m).made) vertices₀
        → Room 6 (next + length (made_by t)) vertices
    fill_ready m h w =
        let l : length vertices ≡ length vertices₀ = ap length f.vertices_are ∙ length_lay 6 vertex_floats vertices₀ base _ in
        rw use-is (record { room = omega (arith, fill_room k m h); short = omega (arith, fill_room k m h) })

    pub fill_more : (made next' more : ℕ) (vertices' : List Float) (store' : List ℕ) → k < 12
        → CodePut t next vertices store₁ made next' more vertices' store'
        → FillPut (fill_to c base store (k + 1)) base vertices₀ (set index k made) (k + 1) next' (reads + more) vertices' store'
    unfolding fill_to fill_step
    fill_more made next' more vertices' store' h p =
        let i = (fill_to c base store k).index in
        let before = (fill_to c base store k).made in
        let added = made_by (c.uses k) in
        let e : length i ≡ k = length_index k in
        let g : set (pad i) (length i) made ≡ pad (i ++ (made ∷ [])) = set_pad i made (omega arith) in
        rw add-one
        (record {
          index_is = cc;
          count_is = sym (length_index (suc k));
          next_is = cc (length-append before added, add_assoc base (length before) (length added));
          reads_are = rw length-append (omega (arith, f.reads_are, p.reads_are, ap (λ (t : CodeUse). length (made_by t)) use-is));
          vertices_are = cc (lay_append 6 vertex_floats (λ m. refl) vertices₀ base before added);
          store_is = cc;
        })

-- how many vertices a cell makes, from how many each of its codes makes
pub made_total : (c : Cell) (made : ℕ → ℕ) → ((i : ℕ) → length (made_by (c.uses i)) ≡ made i) → (base : ℕ) (store : List ℕ) (k : ℕ)
    → length (fill_to c base store k).made ≡ total made k
unfolding fill_to
made_total c made each-made base store zero = refl
made_total c made each-made base store (suc k) =
    fill_made c base store k ∙ rw (made_total c made each-made base store k, each-made k)

pub made_one : (t : CodeUse) → length (made_by t) ≡ one t.makes
made_one t = go t.makes
  where
    go : (b : Bool) → length (cond {A = List Made} b (t.made ∷ []) []) ≡ one b
    go true = refl
    go false = refl
