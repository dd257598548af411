-- A cell's step, for any cell: if each of its codes either makes a vertex with its label or takes its index from a place where one with that label is
-- owed, then each index names its label, what was owed stays, and what was stored is owed. And what the step adds: vertices, triangles, and the sides
-- of these. Knows nothing of tables.
use Rattle.std.specs.Prelude.{◌≡◌, Bool, false, cond, ◌||◌, get_or, set}
use Rattle.std.proofs.Math.Path.{refl, ap, ap₂}
use Rattle.std.proofs.Common.{sym, ◌∙◌, subst, le_refl, le_of_lt, not-suc-le-zero, le_of_suc-le-suc, add-one, arith, length-set, get_or-set_same, get_or-set_other}
use Rattle.std.proofs.Math.Bool.{true}
use mathlib.Core.List.{List, [], ◌∷◌, ◌++◌, append_assoc, append-nil}
use Prim.Native.Nat.{ℕ, zero, suc, ◌+◌, ◌-◌, ◌*◌, ◌≤◌, ◌<◌}
use Rattle.std.proofs.Math.Decide.{ℕ_discrete, dec_lt}
use Rattle.std.proofs.Math.ListN.{length, length-append, get_or-append}
use Rattle.std.proofs.Math.Seq.{get_or-append_seam, get_or-append-add}
use Rattle.laws.specs.Steps.{listed, total}
use Rattle.laws.specs.Lists.{get_d_listed}
use Rattle.laws.specs.Sums.{total_same, total_more}
use Rattle.model.specs.declared.Triangle.{Triangle}
use Rattle.model.specs.Mesh.{Made, CodeUse, Cell, Fill, Mesh, made_by, fill_step, fill_to, filled, corner_index, triangle_of, cell_step}
use Rattle.model.specs.Adding.{cell_triangles}
use Rattle.closed.specs.Clauses.{no_vertex, edge_at, Names, triangle_at, around, sides, runs, NamesVertices}

-- ---- what a vertex list names

pub names_more : (made more : List Made) {i g : ℕ} → Names made i g → Names (made ++ more) i g
names_more made more {i} {g} p =
    record {
      there = rw length-append (omega (arith, p.there));
      held = ap (λ (m : Made). m.edge) (get_or-append made more no_vertex i p.there) ∙ p.held;
    }

names_last : (made : List Made) (m : Made) {g : ℕ} → m.edge ≡ g → Names (made ++ (m ∷ [])) (length made) g
names_last made m e =
    record { there = rw length-append (omega arith); held = ap (λ (m : Made). m.edge) (get_or-append_seam made m [] no_vertex) ∙ e }

pub names_as : {made : List Made} {i g h : ℕ} → g ≡ h → Names made i g → Names made i h
names_as e p = record { there = p.there; held = p.held ∙ e }

-- below k + 1: below k, or k
up_to : (P : ℕ → Type 0) (k : ℕ) → ((j : ℕ) → j < k → P j) → P k → (j : ℕ) → j < suc k → P j
up_to P k before here j h = go (dec_lt j k)
  where
    go : Dec (j < k) → P j
    go (yes l) = before j l
    go (no l) =
        let e : k ≡ j = omega arith in
        subst P e here

-- after a store: the stored value where the places are one, and the old one where they are two
after_set : (P : ℕ → Type 0) (l : List ℕ) (i j v : ℕ) → i < length l → (j ≡ i → P v) → P (get_or l j 0) → P (get_or (set l i v) j 0)
after_set P l i j v h same other = go (ℕ_discrete j i)
  where
    go : Dec (j ≡ i) → P (get_or (set l i v) j 0)
    go (yes e) = rw (e, get_or-set_same l i v 0 h) (same e)
    go (no e) = rw (get_or-set_other l i j v 0 e) other

-- ---- a code

-- what is owed: at this place of the store, a vertex with this label
abbrev pub Owing : Type 1
Owing = ℕ → ℕ → Type 0

abbrev pub Pays : Owing → List Made → List ℕ → Type 0
Pays owed made store = (p g : ℕ) → owed p g → Names made (get_or store p 0) g

pub never : {A : Type 0} → true ≡ false → A
never e = absurd (let z : ◌≡◌ {A = ℕ} 0 1 = cc in omega arith)

-- both kinds of cell use a code so: a new one makes a vertex and stores it at a place of its cell; one that leaves makes one too; any other takes its
-- index from a place farther back
abbrev pub use_by : Made → ℕ → ℕ → Bool → Bool → CodeUse
use_by made own back new leaves = record { made = made; makes = new || leaves; stores = new; place = cond new own back }

module _ (owed : Owing) (size : ℕ) where
  -- a code's use gives it a vertex with the label g: one that it makes, or one that is owed; and it stores where nothing is owed
  pub record Fits (t : CodeUse) (g : ℕ) : Type 0 where
    pub label_is : t.made.edge ≡ g
    pub stores_makes : t.stores ≡ true → t.makes ≡ true
    pub takes : t.makes ≡ false → owed t.place g
    pub place_in : t.stores ≡ true → t.place < size
    pub apart : t.stores ≡ true → (h : ℕ) → owed t.place h → ⊥

  -- what it comes to, where the vertices so far are `made`: those after it, its index, and the store after it
  record Put (t : CodeUse) (g : ℕ) (made : List Made) (store : List ℕ) (after : List Made) (index : ℕ) (store' : List ℕ) : Type 0 where
    named : Names after index g
    old : Pays owed after store'
    fresh : t.stores ≡ true → Names after (get_or store' t.place 0) g
    kept : (p h : ℕ) → (t.stores ≡ true → p ≡ t.place → h ≡ g) → Names made (get_or store p 0) h → Names after (get_or store' p 0) h
    long : length store' ≡ size

  abbrev PutBy : CodeUse → ℕ → List Made → List ℕ → Bool → Bool → Type 0
  PutBy t g made store makes stores =
      Put t g made store (made ++ cond makes (t.made ∷ []) []) (cond makes (length made) (get_or store t.place 0))
      (cond stores (set store t.place (length made)) store)

  put_by : (t : CodeUse) (g : ℕ) (made : List Made) (store : List ℕ) → Fits t g → Pays owed made store → length store ≡ size
      → (makes stores : Bool) → t.makes ≡ makes → t.stores ≡ stores → PutBy t g made store makes stores
  put_by t g made store f old long true true em es =
      let after = made ++ (t.made ∷ []) in
      let p = t.place in
      let «in» : p < length store = rw long (f.place_in es) in
      let last : Names after (length made) g = names_last made t.made f.label_is in
      record {
        named = last;
        old = λ q h o.
            after_set (λ (k : ℕ). Names after k h) store p q (length made) «in»
            (λ same. absurd (f.apart es h (subst (λ (q : ℕ). owed q h) same o)))
            (names_more made (t.made ∷ []) (old q h o));
        fresh = λ e. rw (get_or-set_same store p (length made) 0 «in») last;
        kept = λ q h e o.
            after_set (λ (k : ℕ). Names after k h) store p q (length made) «in»
            (λ same. names_as (sym (e es same)) last)
            (names_more made (t.made ∷ []) o);
        long = length-set store p (length made) ∙ long;
      }
  put_by t g made store f old long true false em es =
      record {
        named = names_last made t.made f.label_is;
        old = λ q h o. names_more made (t.made ∷ []) (old q h o);
        fresh = λ e. never (sym e ∙ es);
        kept = λ q h e o. names_more made (t.made ∷ []) o;
        long = long;
      }
  put_by t g made store f old long false true em es = never (sym (f.stores_makes es) ∙ em)
  put_by t g made store f old long false false em es =
      rw append-nil
      (record {
        named = old t.place g (f.takes em);
        old = old;
        fresh = λ e. never (sym e ∙ es);
        kept = λ q h e o. o;
        long = long;
      })

  -- ---- the codes of a cell

  -- each fits its label, and two that store at one place have one label
  pub record FitsCell (c : Cell) (label : ℕ → ℕ) : Type 0 where
    pub fits : (j : ℕ) → j < c.vertices → Fits (c.uses j) (label j)
    pub one_place : (i j : ℕ) → i < c.vertices → j < c.vertices → (c.uses i).stores ≡ true → (c.uses j).stores ≡ true
        → (c.uses i).place ≡ (c.uses j).place → label i ≡ label j

  -- after its first k codes, where the vertices so far are `made`
  pub record Filled (c : Cell) (label : ℕ → ℕ) (made : List Made) (k : ℕ) (f : Fill) : Type 0 where
    pub many : length f.index ≡ k
    pub named : (j : ℕ) → j < k → Names made (get_or f.index j 0) (label j)
    pub old : Pays owed made f.store
    pub fresh : (j : ℕ) → j < k → (c.uses j).stores ≡ true → Names made (get_or f.store (c.uses j).place 0) (label j)
    pub long : length f.store ≡ size

  at_end : {made : List Made} {g : ℕ} (index : List ℕ) (i k : ℕ) → length index ≡ k → Names made i g
      → Names made (get_or (index ++ (i ∷ [])) k 0) g
  at_end index i k e p = rw (← e, get_or-append_seam) p

  module _ (c : Cell) (label : ℕ → ℕ) (right : FitsCell c label) where
    fill_step_lem : (made : List Made) (k next : ℕ) (f : Fill) → next ≡ length made → k < c.vertices → Filled c label made k f
        → Filled c label (made ++ made_by (c.uses k)) (suc k) (fill_step (c.uses k) next f)
    unfolding fill_step
    fill_step_lem made k next f e h p =
        let t = c.uses k in
        let q = put_by t (label k) made f.store (right.fits k h) p.old p.long t.makes t.stores refl refl in
        rw e
        (record {
          many = rw (length-append, add-one) (ap suc p.many);
          named =
              up_to (λ (j : ℕ). Names (made ++ made_by t) (get_or (fill_step t (length made) f).index j 0) (label j)) k
              (λ j l. rw (get_or-append f.index _ 0 j (rw p.many l)) (names_more made (made_by t) (p.named j l)))
              (at_end f.index _ k p.many q.named);
          old = q.old;
          fresh =
              up_to
              (λ (j : ℕ). (c.uses j).stores ≡ true → Names (made ++ made_by t) (get_or (fill_step t (length made) f).store (c.uses j).place 0) (label j)) k
              (λ j l new. q.kept (c.uses j).place (label j)
              (λ es same. right.one_place j k (omega arith) h new es same) (p.fresh j l new))
              q.fresh;
          long = q.long;
        })

    -- over the vertices and the store of the cells before
    module _ (made : List Made) (store : List ℕ) where
      abbrev FilledTo : ℕ → Type 0
      FilledTo k = let f = fill_to c (length made) store k in Filled c label (made ++ f.made) k f

      fill_none : Pays owed made store → length store ≡ size → FilledTo 0
      unfolding fill_to
      fill_none old long =
          rw append-nil
          (record { many = refl; named = λ j l. absurd (not-suc-le-zero l); old = old; fresh = λ j l. absurd (not-suc-le-zero l); long = long })

      fill_more : (k : ℕ) → k < c.vertices → FilledTo k → FilledTo (suc k)
      unfolding fill_to fill_step
      fill_more k h p =
          let f = fill_to c (length made) store k in
          rw (← append_assoc)
          (fill_step_lem (made ++ f.made) k (length made + length f.made) f (sym (length-append made f.made)) h p)

      fill_all : Pays owed made store → length store ≡ size → (k : ℕ) → k < suc c.vertices → FilledTo k
      fill_all old long zero h = fill_none old long
      fill_all old long (suc k) h = fill_more k (le_of_suc-le-suc h) (fill_all old long k (le_of_lt h))

    pub cell_filled : (m : Mesh) → Pays owed m.made m.store → length m.store ≡ size
        → Filled c label (cell_step c m).made c.vertices (filled c m)
    unfolding cell_step
    cell_filled m old long = fill_all m.made m.store old long c.vertices (le_refl _)

-- ---- the vertices of a step

-- Q at each vertex from the index `from` on
abbrev pub From : (Made → Type 0) → ℕ → List Made → Type 0
From Q from made = (i : ℕ) → from ≤ i → i < length made → Q (get_or made i no_vertex)

module _ (Q : Made → Type 0) (from : ℕ) where
  code_made : (t : CodeUse) (made : List Made) → (t.makes ≡ true → Q t.made) → From Q from made → From Q from (made ++ made_by t)
  code_made t made new old i = go t.makes new
    where
      go : (makes : Bool) → (makes ≡ true → Q t.made) → from ≤ i → i < length (made ++ cond makes (t.made ∷ []) [])
          → Q (get_or (made ++ cond makes (t.made ∷ []) []) i no_vertex)
      go false new l h = rw append-nil (old i l (rw append-nil at h))
      go true new l h =
          up_to (λ (j : ℕ). from ≤ j → Q (get_or (made ++ (t.made ∷ [])) j no_vertex)) (length made)
          (λ j k b. rw (get_or-append made (t.made ∷ []) no_vertex j k) (old j b k))
          (λ b. rw (get_or-append_seam made t.made [] no_vertex) (new refl))
          i (rw (length-append, add-one) at h) l

  module _ (c : Cell) (m : Mesh) (new : (j : ℕ) → j < c.vertices → (c.uses j).makes ≡ true → Q (c.uses j).made) where
    fill_made : From Q from m.made → (k : ℕ) → k ≤ c.vertices → From Q from (m.made ++ (fill_to c (length m.made) m.store k).made)
    unfolding fill_to fill_step
    fill_made old zero h = rw append-nil old
    fill_made old (suc k) h = rw (← append_assoc) (code_made (c.uses k) (m.made ++ (fill_to c (length m.made) m.store k).made) (new k h) (fill_made old k (le_of_lt h)))

    pub step_made : From Q from m.made → From Q from (cell_step c m).made
    unfolding cell_step
    step_made old = fill_made old c.vertices (le_refl _)

-- ---- the triangles of a step

module _ (c : Cell) (m : Mesh) where
  abbrev own : List Triangle
  own = listed (triangle_of c (filled c m).index) c.triangles

  triangle_kept : (t : ℕ) → t < length m.triangles → triangle_at (cell_step c m) t ≡ triangle_at m t
  unfolding cell_step
  triangle_kept t h = get_or-append m.triangles own _ t h

  triangle_sent : (j : ℕ) → j < c.triangles → triangle_at (cell_step c m) (length m.triangles + j) ≡ triangle_of c (filled c m).index j
  unfolding cell_step
  triangle_sent j h = get_or-append-add m.triangles own j _ ∙ get_d_listed _ c.triangles j _ h

  -- a triangle is one of those before, which stay, or one of the cell's own, which are sent after them
  pub step_triangles : (P : ℕ → Triangle → Type 0) → ((t : ℕ) → t < length m.triangles → P t (triangle_at m t))
      → ((j : ℕ) → j < c.triangles → P (length m.triangles + j) (triangle_of c (filled c m).index j))
      → (t : ℕ) → t < length (cell_step c m).triangles → P t (triangle_at (cell_step c m) t)
  step_triangles P old new t h = go (dec_lt t (length m.triangles))
    where
      go : Dec (t < length m.triangles) → P t (triangle_at (cell_step c m) t)
      go (yes l) = rw (triangle_kept t l) (old t l)
      go (no l) =
          let j = t - length m.triangles in
          let e : length m.triangles + j ≡ t = omega arith in
          let small : j < c.triangles = omega (arith, cell_triangles c m) in
          subst (λ (t : ℕ). P t (triangle_at (cell_step c m) t)) e (rw (triangle_sent j small) (new j small))

-- the sides from g to h of the triangle j, where the corner k has the label `at k`
unfoldable pub sides_by : (ℕ → ℕ) → ℕ → ℕ → ℕ → ℕ
sides_by at g h j = around g h (at (3 * j)) (at (3 * j + 1)) (at (3 * j + 2))

three : (g h a b c a' b' c' : ℕ) → a ≡ a' → b ≡ b' → c ≡ c' → around g h a b c ≡ around g h a' b' c'
three g h a b c a' b' c' p q r = rw (p, q, r)

-- each corner of each triangle names a vertex that was made
abbrev pub InReach : Mesh → Type 0
InReach m = (t : ℕ) → t < length m.triangles → NamesVertices m t

module _ (c : Cell) (m : Mesh) (at : ℕ → ℕ) (reach : InReach m)
    (named : (k : ℕ) → k < 3 * c.triangles → Names (cell_step c m).made (corner_index c (filled c m).index k) (at k)) where
  label_kept : (i : ℕ) → i < length m.made → edge_at (cell_step c m).made i ≡ edge_at m.made i
  unfolding cell_step
  label_kept i h = ap (λ (v : Made). v.edge) (get_or-append m.made (filled c m).made no_vertex i h)

  sides_kept : (g h t : ℕ) → t < length m.triangles → sides (cell_step c m) g h t ≡ sides m g h t
  unfolding sides
  sides_kept g h t l =
      let r = reach t l in
      rw (triangle_kept c m t l) (three g h _ _ _ _ _ _ (label_kept _ r.a) (label_kept _ r.b) (label_kept _ r.c))

  own_sides : (g h j : ℕ) → j < c.triangles → sides (cell_step c m) g h (length m.triangles + j) ≡ sides_by at g h j
  unfolding sides sides_by triangle_of
  own_sides g h j l =
      rw (triangle_sent c m j l)
      (three g h _ _ _ _ _ _ (named (3 * j) (omega arith)).held (named (3 * j + 1) (omega arith)).held (named (3 * j + 2) (omega arith)).held)

  pub step_counted : (g h : ℕ) → runs (cell_step c m) g h ≡ runs m g h + total (sides_by at g h) c.triangles
  unfolding runs
  step_counted g h =
      ap (total (sides (cell_step c m) g h)) (cell_triangles c m)
      ∙ total_more (sides (cell_step c m) g h) (length m.triangles) c.triangles
      ∙ ap₂ ◌+◌ (total_same _ _ (length m.triangles) (sides_kept g h)) (total_same _ _ c.triangles (own_sides g h))

  pub step_reach : InReach (cell_step c m)
  unfolding cell_step triangle_of
  step_reach =
      λ t h.
      let corners = step_triangles c m
      (λ (t : ℕ) (n : Triangle). (n.a < length (cell_step c m).made) × (n.b < length (cell_step c m).made) × (n.c < length (cell_step c m).made))
      (λ t l.
      let r = reach t l in
      let grown = length-append m.made (filled c m).made in
      (omega (arith, r.a), omega (arith, r.b), omega (arith, r.c)))
      (λ j l. ((named (3 * j) (omega arith)).there, (named (3 * j + 1) (omega arith)).there, (named (3 * j + 2) (omega arith)).there)) t h in
      record { a = corners.0; b = corners.1; c = corners.2 }
