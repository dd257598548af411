-- Document 02, [10]: laws of what is kept, of the vertex that is kept for each, and of what the kept have, end to end. Assumes nothing.
use Rattle.std.specs.Prelude.{ℕ, zero, suc, ◌+◌, ◌*◌, ◌≤◌, ◌<◌, ◌≡◌, Bool, cond, ◌||◌, List, [], ◌↔◌, length, get_or}
use Rattle.std.proofs.Common.{add-zero, mul-zero, mul-one, mul-add, mul-suc, mul-le-mul_left, not-suc-le-zero, le_of_suc-le-suc, eq-or-lt_of_le, arith, sym, ap, ◌∙◌, subst, ⊎_elim, length-append, get_or-append-add}
use Rattle.std.proofs.Math.Nat.{le_refl, le_step}
use Rattle.std.proofs.Math.Path.{refl}
use Rattle.std.proofs.Math.Bool.{true, false, or-true}
use borrow.Author.Tests.{eq-eqb, ne_eqb, eqb-true, eqb-false, not-true}
use Rattle.std.proofs.Math.Dec.{eqb}
use Rattle.std.proofs.Math.ListN.{get_or-append}
use Rattle.laws.specs.Counting.{one, few, counted}
use Rattle.model.specs.Mesh.{no_edge}
use Rattle.weld.specs.Definition.{number_of, met, kept, kept_before, first_with, keeper, new_index, closed_up}

clash : true ≡ false → ⊥
clash p = let z : ◌≡◌ {A = ℕ} 0 1 = cc in omega arith

-- ---- the first vertex with a number

-- of the first i vertices f has the number, and none before it
pub record First (edges : List ℕ) (i number f : ℕ) : Type 0 where
  pub within : f < i
  pub has : number_of edges f ≡ number
  pub alone : met edges f number ≡ false

module _ (edges : List ℕ) where
  met_first : (i number : ℕ) → met edges i number ≡ true → First edges i number (first_with edges i number)
  met_first zero number t = absurd (clash (sym t))
  met_first (suc i) number t = go (met edges i number) refl t (met_first i number)
    where
      go : (b : Bool) → met edges i number ≡ b → b || eqb (number_of edges i) number ≡ true
          → (met edges i number ≡ true → First edges i number (first_with edges i number)) → First edges (suc i) number (cond b (first_with edges i number) i)
      go true e t earlier = let f = earlier e in record { within = le_step f.within; has = f.has; alone = f.alone }
      go false e t earlier = record { within = le_refl _; has = eqb-true _ _ t; alone = e }

  first_met : (i number f : ℕ) → First edges i number f → (met edges i number ≡ true) × (first_with edges i number ≡ f)
  first_met zero number f h = absurd (not-suc-le-zero h.within)
  first_met (suc i) number f h =
      ⊎_elim
      (λ e.
      let alone : met edges i number ≡ false = subst (λ (k : ℕ). met edges k number ≡ false) e h.alone in
      let has : eqb (number_of edges i) number ≡ true = eq-eqb _ _ (ap (number_of edges) (sym e) ∙ h.has) in
      (rw (alone, has), rw alone (sym e)))
      (λ m.
      let before = first_met i number f (record { within = m; has = h.has; alone = h.alone }) in
      (rw before.0, rw before.0 before.1))
      (eq-or-lt_of_le (le_of_suc-le-suc h.within))

-- ---- what is kept

module _ (edges : List ℕ) (i : ℕ) where
  abbrev number : ℕ
  number = number_of edges i

  pub kept_mark : number ≡ no_edge → kept edges i ≡ true
  unfolding kept
  kept_mark e = rw (eq-eqb _ _ e)

  kept_new : met edges i number ≡ false → kept edges i ≡ true
  unfolding kept
  kept_new e = rw e (or-true (eqb number no_edge))

  kept_first : (number ≡ no_edge → ⊥) → kept edges i ≡ true → met edges i number ≡ false
  unfolding kept
  kept_first m k = not-true _ (rw (ne_eqb _ _ m) at k)

  kept_once : (number ≡ no_edge → ⊥) → met edges i number ≡ true → kept edges i ≡ false
  unfolding kept
  kept_once m e = rw (ne_eqb _ _ m, e)

-- of the first i vertices the first with a number is kept
first_kept : (edges : List ℕ) (i number f : ℕ) → First edges i number f → kept edges f ≡ true
first_kept edges i number f h = kept_new edges f (ap (met edges f) h.has ∙ h.alone)

-- a kept regular vertex is the first with its number
kept_is_first : (edges : List ℕ) (i f : ℕ) → f < i → kept edges f ≡ true → (number_of edges f ≡ no_edge → ⊥) → First edges i (number_of edges f) f
kept_is_first edges i f l k m = record { within = l; has = refl; alone = kept_first edges f m k }

-- so no two of them have one number
pub kept_apart : (edges : List ℕ) (f g : ℕ) → kept edges f ≡ true → kept edges g ≡ true → (number_of edges f ≡ no_edge → ⊥)
    → number_of edges g ≡ number_of edges f → f ≡ g
kept_apart edges f g kf kg m e =
    let above = suc (f + g) in
    let one = first_met edges above (number_of edges f) f (kept_is_first edges above f (omega arith) kf m) in
    let other = first_met edges above (number_of edges g) g (kept_is_first edges above g (omega arith) kg (λ q. m (sym e ∙ q))) in
    sym one.1 ∙ ap (first_with edges above) (sym e) ∙ other.1

-- ---- the vertex that is kept for another

pub record Keeps (edges : List ℕ) (i f : ℕ) : Type 0 where
  pub first : f ≤ i
  pub stays : kept edges f ≡ true
  pub same : number_of edges f ≡ number_of edges i
  pub itself : kept edges i ≡ true → f ≡ i

module _ (edges : List ℕ) (i : ℕ) where
  keeps_first : (f : ℕ) → (number_of edges i ≡ no_edge → ⊥) → First edges (suc i) (number_of edges i) f → Keeps edges i f
  keeps_first f m h =
      record {
        first = le_of_suc-le-suc h.within;
        stays = first_kept edges (suc i) (number_of edges i) f h;
        same = h.has;
        itself = λ k. kept_apart edges f i (first_kept edges (suc i) (number_of edges i) f h) k (λ q. m (sym h.has ∙ q)) (sym h.has);
      }

  pub keeper_keeps : Keeps edges i (keeper edges i)
  unfolding keeper
  keeper_keeps = go (eqb (number_of edges i) no_edge) refl
    where
      go : (b : Bool) → eqb (number_of edges i) no_edge ≡ b → Keeps edges i (cond b i (first_with edges (suc i) (number_of edges i)))
      go true e = record { first = le_refl _; stays = kept_mark edges i (eqb-true _ _ e); same = refl; itself = λ k. refl }
      go false e =
          let here : met edges (suc i) (number_of edges i) ≡ true = rw (eq-eqb (number_of edges i) _ refl) (or-true (met edges i (number_of edges i))) in
          keeps_first _ (eqb-false _ _ e) (met_first edges (suc i) (number_of edges i) here)

  pub new_below : (v : ℕ) → i < v → new_index edges i < kept_before edges v
  new_below v l = let k = keeper_keeps in counted (kept edges) v (keeper edges i) (omega (arith, k.first)) k.stays

  pub new_first : new_index edges i ≤ i
  new_first = omega (arith, few (kept edges) (keeper edges i), keeper_keeps.first)

  pub kept_index : kept edges i ≡ true → new_index edges i ≡ kept_before edges i
  kept_index k = ap (kept_before edges) (keeper_keeps.itself k)

  -- a vertex that is the first with the number of vertex i is kept for it
  pub kept_for : (f : ℕ) → f < i → kept edges f ≡ true → (number_of edges i ≡ no_edge → ⊥) → number_of edges f ≡ number_of edges i
      → (kept edges i ≡ false) × (new_index edges i ≡ kept_before edges f)
  unfolding keeper
  kept_for f l k m e =
      let regular : number_of edges f ≡ no_edge → ⊥ = λ q. m (sym e ∙ q) in
      let one = first_met edges i (number_of edges f) f (kept_is_first edges i f l k regular) in
      let other = first_met edges (suc i) (number_of edges f) f (kept_is_first edges (suc i) f (le_step l) k regular) in (
        kept_once edges i m (ap (met edges i) (sym e) ∙ one.0),
        rw (ne_eqb _ _ m, ← e) (ap (kept_before edges) other.1),
      )

  -- none of the kept before it has the number of vertex i
  pub kept_anew : (number_of edges i ≡ no_edge → ⊥) → ((f : ℕ) → f < i → kept edges f ≡ true → number_of edges f ≡ number_of edges i → ⊥) → kept edges i ≡ true
  kept_anew m none = go (met edges i (number_of edges i)) refl
    where
      go : (b : Bool) → met edges i (number_of edges i) ≡ b → kept edges i ≡ true
      go true e =
          let h = met_first edges i (number_of edges i) e in
          absurd (none _ h.within (first_kept edges i (number_of edges i) _ h) h.has)
      go false e = kept_new edges i e

-- of the regular vertices exactly the first on its edge is kept
pub kept_is : (edges : List ℕ) (i : ℕ) → (number_of edges i ≡ no_edge → ⊥)
    → (kept edges i ≡ true) ↔ ((j : ℕ) → j < i → number_of edges j ≡ number_of edges i → ⊥)
kept_is edges i m = (
  λ k j l e.
      let f = keeper_keeps edges j in
      let same : number_of edges (keeper edges j) ≡ number_of edges i = f.same ∙ e in
      omega (arith, f.first, kept_apart edges (keeper edges j) i f.stays k (λ q. m (sym same ∙ q)) (sym same)),
  λ none. kept_anew edges i m (λ f l k e. none f l e),
)

-- ---- what the kept have, end to end

module _ {A : Type 0} (item : ℕ → List A) (w : ℕ) (wide : (i : ℕ) → length (item i) ≡ w) (edges : List ℕ) where
  pub length_closed : (i : ℕ) → length (closed_up item edges i) ≡ w * kept_before edges i
  length_closed zero = sym (mul-zero w)
  length_closed (suc i) =
      length-append (closed_up item edges i) _ ∙ ap (λ (k : ℕ). k + length (cond (kept edges i) (item i) [])) (length_closed i) ∙ go (kept edges i)
    where
      go : (b : Bool) → w * kept_before edges i + length (cond b (item i) []) ≡ w * (kept_before edges i + one b)
      go true = rw (wide i) (omega (arith, mul-add w (kept_before edges i) 1, mul-one w))
      go false = rw (add-zero, add-zero)

  -- place k of what a kept vertex has
  pub closed_at : (i f k : ℕ) (d : A) → f < i → kept edges f ≡ true → k < w → get_or (closed_up item edges i) (w * kept_before edges f + k) d ≡ get_or (item f) k d
  closed_at zero f k d l t small = absurd (not-suc-le-zero l)
  closed_at (suc i) f k d l t small =
      ⊎_elim
      (λ e.
      let here : kept edges i ≡ true = subst (λ (m : ℕ). kept edges m ≡ true) e t in
      let at : w * kept_before edges f + k ≡ length (closed_up item edges i) + k = ap (λ (m : ℕ). w * kept_before edges m + k) e ∙ ap (λ (m : ℕ). m + k) (sym (length_closed i)) in
      rw (at, here) (get_or-append-add (closed_up item edges i) (item i) k d ∙ ap (λ (m : ℕ). get_or (item m) k d) (sym e)))
      (λ m.
      let before : w * kept_before edges f + w ≤ w * kept_before edges i = omega (arith, mul-suc w (kept_before edges f), mul-le-mul_left w (counted (kept edges) i f m t)) in
      get_or-append (closed_up item edges i) _ d (w * kept_before edges f + k) (omega (arith, length_closed i)) ∙ closed_at i f k d m t small)
      (eq-or-lt_of_le (le_of_suc-le-suc l))
