-- Two grid edges of one cell that lie in two planes across different directions are one.
use Rattle.std.specs.Prelude.{◌≡◌, Bool, ℕ, zero, suc, ◌+◌, ◌<◌, T, eqb}
use Rattle.std.proofs.Common.{sym, ◌∙◌, subst, arith, eqb→eq}
use Rattle.std.proofs.Math.Decide.{ℕ_discrete}
use Rattle.laws.specs.Tests.{both, either, either_right, below, all, all₂}
use Rattle.model.specs.Rotations.{xyz}
use Rattle.closed.specs.Clauses.{Edge, OfCell, InFace, part}
use Rattle.closed.specs.Places.{same_edge}

-- an edge in a face does not run across it
not_across : (d k : ℕ) (e : Edge) → d < 3 → InFace d k e → e.axis ≡ d → ⊥
not_across zero k e h i a = let high = rw a at i.high_in in omega (arith, i.low_in)
not_across (suc zero) k e h i a = let high = rw a at i.high_in in omega (arith, i.low_in)
not_across (suc (suc zero)) k e h i a = let high = rw a at i.high_in in omega (arith, i.low_in)
not_across (suc (suc (suc d))) k e h i a = absurd (omega arith)

-- along its axis an edge of a cell begins where the cell does
begins : (a x y z : ℕ) (e : Edge) → e.axis ≡ a → OfCell x y z e → part a e.low ≡ part a (xyz x y z)
begins zero x y z e h o = let high = rw h at o.high_x in omega (arith, o.low_x)
begins (suc zero) x y z e h o = let high = rw h at o.high_y in omega (arith, o.low_y)
begins (suc (suc zero)) x y z e h o = let high = rw h at o.high_z in omega (arith, o.low_z)
begins (suc (suc (suc a))) x y z e h o = absurd (omega (arith, o.axis_is))

-- the third of three directions
unfoldable third_test : ℕ → ℕ → ℕ → Bool
third_test a b c = either (eqb a b) (either (eqb a c) (either (eqb b c) (eqb (a + b + c) 3)))

thirds_right : T (below (λ a. below (λ b. below (third_test a b) 3) 3) 3)
unfolding both either third_test
thirds_right = tt

third : (a b c : ℕ) → a < 3 → b < 3 → c < 3 → (a ≡ b → ⊥) → (a ≡ c → ⊥) → (b ≡ c → ⊥) → a + b + c ≡ 3
unfolding third_test
third a b c ha hb hc ab ac bc =
    let t = all (third_test a b) 3 (all₂ (λ a b. below (third_test a b) 3) 3 3 thirds_right a b ha hb) c hc in
    let not_equal : (m n : ℕ) → (m ≡ n → ⊥) → T (eqb m n) → ⊥ = λ m n f t. f (eqb→eq m n t) in
    eqb→eq _ _ (either_right _ _ (either_right _ _ (either_right _ _ t (not_equal a b ab)) (not_equal a c ac)) (not_equal b c bc))

module _ (x y z d d' k k' : ℕ) (hd : d < 3) (hd' : d' < 3) (differ : d ≡ d' → ⊥) where
  -- an edge in both planes
  record InBoth (e : Edge) : Type 0 where
    of_cell : OfCell x y z e
    one : InFace d k e
    other : InFace d' k' e

  axis_is : (e : Edge) → InBoth e → e.axis + d + d' ≡ 3
  axis_is e b =
      third e.axis d d' b.of_cell.axis_is hd hd' (not_across d k e hd b.one) (not_across d' k' e hd' b.other) differ

  place_is : (e f : Edge) → InBoth e → InBoth f → (c : ℕ) → c < 3 → part c e.low ≡ part c f.low
  place_is e f be bf c hc = go (ℕ_discrete c d) (ℕ_discrete c d')
    where
      go : Dec (c ≡ d) → Dec (c ≡ d') → part c e.low ≡ part c f.low
      go (yes q) r = subst (λ (c : ℕ). part c e.low ≡ part c f.low) (sym q) (be.one.low_in ∙ sym bf.one.low_in)
      go (no q) (yes r) = subst (λ (c : ℕ). part c e.low ≡ part c f.low) (sym r) (be.other.low_in ∙ sym bf.other.low_in)
      go (no q) (no r) =
          let c-is = third c d d' hc hd hd' q r differ in
          begins c x y z e (omega (arith, axis_is e be)) be.of_cell ∙ sym (begins c x y z f (omega (arith, axis_is f bf)) bf.of_cell)

  pub one_edge : (e f : Edge) → OfCell x y z e → OfCell x y z f → InFace d k e → InFace d k f → InFace d' k' e → InFace d' k' f → e ≡ f
  one_edge e f oe of ie if je jf =
      let be : InBoth e = record { of_cell = oe; one = ie; other = je } in
      let bf : InBoth f = record { of_cell = of; one = if; other = jf } in
      let at = place_is e f be bf in
      same_edge (at 0 (omega arith)) (at 1 (omega arith)) (at 2 (omega arith)) (omega (arith, axis_is e be, axis_is f bf))
