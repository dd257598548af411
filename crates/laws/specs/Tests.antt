-- Tests as Bools, and one computed test carried to each number below a bound. Assumes nothing.
use Rattle.std.specs.Prelude.{◌≡◌, refl, Bool, true, false, ◌||◌, ℕ, zero, suc, ◌<◌, T, eqb}
use Rattle.std.proofs.Common.{subst, not-suc-le-zero, arith}
use Rattle.std.proofs.Math.Decide.{dec_lt}
use Rattle.std.proofs.Math.Dec.{eqb_refl}

pub eq→eqb : (m n : ℕ) → m ≡ n → T (eqb m n)
eq→eqb m n e = rw e (eqb_refl n)

pub neither : (a b : Bool) → a || b ≡ false → (a ≡ false) × (b ≡ false)
neither true b e = (e, cc)
neither false b e = (refl, e)

unfoldable pub both : Bool → Bool → Bool
both true b = b
both false b = false

pub both_left : (a b : Bool) → T (both a b) → T a
unfolding both
both_left true b t = tt
both_left false b t = absurd t

pub both_right : (a b : Bool) → T (both a b) → T b
unfolding both
both_right true b t = t
both_right false b t = absurd t

pub both_of : (a b : Bool) → T a → T b → T (both a b)
unfolding both
both_of true b s t = t
both_of false b s t = absurd s

unfoldable pub either : Bool → Bool → Bool
either true b = true
either false b = b

pub either_left : (a b : Bool) → T (either a b) → (T b → ⊥) → T a
unfolding either
either_left true b t n = tt
either_left false b t n = absurd (n t)

pub either_right : (a b : Bool) → T (either a b) → (T a → ⊥) → T b
unfolding either
either_right true b t n = absurd (n tt)
either_right false b t n = t

pub either_none : (a b : Bool) → (T a → ⊥) → (T b → ⊥) → T (either a b) → ⊥
unfolding either
either_none true b m n t = m tt
either_none false b m n t = n t

-- b wherever a
unfoldable pub then : Bool → Bool → Bool
then true b = b
then false b = true

pub then_holds : (a b : Bool) → T (then a b) → T a → T b
unfolding then
then_holds true b t h = t
then_holds false b t h = absurd h

-- P at each number below n
abbrev pub below : (ℕ → Bool) → ℕ → Bool
below P zero = true
below P (suc n) = both (P n) (below P n)

last_or_below : (P : ℕ → Bool) (n k : ℕ) → Dec (k < n) → k < suc n → T (P n) → (k < n → T (P k)) → T (P k)
last_or_below P n k (yes l) h p q = q l
last_or_below P n k (no l) h p q =
    let e : n ≡ k = omega arith in
    subst (λ (m : ℕ). T (P m)) e p

pub all : (P : ℕ → Bool) (n : ℕ) → T (below P n) → (k : ℕ) → k < n → T (P k)
all P zero t k h = absurd (not-suc-le-zero h)
all P (suc n) t k h =
    last_or_below P n k (dec_lt k n) h (both_left _ _ t)
    (λ l. all P n (both_right _ _ t) k l)

-- P at each pair below m and n
pub all₂ : (P : ℕ → ℕ → Bool) (m n : ℕ) → T (below (λ k. below (P k) n) m) → (k i : ℕ) → k < m → i < n → T (P k i)
all₂ P m n t k i hk hi = all (P k) n (all (λ j. below (P j) n) m t k hk) i hi
