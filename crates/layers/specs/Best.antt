-- Document 02, [12]: the least and the greatest of several samples, none of them a NaN: which one it is, and how a number is known to be it in value with
-- no search. Said once for both, of an order up or down.
use Rattle.std.specs.Prelude.{ℕ, zero, suc, ◌<◌, ◌≡◌, refl, Bool, true, cond, ◌&&◌, Float}
use Rattle.std.proofs.Common.{not-suc-le-zero, le_refl, arith, sym, ◌∙◌, below_none, below_more}
use Rattle.std.proofs.Math.Nat.{le_step}
use Rattle.std.proofs.Math.Path.{ap}
use Rattle.std.proofs.Math.Bool.{false, not, and-eq-true_iff}
use borrow.Author.Tests.{not-true, not-false}
use Rattle.std.specs.Float.Ieee.{is_nan, le, eq, ne}
use Rattle.laws.specs.Below.{all_below, each_below}
use Rattle.laws.specs.Ranges.{both_ways, fail_all, some_fails, hold_all}
use Rattle.model.specs.Layers.{better, best_of, less, more}
use Rattle.layers.specs.Order.{le_on, not_lt, le_not, lt_le, eq_le, eq_ge, le_both, eq_self}

abbrev pub Number : Float → Type 0
Number x = is_nan x ≡ false

-- ---- an order of floats, up or down

pub record Ordered (beats unbeaten : Float → Float → Bool) : Type 0 where
  pub on : (x y z : Float) → unbeaten x y ≡ true → unbeaten y z ≡ true → unbeaten x z ≡ true
  pub one_way : (x y : Float) → Number x → Number y → beats y x ≡ false → unbeaten x y ≡ true
  pub not_both : (x y : Float) → unbeaten x y ≡ true → beats y x ≡ false
  pub beaten : (x y : Float) → beats x y ≡ true → unbeaten x y ≡ true
  pub equal : (x y : Float) → eq x y ≡ true → unbeaten x y ≡ true
  pub equal_back : (x y : Float) → eq x y ≡ true → unbeaten y x ≡ true
  pub both : (x y : Float) → unbeaten x y ≡ true → unbeaten y x ≡ true → eq x y ≡ true

-- at least
abbrev pub not_less : Float → Float → Bool
not_less a b = le b a

abbrev pub not_more : Float → Float → Bool
not_more a b = le a b

pub upward : Ordered less not_more
upward =
    record { on = le_on; one_way = not_lt; not_both = le_not; beaten = lt_le; equal = eq_le; equal_back = eq_ge; both = le_both }

pub downward : Ordered more not_less
downward =
    record {
      on = λ x y z h k. le_on z y x k h;
      one_way = λ x y nx ny h. not_lt y x ny nx h;
      not_both = λ x y h. le_not y x h;
      beaten = λ x y h. lt_le y x h;
      equal = eq_ge;
      equal_back = eq_le;
      both = λ x y h k. le_both x y k h;
    }

-- ---- the best of several

-- v is one of f 0, .., f (n - 1); none beats it, and it beats all that stand before it
pub record Best (beats unbeaten : Float → Float → Bool) (f : ℕ → Float) (n : ℕ) (v : Float) : Type 0 where
  pub at : ℕ
  pub within : at < n
  pub is : v ≡ f at
  pub none_beats : (k : ℕ) → k < n → unbeaten v (f k) ≡ true
  pub first : (k : ℕ) → k < at → beats v (f k) ≡ true

cond_same : {A : Type 0} (b : Bool) (a : A) → cond b a a ≡ a
cond_same true a = refl
cond_same false a = refl

module _ (beats unbeaten : Float → Float → Bool) (order : Ordered beats unbeaten) where
  itself : (x : Float) → Number x → unbeaten x x ≡ true
  itself x number = order.equal x x (eq_self x number)

  -- what beats the best beats all that it is not beaten by
  beats_on : (x y z : Float) → Number x → Number z → beats x y ≡ true → unbeaten y z ≡ true → beats x z ≡ true
  beats_on x y z nx nz h k = go (beats x z) refl
    where
      go : (b : Bool) → beats x z ≡ b → b ≡ true
      go true e = refl
      go false e =
          let back = order.not_both y x (order.on y z x k (order.one_way z x nz nx e)) in
          sym back ∙ h

  module _ (f : ℕ → Float) where
    one_more : (n : ℕ) → ((k : ℕ) → k < suc n → Number (f k)) → (v : Float) → Number v → Best beats unbeaten f n v
        → Best beats unbeaten f (suc n) (better beats v (f n))
    one_more n number v nv best = go (beats (f n) v) refl
      where
        go : (b : Bool) → beats (f n) v ≡ b → Best beats unbeaten f (suc n) (cond b (f n) v)
        go true e =
            let nn = number n (le_refl _) in
            record {
              at = n;
              within = le_refl _;
              is = refl;
              none_beats = λ k h.
                  below_more (λ k. unbeaten (f n) (f k) ≡ true) n
                  (λ i l. order.on (f n) v (f i) (order.beaten (f n) v e) (best.none_beats i l)) (itself (f n) nn) k (omega arith);
              first = λ k h. beats_on (f n) v (f k) nn (number k (le_step h)) e (best.none_beats k h);
            }
        go false e =
            record {
              at = best.at;
              within = le_step best.within;
              is = best.is;
              none_beats = λ k h.
                  below_more (λ k. unbeaten v (f k) ≡ true) n best.none_beats (order.one_way v (f n) nv (number n (le_refl _)) e) k (omega arith);
              first = best.first;
            }

    best_from : (n : ℕ) → ((k : ℕ) → k < suc n → Number (f k)) → Best beats unbeaten f (suc n) (best_of beats f (suc n))
    best_from zero number =
        let alone = cond_same (beats (f 0) (f 0)) (f 0) in
        record {
          at = 0;
          within = le_refl _;
          is = alone;
          none_beats = λ k h.
              ap (λ (v : Float). unbeaten v (f k)) alone
              ∙ below_more (λ k. unbeaten (f 0) (f k) ≡ true) 0 (below_none (λ k. unbeaten (f 0) (f k) ≡ true)) (itself (f 0) (number 0 (le_refl _))) k h;
          first = λ k h. absurd (not-suc-le-zero h);
        }
    best_from (suc n) number =
        let before = best_from n (λ k h. number k (le_step h)) in
        let is_number : Number (best_of beats f (suc n)) = ap is_nan before.is ∙ number before.at (le_step before.within) in
        one_more (suc n) number (best_of beats f (suc n)) is_number before

    pub best_is : (n : ℕ) → 0 < n → ((k : ℕ) → k < n → Number (f k)) → Best beats unbeaten f n (best_of beats f n)
    best_is zero some number = absurd (not-suc-le-zero some)
    best_is (suc n) some number = best_from n number

    -- ---- it is known in value by two questions that are asked of all

    -- none beats v, and one equals it
    abbrev is_best : ℕ → Float → Bool
    is_best n v = all_below (λ k. unbeaten v (f k)) n && not (all_below (λ k. ne v (f k)) n)

    module _ (n : ℕ) (v best : Float) (b : Best beats unbeaten f n best) where
      found : is_best n v ≡ true → eq v best ≡ true
      unfolding ne
      found h =
          let parts = (and-eq-true_iff (all_below (λ k. unbeaten v (f k)) n) (not (all_below (λ k. ne v (f k)) n))).0 h in
          let some = some_fails (λ k. ne v (f k)) n (not-true (all_below (λ k. ne v (f k)) n) parts.1) in
          let equal = not-false (eq v (f some.0)) some.2 in
          order.both v best (ap (unbeaten v) b.is ∙ each_below (λ k. unbeaten v (f k)) n b.at parts.0 b.within)
          (order.on best (f some.0) v (b.none_beats some.0 some.1) (order.equal_back v (f some.0) equal))

      known : eq v best ≡ true → is_best n v ≡ true
      unfolding ne
      known h =
          let none = hold_all (λ k. unbeaten v (f k)) n (λ k l. order.on v best (f k) (order.equal v best h) (b.none_beats k l)) in
          let one : ne v (f b.at) ≡ false = ap not (ap (eq v) (sym b.is) ∙ h) in
          let some = fail_all (λ k. ne v (f k)) n b.at b.within one in
          rw (none, some)

      pub best_known : is_best n v ≡ eq v best
      best_known = both_ways (is_best n v) (eq v best) found known
