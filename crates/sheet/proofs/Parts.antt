-- A part of a list of samples as it is passed, and the sums over such parts.
use Rattle.std.specs.Prelude.{ℕ, ◌+◌, ◌-◌, ◌≤◌, ◌<◌, ◌≡◌, List, Float, length, get_or, take, drop}
use Rattle.std.specs.Float.{nan}
use Rattle.std.proofs.Common.{arith, ap, ap₂, sym, ◌∙◌, zero-add, length-take-le, length-drop, get_or-take, get_or-drop}
use Rattle.laws.specs.Steps.{total}
use Rattle.laws.specs.Sums.{total_same}
use Rattle.model.specs.Formulas.{inside_bit}
use Rattle.sheet.specs.Planes.{crossing_bit, crossing_sum}

-- so many samples of a list, from a place on
pub record Part (all : List Float) (at count : ℕ) (part : List Float) : Type 0 where
  pub long : length part ≡ count
  pub same : (k : ℕ) → k < count → get_or part k nan ≡ get_or all (at + k) nan

pub first_part : (all : List Float) (count : ℕ) → count ≤ length all → Part all 0 count (take count all)
first_part all count h =
    record {
      long = length-take-le count all h;
      same = λ k l. get_or-take count all k nan l ∙ ap (λ (i : ℕ). get_or all i nan) (sym (zero-add k));
    }

pub later_part : (all : List Float) (at count : ℕ) {to : ℕ} → to ≡ at + count → to ≤ length all → Part all at count (take (to - at) (drop at all))
later_part all at count {to} e h =
    let few : to - at ≡ count = omega arith in
    let long : count ≤ length (drop at all) = omega (arith, length-drop at all) in
    rw few (
    record {
      long = length-take-le count (drop at all) long;
      same = λ k l. get_or-take count (drop at all) k nan l ∙ get_or-drop at all k nan;
    }
    )

pub insides_of : (t : Float) {all part : List Float} {count : ℕ} → Part all 0 count part
    → total (λ k. inside_bit t (get_or part k nan)) (length part) ≡ total (λ k. inside_bit t (get_or all k nan)) count
insides_of t {all} {part} {count} p =
    rw p.long (total_same _ _ count (λ k h. ap (inside_bit t) (p.same k h ∙ ap (λ (i : ℕ). get_or all i nan) (zero-add k))))

pub crossings_of : (t : Float) {a b from onto : List Float} {at to count : ℕ} → Part a at count from → Part b to count onto
    → crossing_sum t from 0 onto 0 (length from) ≡ crossing_sum t a at b to count
crossings_of t {a} {b} {from} {onto} {at} {to} {count} p q =
    rw p.long
    (total_same _ _ count
    (λ k h. ap₂ (crossing_bit t)
    (ap (λ (i : ℕ). get_or from i nan) (zero-add k) ∙ p.same k h)
    (ap (λ (i : ℕ). get_or onto i nan) (zero-add k) ∙ q.same k h)))
