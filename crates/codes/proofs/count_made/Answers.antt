-- `count_made` meets its contract: the codes of a front that pass are counted one by one. Assumes nothing.
use Prim.Native.Nat.{ℕ, zero, suc, ◌+◌, ◌≤◌, ◌<◌}
use mathlib.Core.Path.{◌≡◌, refl, ap, ◌∙◌}
use mathlib.Core.Bool.{Bool, true, false, cond}
use mathlib.Core.List.{List}
use native.Mathlib.Omega.{arith}
use Rattle.std.proofs.Common.{add-zero}
use Rattle.std.proofs.Math.Numerals.{add-one}
use lib.ListN.{length, get_or, take, length-take}
use borrow.Author.Rules.{rules}
use Rattle.std.specs.Prelude.{count_by}
use Rattle.std.proofs.lemmas.List.Sums.{count_by_more_yes, count_by_more_no, count_by-le-length}
use Rattle.laws.specs.Steps.{total}
use Rattle.codes.specs.Kinds.{makes_at}
use Rattle.codes.proofs.count_made.Goals as goal

-- one more code is counted
more : (p : ℕ → Bool) (codes : List ℕ) (k : ℕ) → k < length codes → (b : Bool) → p (get_or codes k 0) ≡ b
    → count_by p (take (k + 1) codes) ≡ count_by p (take k codes) + cond b 1 0
more p codes k h true e = count_by_more_yes p codes k 0 h e
more p codes k h false e = rw add-zero (count_by_more_no p codes k 0 h e)

counted : (p : ℕ → Bool) (codes : List ℕ) (k : ℕ) → k ≤ length codes
    → count_by p (take k codes) ≡ total (λ i. cond (p (get_or codes i 0)) 1 0) k
counted p codes zero h = refl
counted p codes (suc k) h =
    rw add-one at (more p codes k (omega arith) (p (get_or codes k 0)) refl)
    ∙ ap (λ (n : ℕ). n + cond (p (get_or codes k 0)) 1 0) (counted p codes k (omega arith))

pub returns : goal.returns
returns c =
    let a = c.args in
    let front = take a.count a.codes.now in
    let is : c.count.result ≡ count_by (makes_at a.at) front = search rules in
    (is ∙ counted (makes_at a.at) a.codes.now a.count c.requires, omega (arith, is, count_by-le-length (makes_at a.at) front, length-take a.count a.codes.now))
