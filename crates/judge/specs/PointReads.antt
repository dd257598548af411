-- Document 01, 'Answers by number': 1 before 4 in the point read, and what is known of a block that both let pass.
use Rattle.std.specs.Prelude.{ℕ, ◌≤◌, ◌<◌, ◌≡◌, leb, Ok}
use Rattle.std.proofs.Math.Bool.{and-false, and-eq-true_iff}
use Rattle.std.proofs.Common.{leb-true, eqb-true}
use Rattle.std.proofs.lemmas.Bool.{lt-leb}
use Rattle.model.specs.Limits.{most_subdivisions}
use Rattle.model.specs.declared.Refusal.TheVariants.{Subdivisions, CentreLength}
use Rattle.model.specs.Samples.{sample_length}
use Rattle.model.specs.Refusals.{or_else}
use Rattle.model.specs.Judging.{judge_subdivisions, judge_centre}
use Rattle.judge.specs.First.{both_passed, unless_passed}

module _ (n held : ℕ) where
  -- 1 is met above the limit, whatever the length
  pub too_many : most_subdivisions < n → judge_subdivisions n ≡ or_else (judge_subdivisions n) (judge_centre n held)
  too_many h = rw (lt-leb n most_subdivisions h, and-false (leb 1 n))

  pub record Read : Type 0 where
    pub few : n ≤ most_subdivisions
    pub held_is : held ≡ sample_length n

  pub read_passed : or_else (judge_subdivisions n) (judge_centre n held) ≡ Ok tt → Read
  read_passed e =
      let parts = both_passed (judge_subdivisions n) (judge_centre n held) e in
      let range = (and-eq-true_iff (leb 1 n) (leb n most_subdivisions)).0 (unless_passed _ (Subdivisions n) parts.0) in
      record {
        few = leb-true n most_subdivisions range.1;
        held_is = eqb-true held (sample_length n) (unless_passed _ (CentreLength (sample_length n)) parts.1);
      }
