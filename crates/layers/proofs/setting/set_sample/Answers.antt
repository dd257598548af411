-- `layers::setting::set_sample` meets its contract: a refusal leaves both lists; otherwise the sample is set and then the layers that hold it are made.
use Rattle.std.specs.Prelude.{Ok}
use Prim.Native.Nat.{◌-◌}
use mathlib.Core.Path.{◌≡◌, sym, ap, ◌∙◌}
use mathlib.Core.List.{List}
use mir.Syntax.{w32}
use mir.Facts.{to_z-of_z}
use lib.Ieee.{Float}
use lib.ListN.{length, set, length-set}
use Rattle.model.specs.declared.Xyz.{Xyz}
use Rattle.model.specs.Samples.{kind_of}
use Rattle.laws.specs.Exits.{handed_on}
use Rattle.layers.specs.Definition.{judge_own, point_up, place_up, judge_change, judge_setting, renewed, set_answer, set_sample}
use Rattle.layers.specs.Passing.{Own, own, Changeable, changeable, setting_by_own}
use Rattle.layers.proofs.setting.set_sample.Goals as goal
use Rattle.layers.proofs.setting.set_sample.Goals.{After-point_up-p, In_ok-judge_change}

pub returns-in_err-judge_own : goal.returns-in_err-judge_own
unfolding set_sample
returns-in_err-judge_own c =
    let a = c.args in
    let point = point_up a.n a.x a.y a.z in
    rw (handed_on _ _ c.from_residual.ensures.1) (sym
    (ap (set_answer a.n a.samples.now point a.value a.summary.now)
    (setting_by_own a.n point a.value (length a.summary.now) a.samples.now (sym c.judge_own.ensures ∙ c.in_err-judge_own.was))))

pub point_up-p-requires : goal.point_up-p-requires
point_up-p-requires c = (own c.args.n c.args.samples.now (sym c.judge_own.ensures ∙ c.in_ok-judge_own.was)).held.few

pub judge_change-requires : goal.judge_change-requires
judge_change-requires c = (own c.args.n c.args.samples.now (sym c.judge_own.ensures ∙ c.in_ok-judge_own.was)).held.few

-- a signed argument reaches the callee as its bits, and `to_z-of_z` reads the number back
point_is : (c : After-point_up-p) → c.point_up-p.result ≡ point_up c.args.n c.args.x c.args.y c.args.z
point_is c =
    rw (to_z-of_z {w = w32} c.ranges.z) at (rw (to_z-of_z {w = w32} c.ranges.y) at (rw (to_z-of_z {w = w32} c.ranges.x) at c.point_up-p.ensures))

pub returns-in_err-judge_change : goal.returns-in_err-judge_change
unfolding set_sample
returns-in_err-judge_change c =
    let a = c.args in
    let point = point_up a.n a.x a.y a.z in
    let refused =
    ap (λ (p : Xyz). judge_change a.n p a.value (length a.summary.now)) (sym (point_is (goal.at.returns-in_err-judge_change c).After-point_up-p))
    ∙ sym c.judge_change.ensures ∙ c.in_err-judge_change.was in
    rw (handed_on _ _ c.from_residual-in_err-judge_change.ensures.1) (sym
    (ap (set_answer a.n a.samples.now point a.value a.summary.now)
    (setting_by_own a.n point a.value (length a.summary.now) a.samples.now (sym c.judge_own.ensures ∙ c.in_ok-judge_own.was) ∙ refused)))

-- nothing is refused
module _ (c : In_ok-judge_change) where
  abbrev point : Xyz
  point = point_up c.args.n c.args.x c.args.y c.args.z

  abbrev samples : List Float
  samples = c.args.samples.now

  abbrev summary : List Float
  summary = c.args.summary.now

  own_passed : judge_own c.args.n samples ≡ Ok tt
  own_passed = sym c.judge_own.ensures ∙ c.in_ok-judge_own.was

  is_own : Own c.args.n samples
  is_own = own c.args.n samples own_passed

  point_same : c.point_up-p.result ≡ point
  point_same =
      rw (to_z-of_z {w = w32} c.ranges.z) at (rw (to_z-of_z {w = w32} c.ranges.y) at (rw (to_z-of_z {w = w32} c.ranges.x) at c.point_up-p.ensures))

  change_passed : judge_change c.args.n c.point_up-p.result c.args.value (length summary) ≡ Ok tt
  change_passed = sym c.judge_change.ensures ∙ c.in_ok-judge_change.was

  is_changeable : Changeable c.args.n c.point_up-p.result c.args.value (length summary)
  is_changeable = changeable c.args.n c.point_up-p.result c.args.value (length summary) change_passed

  passed : judge_setting c.args.n samples point c.args.value (length summary) ≡ Ok tt
  passed =
      setting_by_own c.args.n point c.args.value (length summary) samples own_passed
      ∙ ap (λ (p : Xyz). judge_change c.args.n p c.args.value (length summary)) (sym point_same) ∙ change_passed

pub put_sample-requires : goal.put_sample-requires
put_sample-requires c =
    let agreed = (goal.at.put_sample-requires c).In_ok-judge_change in
    ((is_own agreed).held, (is_changeable agreed).was_sampled)

pub renew-requires : goal.renew-requires
renew-requires c =
    let agreed = (goal.at.renew-requires c).In_ok-judge_change in
    let held = (is_own agreed).held in
    let as_long =
    ap length c.put_sample.ensures ∙ length-set (samples agreed) (place_up c.args.n c.point_up-p.result) c.args.value in
    (record { few = held.few; long = as_long ∙ held.long }, ((is_changeable agreed).was_sampled, (is_changeable agreed).fits))

pub returns : goal.returns
unfolding set_sample
returns c =
    let agreed = (goal.at.returns c).In_ok-judge_change in
    let n = c.args.n in
    let p = point_same agreed in
    let set_so =
    c.put_sample.ensures ∙ ap (λ (p : Xyz). set (samples agreed) (place_up n p) c.args.value) p in
    let renewed_so =
    c.renew.ensures ∙ (λ i. renewed (kind_of n (p i).x (p i).y (p i).z) n (set_so i) ((p i).x - 1) (summary agreed)) in
    (λ i. record { answer = Ok tt; samples = set_so i; summary = renewed_so i })
    ∙ sym (ap (set_answer n (samples agreed) (point agreed) c.args.value (summary agreed)) (passed agreed))
