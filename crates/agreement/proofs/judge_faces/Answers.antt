-- `judge_faces` meets its contract. The invariants: nothing is found yet, and no side, row or point passed over differs. The
-- places that the steps lead to are those of the face's points, so that the samples read there are the ones that the model compares.
use Rattle.std.specs.Prelude.{Err, Ok}
use Prim.Native.Nat.{ℕ, ◌+◌, ◌*◌, ◌≤◌}
use mathlib.Core.Path.{◌≡◌, refl}
use mathlib.Core.Bool.{Bool}
use native.Mathlib.Omega.{arith}
use lib.Ieee.{nan}
use lib.ListN.{get_or}
use Rattle.std.specs.Bool.{beq}
use Rattle.model.specs.Formulas.{inside}
use Rattle.model.specs.Star.{Star, lent_star, subdivisions}
use Rattle.model.specs.declared.Refusal.TheVariants.{FaceMismatch}
use Rattle.model.specs.Answers.{Verdict}
use Rattle.grid.specs.RotationLaws.{OnFace}
use Rattle.grid.specs.Walks.{side_place, spot_in}
use Rattle.judge.specs.First.{not_yet, hit}
use Rattle.judge.specs.NamedSides.{set_out, given, gone_past, ended, refused_at}
use Rattle.agreement.specs.Faces.{coarse_on, fine_on, places_agree, pair_agrees, pair_spot, pair_row, pair_rows, pair_face, face_by_face}
use Rattle.agreement.proofs.Walked.{row_led, row_at, spot_led, spot_at}
use Rattle.agreement.proofs.judge_faces.Goals as goal
use Rattle.agreement.proofs.judge_faces.Goals.{After-along-fine_at, In-loop-u, After-neighbour-fine}

-- the search's test of a side, over the whole entry
abbrev face : Star → ℕ → Verdict
face s = pair_face (subdivisions s) s.mask s.threshold s.centre s.neighbours

-- what the search finds in a side's face is what it finds in its rows
face_is : (c : After-neighbour-fine) {v : Verdict}
    → pair_rows c.args.lent.now.header.block.subdivisions c.args.lent.now.header.threshold c.args.lent.now.centre.now c.neighbour-fine.result.now c.in-Some.side (c.args.lent.now.header.block.subdivisions + 1) ≡ v
    → face (lent_star c.args.lent.now) c.in-Some.side ≡ v
face_is c e = rw (← c.neighbour-fine.ensures.0) e

-- a row's points are on the face
row_on : (c : In-loop-u) → {v : ℕ} → v ≤ c.args.lent.now.header.block.subdivisions
    → OnFace c.args.lent.now.header.block.subdivisions c.in-Some.side c.loop-u.u v
row_on c hv = record { few = c.requires.few; side_is = c.in-Some.ensures.steps.0.1; u_in = omega (arith, c.loop-u-test.true); v_in = hv }

-- ---- a point of a row, and whether the samples at its two places agree

module _ (p : After-along-fine_at) where
  abbrev n : ℕ
  n = p.args.lent.now.header.block.subdivisions

  abbrev side : ℕ
  side = p.in-Some.side

  abbrev u : ℕ
  u = p.loop-u.u

  abbrev v : ℕ
  v = p.loop-v.v

  abbrev spots : ℕ → ℕ → Verdict
  spots = pair_spot n p.args.lent.now.header.threshold p.args.lent.now.centre.now p.neighbour-fine.result.now side

  abbrev rows : ℕ → ℕ → Verdict
  rows = pair_row n p.args.lent.now.header.threshold p.args.lent.now.centre.now p.neighbour-fine.result.now side

  point_on : {j : ℕ} → j ≤ n → OnFace n side u j
  point_on hj = record { few = p.requires.few; side_is = p.in-Some.ensures.steps.0.1; u_in = omega (arith, p.loop-u-test.true); v_in = hj }

  on : OnFace n side u v
  on = point_on (omega (arith, p.loop-v-test.true))

  coarse_at : p.along-coarse_at.result ≡ side_place n side 0 u v
  coarse_at =
      spot_at (coarse_on on) p.face_walk-coarse_walk.ensures
      (row_at (coarse_on (point_on {j = 0} (omega arith))) p.face_walk-coarse_walk.ensures p.along-coarse_row.ensures) p.along-coarse_at.ensures

  fine_at : p.along-fine_at.result ≡ side_place (2 * n) side (2 * n) (2 * u) (2 * v)
  fine_at =
      spot_at (fine_on on) p.face_walk-fine_walk.ensures
      (row_at (fine_on (point_on {j = 0} (omega arith))) p.face_walk-fine_walk.ensures p.along-fine_row.ensures) p.along-fine_at.ensures

  agree_is : (agrees : Bool)
      → agrees
      ≡ beq (inside p.args.lent.now.header.threshold (get_or p.args.lent.now.centre.now p.along-coarse_at.result nan))
      (inside p.args.lent.now.header.threshold (get_or p.neighbour-fine.result.now p.along-fine_at.result nan))
      → agrees ≡ pair_agrees n p.args.lent.now.header.threshold p.args.lent.now.centre.now p.neighbour-fine.result.now side u v
  agree_is agrees e = places_agree n p.args.lent.now.header.threshold p.args.lent.now.centre.now p.neighbour-fine.result.now side on coarse_at fine_at e

-- ---- the goals

pub search-init : goal.search-init
search-init c = (refl, set_out _ _ (cc) (cc))

pub neighbour-fine-requires : goal.neighbour-fine-requires
neighbour-fine-requires c =
    let pre = c.requires in
    let inside = c.in-Some.ensures.steps.0.1 in
    record {
      few = pre.few;
      sides = pre.sides;
      side_is = inside;
      is_named = (given _ _ c.search.invariant.1 c.in-Some.ensures.steps).is_named inside;
      neighbours_are = pre.neighbours_are;
    }

pub along-coarse_row-requires : goal.along-coarse_row-requires
along-coarse_row-requires c =
    row_led (coarse_on (row_on (goal.at.along-coarse_row-requires c).In-loop-u {v = 0} (omega arith))) c.face_walk-coarse_walk.ensures

pub along-fine_row-requires : goal.along-fine_row-requires
along-fine_row-requires c =
    row_led (fine_on (row_on (goal.at.along-fine_row-requires c).In-loop-u {v = 0} (omega arith))) c.face_walk-fine_walk.ensures

pub along-coarse_at-requires : goal.along-coarse_at-requires
along-coarse_at-requires c =
    let r = (goal.at.along-coarse_at-requires c).In-loop-u in
    spot_led (coarse_on (row_on r {v = c.loop-v.v} (omega arith))) c.face_walk-coarse_walk.ensures
    (row_at (coarse_on (row_on r {v = 0} (omega arith))) c.face_walk-coarse_walk.ensures c.along-coarse_row.ensures)

pub along-fine_at-requires : goal.along-fine_at-requires
along-fine_at-requires c =
    let r = (goal.at.along-fine_at-requires c).In-loop-u in
    spot_led (fine_on (row_on r {v = c.loop-v.v} (omega arith))) c.face_walk-fine_walk.ensures
    (row_at (fine_on (row_on r {v = 0} (omega arith))) c.face_walk-fine_walk.ensures c.along-fine_row.ensures)

pub samples_agree-requires : goal.samples_agree-requires
samples_agree-requires c =
    let p = (goal.at.samples_agree-requires c).After-along-fine_at in
    let here = spot_in (n p) (side p) 0 (u p) (v p) (coarse_on (on p)) in
    let there = spot_in (2 * n p) (side p) (2 * n p) (2 * u p) (2 * v p) (fine_on (on p)) in (
      omega (arith, coarse_at p, here, c.requires.centre_is),
      omega (arith, fine_at p, there, c.neighbour-fine.ensures.1),
    )

pub loop-v-preserved : goal.loop-v-preserved
loop-v-preserved c =
    let p = (goal.at.loop-v-preserved c).After-along-fine_at in
    let turn = c.loop-v in
    let here : spots p (u p) turn.v ≡ Ok tt =
    rw (← agree_is p c.samples_agree.result c.samples_agree.ensures, c.if-not-samples_agree.false) in
    (omega arith, turn.invariant.1, not_yet (spots p (u p)) turn.v turn.invariant.2 here)

pub loop-u-preserved : goal.loop-u-preserved
loop-u-preserved c =
    let n = c.args.lent.now.header.block.subdivisions in
    let rows = pair_row n c.args.lent.now.header.threshold c.args.lent.now.centre.now c.neighbour-fine.result.now c.in-Some.side in
    let turn = c.loop-u in
    let inner = c.loop-v in
    let end : inner.v ≡ n + 1 = omega arith in
    let here : rows turn.u (n + 1) ≡ Ok tt = rw end at inner.invariant.2 in
    (omega arith, inner.invariant.1, not_yet (λ u. rows u (n + 1)) turn.u turn.invariant.2 here)

pub search-preserved : goal.search-preserved
search-preserved c =
    let inner = c.loop-u in
    let end : inner.u ≡ c.args.lent.now.header.block.subdivisions + 1 = omega arith in (
      inner.invariant.1,
      gone_past c.args.lent.now.header.mask (face (lent_star c.args.lent.now)) c.search.invariant.1 c.in-Some.ensures.steps
          (face_is (goal.at.search-preserved c).After-neighbour-fine (rw end at inner.invariant.2)),
    )

pub returns-in-None : goal.returns-in-None
returns-in-None c =
    let faces = face (lent_star c.args.lent.now) in
    rw (c.search.invariant.0, face_by_face, ended c.args.lent.now.header.mask faces c.search.invariant.1 c.in-None.ensures.steps)

pub returns-then-not-samples_agree : goal.returns-then-not-samples_agree
returns-then-not-samples_agree c =
    let at = goal.at.returns-then-not-samples_agree c in
    let p = at.After-along-fine_at in
    let faces = face (lent_star c.args.lent.now) in
    let at_spot = FaceMismatch (record { side = side p; u = u p; v = v p }) in
    let spot_hit : spots p (u p) (v p) ≡ Err at_spot =
    rw (← agree_is p c.samples_agree.result c.samples_agree.ensures, c.if-not-samples_agree.true) in
    let row_hit : rows p (u p) (n p + 1) ≡ Err at_spot =
    hit (spots p (u p)) (v p) (n p + 1) at_spot c.loop-v.invariant.2 spot_hit (omega arith) in
    let rows_hit = hit (λ u. rows p u (n p + 1)) (u p) (n p + 1) at_spot c.loop-u.invariant.2 row_hit (omega arith) in
    let steps = c.in-Some.ensures.steps in
    rw (
      face_by_face,
      refused_at c.args.lent.now.header.mask faces (given c.args.lent.now.header.mask faces c.search.invariant.1 steps) steps.0.1
          (face_is at.After-neighbour-fine rows_hit),
    )
