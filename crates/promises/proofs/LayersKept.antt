-- What was promised of summaries by layer holds: the two calls are judged by their judges in order, what they leave is read off place by place, and a layer
-- passed over makes nothing since none of its cells is cut; one on one side has its least sample there, and its greatest.
use Rattle.std.specs.Prelude.{ℕ, ◌+◌, ◌-◌, ◌*◌, ◌/◌, ◌%◌, ◌≤◌, ◌<◌, ◌⊎◌, Bool, cond, ◌||◌, List, eqb, ℤ, pos, negsuc, Float, length, get_or, set, Err, Ok}
use Rattle.std.proofs.Common.{zero-le, div-add-mod', add-mul, mul_assoc, mul_comm, mod-lt, div-lt_iff_lt-mul, arith, ◌∙◌, inl, inr, ⊎_elim, eqb-true, length-set, get_or-set_same, get_or-set_other}
use Rattle.std.proofs.Math.Nat.{div-div-eq-div-mul}
use Rattle.std.proofs.Math.Path.{◌≡◌, refl, sym, ap, subst}
use Rattle.std.proofs.Math.Bool.{true, false}
use Rattle.std.proofs.lemmas.Bool.{false≢true}
use Rattle.std.specs.Float.{nan}
use Rattle.std.specs.Float.Ieee.{lt, eq}
use Rattle.laws.specs.Tests.{neither}
use Rattle.model.specs.declared.Xyz.{Xyz}
use Rattle.model.specs.declared.Refusal.{Refusal}
use Rattle.model.specs.declared.Refusal.TheVariants.{BadSample, LayerDiffers}
use Rattle.model.specs.declared.PlaceKind.{PlaceKind}
use Rattle.model.specs.declared.PlaceKind.TheVariants.{InBlock, Face}
use Rattle.model.specs.Answers.{Verdict}
use Rattle.model.specs.Samples.{one_up}
use Rattle.model.specs.Formulas.{inside}
use Rattle.model.specs.Refusals.{unless, first}
use Rattle.model.specs.Star.{Star, subdivisions}
use Rattle.model.specs.Points.{regular_case}
use Rattle.model.specs.Judging.{usable, judge_star}
use Rattle.model.specs.Layers.{layer_count, layer_sample, best_of, less, more, layer_extent, summary_length, entry_of, marked, agree, layer_stands, judge_layers, passed_over}
use Rattle.grid.specs.Places.{place_in}
use Rattle.judge.specs.First.{or_else_assoc, or_else_passed, each_passed, found, unless_passed}
use Rattle.cases.specs.Marks.{all_regular, uncut}
use Rattle.layers.specs.Definition.{judge_own, layers_made, judge_making, make_answer, make_summary, point_up, place_up, judge_change, judge_setting, renewed, set_answer, set_sample}
use Rattle.layers.specs.Order.{eq_le, eq_ge, le_not}
use Rattle.layers.specs.Passing.{own, makeable, Changeable, changeable, setting_passed, set_own}
use Rattle.layers.specs.Places.{in_layer, in_layer_lem, layer_has, is_stored}
use Rattle.layers.specs.Made.{as_long, made_in, place_stays}
use Rattle.layers.specs.OneSided.{least_is, greatest_is, is_over, not_cut}
use Rattle.layers.specs.Over.{Trusted, threshold_number, trusted}
use Rattle.layers.specs.Layered.{layer_nothing}
use Rattle.layers.specs.Holding.{in_or_apart}
use Rattle.layers.specs.Setting.{all_stand, each_stands, fresh_stands, touched, untouched, made_beyond, made_long, stands_after}
use Rattle.promises.specs.Orders.{in_order, Numbered, Judged}
use Rattle.promises.proofs.Judges.{◌&◌, judged, by_unless, subdivisions_number, centre_number, samples_number, point_number, buffer_number}
use Rattle.promises.specs.Points.{point_kind}
use Rattle.promises.specs.PlaceKinds.{In, AllIn, Stands}
use Rattle.promises.proofs.PlaceKindsKept.{stands_so, stands}
use Rattle.promises.specs.Layers.{making_judges, setting_judges, LayerNumbers, SummaryMade, InLayer, SampleSet, DiffersFirst, MakesNothing, LayerPromises}

-- ---- making

module _ (n : ℕ) (samples summary : List Float) where
  making_in_order : in_order (making_judges n samples summary) ≡ judge_making n samples (length summary)
  unfolding judge_making judge_own
  making_in_order = simp (or_else_assoc, or_else_passed)

  making_numbered : Numbered (making_judges n samples summary)
  making_numbered =
      subdivisions_number n & centre_number n (length samples) & samples_number samples & buffer_number (summary_length n) (length summary) & tt

  making : Judged (making_judges n samples summary) (λ r. (make_summary n samples summary).answer ≡ Err r) ((make_summary n samples summary).answer ≡ Ok tt)
  unfolding make_summary
  making =
      judged Err (Ok tt) (λ v. (make_answer n samples summary v).answer) refl (λ r. refl) (λ q r e. cc) (λ r e. e) _ _ making_in_order making_numbered

  making_untouched : (r : Refusal) → (make_summary n samples summary).answer ≡ Err r → (make_summary n samples summary).summary ≡ summary
  unfolding make_summary
  making_untouched r e = ap (λ (v : Verdict). (make_answer n samples summary v).summary) (sym making_in_order ∙ (making.refused_by_first r).0 e)

  -- what was made
  module _ (e : (make_summary n samples summary).answer ≡ Ok tt) where
    passed : judge_making n samples (length summary) ≡ Ok tt
    passed = sym making_in_order ∙ making.accepted_by_all.0 e

    left : (make_summary n samples summary).summary ≡ layers_made n samples 0 n summary
    unfolding make_summary
    left = ap (λ (v : Verdict). (make_answer n samples summary v).summary) passed

    made : SummaryMade n samples summary (make_summary n samples summary).summary
    made =
        let m = makeable n samples (length summary) passed in
        let o = m.own_is in
        let layers : (x : ℕ) → x < n → entry_of (layers_made n samples 0 n summary) x ≡ layer_extent n samples x =
        λ x h. made_in n samples 0 n summary zero-le m.fits x zero-le h in
        subst (SummaryMade n samples summary) (sym left)
        (record {
          layers = layers;
          beyond = λ k h. place_stays n samples 0 n summary zero-le m.fits k (inr h);
          as_long = as_long n samples 0 n summary zero-le m.fits;
          passes = all_stand n samples (layers_made n samples 0 n summary)
              (λ x h. fresh_stands n samples o.held o.numbers (layers_made n samples 0 n summary) x h (layers x h));
        })

-- ---- setting

-- the plane of a coordinate in 0..n
record Plane (n : ℕ) (c : ℤ) : Type 0 where
  at : ℕ
  is : c ≡ pos at
  in_range : at ≤ n
  taken_down : one_up n c - 1 ≡ at

plane_of : (n : ℕ) (c : ℤ) → In n c → Plane n c
unfolding one_up
plane_of n (pos c) h = record { at = c; is = refl; in_range = h; taken_down = omega arith }
plane_of n (negsuc c) h = absurd h

module _ (n : ℕ) (samples : List Float) (x y z : ℤ) (value : Float) (summary : List Float) where
  abbrev p : Xyz
  p = point_up n x y z

  setting_in_order : in_order (setting_judges n samples x y z value summary) ≡ judge_setting n samples p value (length summary)
  unfolding judge_setting judge_own judge_change
  setting_in_order = simp (or_else_assoc, or_else_passed)

  setting_numbered : Numbered (setting_judges n samples x y z value summary)
  setting_numbered =
      subdivisions_number n & centre_number n (length samples) & samples_number samples & point_number n x y z &
      by_unless (usable value) (BadSample (place_up n p)) & buffer_number (summary_length n) (length summary) & tt

  setting : Judged (setting_judges n samples x y z value summary) (λ r. (set_sample n samples x y z value summary).answer ≡ Err r)
      ((set_sample n samples x y z value summary).answer ≡ Ok tt)
  unfolding set_sample
  setting =
      judged Err (Ok tt) (λ v. (set_answer n samples p value summary v).answer) refl (λ r. refl) (λ q r e. cc) (λ r e. e) _ _ setting_in_order
      setting_numbered

  setting_untouched : (r : Refusal) → (set_sample n samples x y z value summary).answer ≡ Err r
      → ((set_sample n samples x y z value summary).samples ≡ samples) × ((set_sample n samples x y z value summary).summary ≡ summary)
  unfolding set_sample
  setting_untouched r e =
      let refused = sym setting_in_order ∙ (setting.refused_by_first r).0 e in (
        ap (λ (v : Verdict). (set_answer n samples p value summary v).samples) refused,
        ap (λ (v : Verdict). (set_answer n samples p value summary v).summary) refused,
      )

  -- what was set
  module _ (e : (set_sample n samples x y z value summary).answer ≡ Ok tt) where
    was_passed : judge_setting n samples p value (length summary) ≡ Ok tt
    was_passed = sym setting_in_order ∙ setting.accepted_by_all.0 e

    abbrev after : List Float
    after = set samples (place_up n p) value

    abbrev summary_after : List Float
    summary_after = renewed (point_kind n x y z) n after (one_up n x - 1) summary

    change : Changeable n p value (length summary)
    change = changeable n p value (length summary) (setting_passed n p value (length summary) samples was_passed).1

    own_before : judge_own n samples ≡ Ok tt
    own_before = (setting_passed n p value (length summary) samples was_passed).0

    place_there : place_up n p < length samples
    place_there =
        let inside = place_in n (one_up n x) (one_up n y) (one_up n z) change.was_sampled in
        omega (arith, inside, (own n samples own_before).held.long)

    own_after : judge_own n after ≡ Ok tt
    own_after = set_own samples (place_up n p) value place_there change.is_usable n own_before

    stand : (layer : ℕ) → layer < n → layer_stands n samples summary layer ≡ true → layer_stands n after summary_after layer ≡ true
    stand =
        let o = own n after own_after in
        stands_after n p samples value summary change.fits (point_kind n x y z) (is_stored n p change.was_sampled) o.held o.numbers

    -- by the kind of the point's store
    record Renewed : Type 0 where
      fresh : (layer : ℕ) → layer < n → InLayer n x y z layer → entry_of summary_after layer ≡ layer_extent n after layer
      stays : (layer : ℕ) → (InLayer n x y z layer → ⊥) → entry_of summary_after layer ≡ entry_of summary layer
      beyond : (k : ℕ) → summary_length n ≤ k → get_or summary_after k nan ≡ get_or summary k nan
      long : length summary_after ≡ length summary

    module _ (all : AllIn n x y z) (is : point_kind n x y z ≡ InBlock) where
      in_plane : Plane n x
      in_plane = plane_of n x all.x_in

      abbrev at : ℕ
      at = one_up n x - 1

      at_in : at ≤ n
      at_in = omega (arith, in_plane.taken_down, in_plane.in_range)

      as_made : summary_after ≡ renewed InBlock n after at summary
      as_made = ap (λ (k : PlaceKind). renewed k n after at summary) is

      -- a coordinate and the plane that it is
      same_plane : {k : ℕ} → x ≡ pos k → at ≡ k
      same_plane {k} same = let e : pos in_plane.at ≡ pos k = sym in_plane.is ∙ same in let k-is : in_plane.at ≡ k = cc in in_plane.taken_down ∙ k-is

      its_plane : {k : ℕ} → at ≡ k → x ≡ pos k
      its_plane same = in_plane.is ∙ ap pos (sym in_plane.taken_down ∙ same)

      renewed_in_block : Renewed
      renewed_in_block =
          record {
            fresh = λ layer h held.
                ap (λ (s : List Float). entry_of s layer) as_made
                ∙ touched n p samples value summary change.fits at_in layer h (⊎_elim (λ e. inl (same_plane e)) (λ e. inr (same_plane e)) held.in_plane);
            stays = λ layer none.
                ap (λ (s : List Float). entry_of s layer) as_made
                ∙ untouched n p samples value summary change.fits at_in layer
                (in_or_apart n at layer
                (λ held. absurd (none (record { in_block = all; in_plane = ⊎_elim (λ e. inl (its_plane e)) (λ e. inr (its_plane e)) held })))
                (λ apart. apart));
            beyond = λ k h.
                ap (λ (s : List Float). get_or s k nan) as_made ∙ made_beyond n p samples value summary change.fits at_in k h;
            long = ap length as_made ∙ made_long n p samples value summary change.fits at_in;
          }

    on_face_stays : (face : ℕ) → point_kind n x y z ≡ Face face → summary_after ≡ summary
    on_face_stays face is = ap (λ (k : PlaceKind). renewed k n after (one_up n x - 1) summary) is

    not_in_block : (face layer : ℕ) → point_kind n x y z ≡ Face face → InLayer n x y z layer → ⊥
    not_in_block face layer is held =
        let both : Face face ≡ InBlock = sym is ∙ stands_so n x y z InBlock held.in_block in
        let z : ◌≡◌ {A = ℕ} 0 1 = cc in
        omega arith

    renewed_so : Renewed
    renewed_so = go (point_kind n x y z) refl (stands n x y z change.was_sampled)
      where
        go : (k : PlaceKind) → point_kind n x y z ≡ k → Stands n x y z k → Renewed
        go InBlock is all = renewed_in_block all is
        go (Face face) is s =
            let same = on_face_stays face is in
            record {
              fresh = λ layer h held. absurd (not_in_block face layer is held);
              stays = λ layer none. ap (λ (s : List Float). entry_of s layer) same;
              beyond = λ k h. ap (λ (s : List Float). get_or s k nan) same;
              long = ap length same;
            }

    sample_set : SampleSet n samples x y z value summary after summary_after
    sample_set =
        let r = renewed_so in
        record {
          sample = get_or-set_same samples (place_up n p) value nan place_there;
          others = λ k other. get_or-set_other samples (place_up n p) k value nan other;
          touched = r.fresh;
          untouched = r.stays;
          beyond = r.beyond;
          on_face_lem = λ face s. on_face_stays face (stands_so n x y z (Face face) s);
          as_long = (length-set samples (place_up n p) value, r.long);
          own = own_after;
          passes = λ stood. all_stand n after summary_after (λ layer h. stand layer h (each_stands n samples summary stood layer h));
        }

    set_left : let o = set_sample n samples x y z value summary in (o.samples ≡ after) × (o.summary ≡ summary_after)
    unfolding set_sample
    set_left = (
      ap (λ (v : Verdict). (set_answer n samples p value summary v).samples) was_passed,
      ap (λ (v : Verdict). (set_answer n samples p value summary v).summary) was_passed,
    )

    was_set : let o = set_sample n samples x y z value summary in SampleSet n samples x y z value summary o.samples o.summary
    was_set = rw (set_left.0, set_left.1) sample_set

-- ---- a layer's numbers

-- the point of sample k
module _ (n k : ℕ) (h : k < layer_count n) where
  abbrev m : ℕ
  m = n + 1

  abbrev above : ℕ
  above = k / (m * m)

  one_above : above ≤ 1
  one_above =
      let some : 0 < m * m = omega (arith, h) in
      let few : above < 2 = (div-lt_iff_lt-mul some).1 h in
      omega arith

  within_plane : (j : ℕ) → j % m ≤ n
  within_plane j =
      let some : 0 < m = omega arith in
      omega (arith, mod-lt j some)

  as_point : in_layer n above (k / m % m) (k % m) ≡ k
  as_point =
      let row = div-add-mod' k m in
      let column = div-add-mod' (k / m) m in
      let planes : k / m / m ≡ above = div-div-eq-div-mul k m m in
      let apart = add-mul (k / m / m * m) (k / m % m) m in
      omega (
        arith,
        row,
        ap (λ (j : ℕ). j * m) column,
        apart,
        mul_assoc (k / m / m) m m,
        ap (λ (j : ℕ). j * (m * m)) planes,
        mul_comm above (m * m),
        mul_comm (k / m % m) m,
      )

numbers : LayerNumbers
unfolding lt eq
numbers =
    record {
      in_order_lem = λ n x samples k hx h.
          ap (layer_sample n samples x) (sym (as_point n k h))
          ∙ sym (layer_has n x (k / ((n + 1) * (n + 1))) (k / (n + 1) % (n + 1)) (k % (n + 1)) (one_above n k h) (within_plane n k h (k / (n + 1)))
          (within_plane n k h k) hx samples);
      points = λ n x a y z samples hx ha hy hz. (in_layer_lem n x a y z ha hy hz, layer_has n x a y z ha hy hz hx samples);
      least = λ n samples x e h.
          let o = own n samples e in
          let b = least_is n samples o.held o.numbers x h in
          record { at = b.at; within = b.within; is = b.is; none_less = b.none_beats; first = b.first };
      greatest = λ n samples x e h.
          let o = own n samples e in
          let b = greatest_is n samples o.held o.numbers x h in
          record { at = b.at; within = b.within; is = b.is; none_more = b.none_beats; first = b.first };
      zeros = refl;
      equals = equals;
    }
  where
    equals : (f : ℕ → Float) → eq (f 0) (f 1) ≡ true → (best_of less f 2 ≡ f 0) × (best_of more f 2 ≡ f 0)
    equals f e = (kept less (le_not (f 0) (f 1) (eq_le (f 0) (f 1) e)), kept more (le_not (f 1) (f 0) (eq_ge (f 0) (f 1) e)))
      where
        alone : (beats : Float → Float → Bool) → best_of beats f 1 ≡ f 0
        alone beats = go (beats (f 0) (f 0))
          where
            go : (b : Bool) → cond b (f 0) (f 0) ≡ f 0
            go true = refl
            go false = refl

        kept : (beats : Float → Float → Bool) → beats (f 1) (f 0) ≡ false → best_of beats f 2 ≡ f 0
        kept beats loses = ap (λ (best : Float). cond (beats (f 1) best) (f 1) best) (alone beats) ∙ ap (λ (b : Bool). cond b (f 1) (f 0)) loses

-- ---- 26

module _ (n : ℕ) (samples summary : List Float) where
  abbrev spot : ℕ → Verdict
  spot x = unless (layer_stands n samples summary x) (LayerDiffers x)

  differs_first : (layer : ℕ) → judge_layers n samples summary ≡ Err (LayerDiffers layer) → DiffersFirst n samples summary layer
  unfolding judge_layers
  differs_first layer e =
      let w = found spot n (LayerDiffers layer) e in
      go w.0 w.1 w.2 (layer_stands n samples summary w.0) refl w.3
    where
      go : (k : ℕ) → k < n → first spot k ≡ Ok tt → (b : Bool) → layer_stands n samples summary k ≡ b → unless b (LayerDiffers k) ≡ Err (LayerDiffers layer)
          → DiffersFirst n samples summary layer
      go k l before true stood e = absurd (let z : ◌≡◌ {A = ℕ} 0 1 = cc in omega arith)
      go k l before false stood e =
          let same : k ≡ layer = cc in
          subst (DiffersFirst n samples summary) same
          (let parts = neither (marked (entry_of summary k)) (agree (entry_of summary k) (layer_extent n samples k)) stood in
          record {
            within = l;
            unmarked = parts.0;
            differs = parts.1;
            before = λ x h. unless_passed _ (LayerDiffers x) (each_passed spot k x before h);
          })

-- ---- layers passed over

module _ (s : Star) (summary : List Float) (x : ℕ) (passed : judge_star s ≡ Ok tt) (right : judge_layers (subdivisions s) s.centre summary ≡ Ok tt)
    (hx : x < subdivisions s) (over : passed_over s.threshold summary x ≡ true) where
  right_there : Trusted (subdivisions s) s.centre summary
  right_there = trusted s passed summary right

  cut_nowhere : (y z : ℕ) → y < subdivisions s → z < subdivisions s → uncut (regular_case s x y z) all_regular ≡ true
  cut_nowhere y z hy hz = not_cut s x y z hx hy hz right_there.held right_there.numbers summary (right_there.stands x hx) over

  case_is : (case : ℕ) → uncut case all_regular ≡ true → (case ≡ 0) ⊎ (case ≡ all_regular)
  case_is case e = go (eqb case 0) (eqb case all_regular) refl refl e
    where
      go : (a b : Bool) → eqb case 0 ≡ a → eqb case all_regular ≡ b → a || b ≡ true → (case ≡ 0) ⊎ (case ≡ all_regular)
      go true b is_none is_all e = inl (eqb-true case 0 is_none)
      go false true is_none is_all e = inr (eqb-true case all_regular is_all)
      go false false is_none is_all e = absurd (false≢true e)

  makes_nothing : MakesNothing s x
  makes_nothing =
      record {
        cases = λ y z hy hz. case_is (regular_case s x y z) (cut_nowhere y z hy hz);
        step = layer_nothing s summary right_there x hx over;
      }

all_over : (s : Star) (summary : List Float) (x : ℕ) (b : Bool) → judge_star s ≡ Ok tt
    → judge_layers (subdivisions s) s.centre summary ≡ Ok tt → x < subdivisions s → marked (entry_of summary x) ≡ false
    → ((k : ℕ) → k < layer_count (subdivisions s) → inside s.threshold (layer_sample (subdivisions s) s.centre x k) ≡ b)
    → passed_over s.threshold summary x ≡ true
all_over s summary x b passed right hx unmarked side =
    let t = trusted s passed summary right in
    is_over (subdivisions s) s.centre t.held t.numbers x hx s.threshold summary (t.stands x hx) unmarked (threshold_number s passed) b side

-- ---- all of it

pub layers_kept : LayerPromises
layers_kept =
    record {
      answered_always = record { making = making; making_untouched = making_untouched; setting = setting; setting_untouched = setting_untouched };
      numbers = numbers;
      made = made;
      set = was_set;
      differs_first = differs_first;
      passed_over_lem = makes_nothing;
      all_passed_over = all_over;
    }
