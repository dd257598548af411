-- What was promised of place kinds holds: a coordinate by itself, then the seven ways in which a point was sampled, then what the calls answer.
use Rattle.std.specs.Prelude.{ℕ, zero, suc, ◌+◌, ◌-◌, ◌*◌, ◌≤◌, ◌<◌, ◌≡◌, ◌⊎◌, Bool, not, List, [], ◌∷◌, ◌++◌, T, eqb, leb, ℤ, negsuc, Float, take, Err, Ok}
use Rattle.std.proofs.Math.Path.{refl, ap, subst}
use Rattle.std.proofs.Common.{sym, ◌∙◌, ⊎_elim, mul-le-mul_left, mul-add}
use Rattle.std.proofs.Math.Logic.{inl, inr}
use Rattle.std.proofs.Math.Bool.{true, false, cond}
use native.Mathlib.Omega.{arith}
use borrow.Author.Tests.{leb-true, leb-false, eq-eqb, ne_eqb}
use Rattle.std.proofs.Math.IntN.{pos}
use Rattle.laws.specs.Tests.{both}
use Rattle.laws.specs.Exits.{ok_same}
use Rattle.model.specs.declared.Xyz.{Xyz}
use Rattle.model.specs.declared.PlaceKind.{PlaceKind}
use Rattle.model.specs.declared.PlaceKind.TheVariants.{InBlock, Face}
use Rattle.model.specs.declared.Refusal.TheVariants.{PointNeverSampled}
use Rattle.model.specs.Answers.{Verdict}
use Rattle.model.specs.Answers.{PointRead}
use Rattle.model.specs.Samples.{on_face, place_of, outside, sampled, kind_of, is_outside, outside_count, reading_at, value_at, one_up}
use Rattle.model.specs.Extraction.{read_point}
use Rattle.model.specs.Record.{header_of, samples_of}
use Rattle.model.specs.Viewer.{record_point}
use Rattle.grid.specs.Places.{Within, Inner, inner_le, in_block_lem, outside_by, not_outside_inner, here_not_outside, sampled_sum, value_is, steps_sampled}
use Rattle.grid.specs.Places.{across_of, place_across_x, place_across_y, place_across_z, place_inner}
use Rattle.grid.specs.Kinds.{kind_across_x, kind_across_y, kind_across_z, kind_inner}
use Rattle.grid.specs.Reads.{corner_sampled, face_sampled, neighbour_sampled}
use Rattle.points.specs.Steps.{up_kind, down_kind}
use Rattle.points.specs.StepKinds.{by_less, below, above, step_kinds}
use Rattle.judge.specs.First.{both_passed, unless_passed}
use Rattle.promises.specs.Orders.{Judge, in_order, Numbered, Judged, record_judges, point_judge, point_judges}
use Rattle.promises.specs.Points.{point_value, point_kind}
use Rattle.promises.proofs.Judges.{numbered_take, others, never_sampled, record_numbered, point_numbered}
use Rattle.promises.proofs.Views.{point, record_point_lem}
use Rattle.promises.specs.PlaceKinds.{In, OneBelow, OneAbove, JustOne, Stands, out_of, Placed, InStore, CameFrom, border_kind, GradientReads, PlaceKindPromises}

-- ---- a coordinate

module _ (n : ℕ) where
  in_out : (c : ℤ) → In n c → outside n (one_up n c) ≡ 0
  unfolding one_up
  in_out (pos c) h = here_not_outside n c h
  in_out (negsuc c) h = absurd h

  out_in : (c : ℤ) → outside n (one_up n c) ≡ 0 → In n c
  unfolding one_up
  out_in (pos c) e = let i = not_outside_inner n (c + 1) e in omega (arith, i.high)
  out_in (negsuc zero) e = let i = not_outside_inner n 0 e in absurd (omega (arith, i.low))
  out_in (negsuc (suc c)) e = let i = not_outside_inner n (n + 3) e in absurd (omega (arith, i.high))

  -- one step outside is -1 or n+1
  one_out : (c : ℤ) → outside n (one_up n c) ≡ 1 → OneBelow c ⊎ OneAbove n c
  unfolding one_up
  one_out (pos c) =
      outside_by n (c + 1) (λ o. o ≡ 1 → OneBelow (pos c) ⊎ OneAbove n (pos c)) (λ e o. absurd (omega arith)) (λ i o. absurd (omega arith))
      (λ e o. let at : c ≡ n + 1 = omega arith in inr (ap pos at)) (λ l o. absurd (omega arith))
  one_out (negsuc zero) = λ e. inl refl
  one_out (negsuc (suc c)) =
      outside_by n (n + 3) (λ o. o ≡ 1 → OneBelow (negsuc (suc c)) ⊎ OneAbove n (negsuc (suc c))) (λ e o. absurd (omega arith))
      (λ i o. absurd (omega (arith, i.high))) (λ e o. absurd (omega arith)) (λ l o. absurd (omega arith))

  -- and it picks the axis's low face, or its high one
  record Picks (c : ℕ) (high : Bool) : Type 0 where
    one : outside n c ≡ 1
    test : eqb c 0 ≡ not high

  low_picks : (c : ℤ) → OneBelow c → Picks (one_up n c) false
  unfolding one_up
  low_picks c e =
      let up : one_up n c ≡ 0 = ap (one_up n) e in
      record { one = ap (outside n) up ∙ below n; test = eq-eqb (one_up n c) 0 up }

  high_picks : (c : ℤ) → OneAbove n c → Picks (one_up n c) true
  unfolding one_up
  high_picks c e =
      let two : n + 1 + 1 ≡ n + 2 = omega arith in
      let up : one_up n c ≡ n + 2 = ap (one_up n) e ∙ two in
      record { one = ap (outside n) up ∙ above n; test = ne_eqb (one_up n c) 0 (λ z. omega (arith, up)) }

  face_picks : {c : ℕ} (high : Bool) (low : ℕ) → Picks c high → cond (eqb c 0) (Face low) (Face (low + 1)) ≡ cond high (Face (low + 1)) (Face low)
  face_picks true low p = rw p.test
  face_picks false low p = rw p.test

  -- the place of a face's point is one of the face's
  face_store : (k i j : ℕ) → i ≤ n → j ≤ n → InStore n (Face k) (on_face n k i j)
  face_store k i j hi hj =
      let m = n + 1 in
      let row : m * (i + 1) ≤ m * m = mul-le-mul_left m (omega arith) in
      (omega arith, omega (arith, row, mul-add m i 1, mul-add (m * m) k 1))

  store_picks : {c : ℕ} (high : Bool) (low i j : ℕ) → Picks c high → i - 1 ≤ n → j - 1 ≤ n
      → InStore n (cond high (Face (low + 1)) (Face low)) (across_of n low c i j)
  store_picks true low i j p hi hj = rw p.test (face_store (low + 1) (i - 1) (j - 1) hi hj)
  store_picks false low i j p hi hj = rw p.test (face_store low (i - 1) (j - 1) hi hj)

  -- a coordinate in range, kept one up and then taken down
  in_le : (c : ℤ) → In n c → one_up n c - 1 ≤ n
  in_le c h = inner_le (not_outside_inner n (one_up n c) (in_out c h))

  -- outside however far, it counts as one
  record Counts (o : ℕ) : Type 0 where
    small : cond {A = ℕ} (eqb o 0) 0 1 ≤ 1
    twice : o ≤ 2 * cond {A = ℕ} (eqb o 0) 0 1

  counts : (c : ℕ) → Counts (outside n c)
  counts c =
      outside_by n c Counts (λ e. record { small = omega arith; twice = omega arith }) (λ i. record { small = omega arith; twice = omega arith })
      (λ e. record { small = omega arith; twice = omega arith }) (λ l. record { small = omega arith; twice = omega arith })

  not_in : (c : ℕ) → (Inner n c → ⊥) → is_outside n c ≡ 1
  not_in c none = outside_by n c (λ o. cond {A = ℕ} (eqb o 0) 0 1 ≡ 1) (λ e. refl) (λ i. absurd (none i)) (λ e. refl) (λ l. refl)

  out_of_lem : (c : ℤ) → is_outside n (one_up n c) ≡ out_of n c
  unfolding one_up
  out_of_lem (pos c) = go (leb c n) (λ e. leb-true c n e) (λ e. leb-false c n e)
    where
      go : (b : Bool) → (b ≡ true → c ≤ n) → (b ≡ false → n < c) → is_outside n (c + 1) ≡ cond b 0 1
      go true f g = rw (here_not_outside n c (f refl))
      go false f g = let far = g refl in not_in (c + 1) (λ i. omega (arith, i.high))
  out_of_lem (negsuc zero) = not_in 0 (λ i. omega (arith, i.low))
  out_of_lem (negsuc (suc c)) = not_in (n + 3) (λ i. omega (arith, i.high))

-- ---- a point

module _ (n : ℕ) (x y z : ℤ) where
  abbrev steps : ℕ
  steps = outside n (one_up n x) + outside n (one_up n y) + outside n (one_up n z)

  abbrev place : ℕ
  place = place_of n (one_up n x) (one_up n y) (one_up n z)

  -- where it stands is its kind; then at most one coordinate is outside, by one step, and its place is in that store
  record Kinded (kind : PlaceKind) : Type 0 where
    is : point_kind n x y z ≡ kind
    near : steps ≤ 1
    stored : InStore n kind place

  across_x : (high : Bool) → Picks n (one_up n x) high → In n y → In n z → Kinded (cond high (Face 1) (Face 0))
  across_x high p iy iz =
      record {
        is = kind_across_x n (one_up n x) (one_up n y) (one_up n z) p.one ∙ face_picks n high 0 p;
        near = omega (arith, p.one, in_out n y iy, in_out n z iz);
        stored = rw (place_across_x n (one_up n x) (one_up n y) (one_up n z) p.one) (store_picks n high 0 _ _ p (in_le n y iy) (in_le n z iz));
      }

  across_y : (high : Bool) → Picks n (one_up n y) high → In n x → In n z → Kinded (cond high (Face 3) (Face 2))
  across_y high p ix iz =
      let ox = in_out n x ix in
      record {
        is = kind_across_y n (one_up n x) (one_up n y) (one_up n z) ox p.one ∙ face_picks n high 2 p;
        near = omega (arith, p.one, ox, in_out n z iz);
        stored = rw (place_across_y n (one_up n x) (one_up n y) (one_up n z) ox p.one) (store_picks n high 2 _ _ p (in_le n x ix) (in_le n z iz));
      }

  across_z : (high : Bool) → Picks n (one_up n z) high → In n x → In n y → Kinded (cond high (Face 5) (Face 4))
  across_z high p ix iy =
      let ox = in_out n x ix in
      let oy = in_out n y iy in
      record {
        is = kind_across_z n (one_up n x) (one_up n y) (one_up n z) ox oy p.one ∙ face_picks n high 4 p;
        near = omega (arith, p.one, ox, oy);
        stored = rw (place_across_z n (one_up n x) (one_up n y) (one_up n z) ox oy p.one) (store_picks n high 4 _ _ p (in_le n x ix) (in_le n y iy));
      }

  kinded : (kind : PlaceKind) → Stands n x y z kind → Kinded kind
  kinded InBlock s =
      let ox = in_out n x s.x_in in
      let oy = in_out n y s.y_in in
      let oz = in_out n z s.z_in in
      record {
        is = kind_inner n (one_up n x) (one_up n y) (one_up n z) ox oy oz;
        near = omega (arith, ox, oy, oz);
        stored = rw (place_inner n (one_up n x) (one_up n y) (one_up n z) ox oy oz)
            (in_block_lem n _ _ _ (in_le n x s.x_in) (in_le n y s.y_in) (in_le n z s.z_in));
      }
  kinded (Face zero) s = across_x false (low_picks n x s.out_so) s.a_in s.b_in
  kinded (Face (suc zero)) s = across_x true (high_picks n x s.out_so) s.a_in s.b_in
  kinded (Face (suc (suc zero))) s = across_y false (low_picks n y s.out_so) s.a_in s.b_in
  kinded (Face (suc (suc (suc zero)))) s = across_y true (high_picks n y s.out_so) s.a_in s.b_in
  kinded (Face (suc (suc (suc (suc zero))))) s = across_z false (low_picks n z s.out_so) s.a_in s.b_in
  kinded (Face (suc (suc (suc (suc (suc zero)))))) s = across_z true (high_picks n z s.out_so) s.a_in s.b_in
  kinded (Face (suc (suc (suc (suc (suc (suc k))))))) s = absurd s

  pub stands_so : (kind : PlaceKind) → Stands n x y z kind → point_kind n x y z ≡ kind
  stands_so kind s = (kinded kind s).is

  told : (kind : PlaceKind) → Stands n x y z kind → Stands n x y z (point_kind n x y z)
  told kind s = subst (Stands n x y z) (sym (kinded kind s).is) s

  -- a coordinate of a point that was sampled
  by_axis : (c : ℤ) {P : Type 0} → outside n (one_up n c) ≤ 1 → (outside n (one_up n c) ≡ 0 → P)
      → (OneBelow c → outside n (one_up n c) ≡ 1 → P) → (OneAbove n c → outside n (one_up n c) ≡ 1 → P) → P
  by_axis c {P} few inner low high = go (outside n (one_up n c)) refl few
    where
      go : (o : ℕ) → outside n (one_up n c) ≡ o → o ≤ 1 → P
      go zero e l = inner e
      go (suc zero) e l = ⊎_elim (λ at. low at e) (λ at. high at e) (one_out n c e)
      go (suc (suc o)) e l = absurd (omega arith)

  just : {out : Type 0} {a b : ℤ} → out → In n a → In n b → JustOne out n a b
  just at ia ib = record { out_so = at; a_in = ia; b_in = ib }

  module _ (h : sampled n (one_up n x) (one_up n y) (one_up n z) ≡ true) where
    few : steps ≤ 1
    few = sampled_sum n (one_up n x) (one_up n y) (one_up n z) h

    over_z : In n x → In n y → Stands n x y z (point_kind n x y z)
    over_z ix iy =
        by_axis z (omega (arith, few)) (λ oz. told InBlock (record { x_in = ix; y_in = iy; z_in = out_in n z oz }))
        (λ at o. told (Face 4) (just at ix iy)) (λ at o. told (Face 5) (just at ix iy))

    over_y : In n x → Stands n x y z (point_kind n x y z)
    over_y ix =
        by_axis y (omega (arith, few)) (λ oy. over_z ix (out_in n y oy))
        (λ at o. told (Face 2) (just at ix (out_in n z (omega (arith, few, o)))))
        (λ at o. told (Face 3) (just at ix (out_in n z (omega (arith, few, o)))))

    pub stands : Stands n x y z (point_kind n x y z)
    stands =
        by_axis x (omega (arith, few)) (λ ox. over_y (out_in n x ox))
        (λ at o. told (Face 0) (just at (out_in n y (omega (arith, few, o))) (out_in n z (omega (arith, few, o)))))
        (λ at o. told (Face 1) (just at (out_in n y (omega (arith, few, o))) (out_in n z (omega (arith, few, o)))))

-- ---- an answer by judges of whom 15 is the last

last_passed : (before after : List Judge) → in_order (before ++ after) ≡ Ok tt → in_order after ≡ Ok tt
last_passed [] after e = e
last_passed (j ∷ before) after e = last_passed before after (both_passed j.says (in_order (before ++ after)) e).1

module _ (n : ℕ) (x y z : ℤ) (answer : PointRead) (value : Float) (before : List Judge) (numbered : Numbered before) (none : T (others 15 before))
    (is : Judged (before ++ point_judge n x y z ∷ []) (λ r. answer ≡ Err r) (answer ≡ Ok (value, point_kind n x y z))) where
  record Accepted (v : Float) (kind : PlaceKind) : Type 0 where
    was_sampled : sampled n (one_up n x) (one_up n y) (one_up n z) ≡ true
    v_is : v ≡ value
    kind_is : kind ≡ point_kind n x y z

  accepted : (v : Float) (kind : PlaceKind) → answer ≡ Ok (v, kind) → Accepted v kind
  accepted v kind e = go (in_order (before ++ point_judge n x y z ∷ [])) refl
    where
      go : (w : Verdict) → in_order (before ++ point_judge n x y z ∷ []) ≡ w → Accepted v kind
      go (Ok _) o =
          let told : answer ≡ Ok (value, point_kind n x y z) = is.accepted_by_all.1 o in
          let last = last_passed before (point_judge n x y z ∷ []) o in
          record {
            was_sampled = unless_passed _ _ (both_passed (point_judge n x y z).says (Ok tt) last).0;
            v_is = ap (λ (p : Float × PlaceKind). p.0) (ok_same (sym e ∙ told));
            kind_is = ap (λ (p : Float × PlaceKind). p.1) (ok_same (sym e ∙ told));
          }
      go (Err r) o =
          let told : answer ≡ Err r = (is.refused_by_first r).1 o in
          record { was_sampled = cc; v_is = cc; kind_is = cc }

  never : (c : ℕ) → answer ≡ Err (PointNeverSampled c)
      → (sampled n (one_up n x) (one_up n y) (one_up n z) ≡ false) × (c ≡ outside_count n (one_up n x) (one_up n y) (one_up n z))
  never c e = never_sampled before n x y z c numbered none ((is.refused_by_first (PointNeverSampled c)).0 e)

  many : (c : ℕ) → answer ≡ Err (PointNeverSampled c) → 1 < steps n x y z
  unfolding sampled
  many c e = leb-false (steps n x y z) 1 (never c e).0

  placed : Placed n x y z answer
  unfolding outside_count
  placed =
      record {
        exactly = λ v kind other e.
            let a = accepted v kind e in (
              λ k. subst (Stands n x y z) (sym a.kind_is ∙ k) (stands n x y z a.was_sampled),
              λ s. a.kind_is ∙ (kinded n x y z other s).is,
            );
        counted = λ c e. (never c e).1 ∙ (λ i. out_of_lem n x i + out_of_lem n y i + out_of_lem n z i);
        one_to_three = λ c e. omega (arith, (never c e).1, many c e, counts n (one_up n x), counts n (one_up n y), counts n (one_up n z));
        never_sampled = λ c kind e s. omega (arith, many c e, (kinded n x y z kind s).near);
      }

  came_from : (samples : List Float) → value ≡ point_value n samples x y z → (v : Float) (kind : PlaceKind) → answer ≡ Ok (v, kind)
      → CameFrom n samples v kind
  came_from samples value-at v kind e =
      let a = accepted v kind e in
      record {
        place = place n x y z;
        holds = a.v_is ∙ value-at ∙ value_is n (one_up n x) (one_up n y) (one_up n z) samples a.was_sampled;
        in_store = rw a.kind_is (kinded n x y z (point_kind n x y z) (stands n x y z a.was_sampled)).stored;
      }

-- ---- gradients

reading_is : (n x y z : ℕ) (samples : List Float) {kind : PlaceKind} → sampled n x y z ≡ true → kind_of n x y z ≡ kind
    → reading_at n samples x y z ≡ Ok (value_at n samples x y z, kind)
unfolding reading_at value_at
reading_is n x y z samples h e = rw (h, e)

up_border : (n c face : ℕ) → c ≤ n → up_kind n c face ≡ border_kind (eqb c n) face
up_border n c face h =
    sym
    (by_less c n (border_kind (eqb c n) face) InBlock (Face face) (λ l. simp (ne_eqb c n (λ e. omega arith)))
    (λ l. let e : c ≡ n = omega arith in simp (eq-eqb c n e)))

down_border : (c face : ℕ) → down_kind c face ≡ border_kind (eqb c 0) face
down_border c face =
    sym
    (by_less 0 c (border_kind (eqb c 0) face) InBlock (Face face) (λ l. simp (ne_eqb c 0 (λ e. omega arith)))
    (λ l. let e : c ≡ 0 = omega arith in simp (eq-eqb c 0 e)))

gradient : (n : ℕ) (samples : List Float) (p : Xyz) → Within n p → GradientReads n samples p
gradient n samples p h =
    let steps = steps_sampled n p h in
    let kinds = step_kinds n p h in
    record {
      x_up = reading_is n _ _ _ samples steps.x_up (kinds.x_up ∙ up_border n p.x 1 h.x_in);
      x_down = reading_is n _ _ _ samples steps.x_down (kinds.x_down ∙ down_border p.x 0);
      y_up = reading_is n _ _ _ samples steps.y_up (kinds.y_up ∙ up_border n p.y 3 h.y_in);
      y_down = reading_is n _ _ _ samples steps.y_down (kinds.y_down ∙ down_border p.y 2);
      z_up = reading_is n _ _ _ samples steps.z_up (kinds.z_up ∙ up_border n p.z 5 h.z_in);
      z_down = reading_is n _ _ _ samples steps.z_down (kinds.z_down ∙ down_border p.z 4);
    }

-- ---- all of it

-- the judges of the point read, and of a record's, that come before 15
module _ (n : ℕ) (samples : List Float) (x y z : ℤ) where
  abbrev before_point : List Judge
  before_point = take 2 (point_judges n samples x y z)

  point_before : Numbered before_point
  point_before = numbered_take 2 (point_judges n samples x y z) (point_numbered n samples x y z)

  none_before : T (others 15 before_point)
  unfolding others both
  none_before = tt

none_of_record : (bytes : List ℕ) → T (others 15 (record_judges bytes))
unfolding others both
none_of_record bytes = tt

pub place_kinds_kept : PlaceKindPromises
place_kinds_kept =
    record {
      point = λ n samples x y z.
          placed n x y z (read_point n samples x y z) (point_value n samples x y z) (before_point n samples x y z) (point_before n samples x y z)
          (none_before n samples x y z) (point n samples x y z);
      came_from = λ n samples x y z.
          came_from n x y z (read_point n samples x y z) (point_value n samples x y z) (before_point n samples x y z) (point_before n samples x y z)
          (none_before n samples x y z) (point n samples x y z) samples refl;
      record_judged = record_point_lem;
      record_point_lem = λ bytes x y z.
          let n = (header_of bytes).block.subdivisions in
          placed n x y z (record_point bytes x y z) (point_value n (samples_of bytes) x y z) (record_judges bytes) (record_numbered bytes)
          (none_of_record bytes) (record_point_lem bytes x y z);
      record_came_from = λ bytes x y z.
          let n = (header_of bytes).block.subdivisions in
          came_from n x y z (record_point bytes x y z) (point_value n (samples_of bytes) x y z) (record_judges bytes) (record_numbered bytes)
          (none_of_record bytes) (record_point_lem bytes x y z) (samples_of bytes) refl;
      gradient = gradient;
      as_before = record { value = value_is; corners = corner_sampled; face_points = face_sampled; fine_points = neighbour_sampled };
    }
