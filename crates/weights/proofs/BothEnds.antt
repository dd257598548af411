-- A vertex that is worked out from the one end of its edge, and from the other: the two are near each other, since each is near the exact point, which is
-- the same from either end.
use Rattle.std.specs.Prelude.{ℕ, ◌+◌, ◌-◌, ◌*◌, ◌≤◌, ◌<◌, ◌≡◌, ◌≢◌, T, Float, Ok}
use Rattle.std.proofs.Common.{sym, subst, subst₂, ⊎_elim, le_of_mul-le-mul_right, arith}
use Rattle.std.proofs.Math.Decide.{dec_le}
use Rattle.std.specs.Float.{binary32}
use Rattle.std.specs.Float.Ieee.{fits}
use Rattle.std.specs.Float.Ieee.Fits.{add-fits}
use Rattle.model.specs.declared.Xyz.{Xyz}
use Rattle.model.specs.declared.GridPoint.{GridPoint}
use Rattle.model.specs.declared.Vertex.{Vertex}
use Rattle.model.specs.Formulas.{vertex_between}
use Rattle.model.specs.Star.{Star, subdivisions}
use Rattle.model.specs.Points.{regular_point}
use Rattle.model.specs.Judging.{judge_star}
use Rattle.grid.specs.Places.{Within as InBlock}
use Rattle.closed.specs.Clauses.{inside_at}
use Rattle.weights.specs.Units.{parts, magnitude, above, below, distance, apart, Within}
use Rattle.weights.specs.Clauses.{numerator, denominator, Weight, reach, Coordinate, AreF32, Weighed, both_off, FromBoth, NearVertices}
use Rattle.weights.specs.Values.{Number, order}
use Rattle.weights.specs.Small.{Small}
use Rattle.weights.proofs.Ends.{regular_ready, points_weighed}

-- ---- over plain numbers

no_gap : (m n : ℕ) → m - n ≡ 0 → m ≤ n
no_gap m n e = omega arith

turned : (m n : ℕ) → distance m n ≡ distance n m
turned m n = omega arith

apart_turned : (x y : Float) → apart x y ≡ apart y x
apart_turned x y = omega arith

-- each value is p - n; b and t lie above a
module _ (pa na pb nb pt nt : ℕ) (up-b : nb + pa ≤ pb + na) (up-t : nt + pa ≤ pt + na) where
  -- t no farther than b: from a to t and on to b is the whole way
  whole_way : distance (pt + na) (nt + pa) ≤ distance (pb + na) (nb + pa)
      → distance (pt + na) (nt + pa) + distance (pt + nb) (nt + pb) ≡ distance (pb + na) (nb + pa)
  whole_way not_more = omega arith

  -- q lies below b: t and q differ by what the way to each is more or less, together, than the whole
  from_two : (pq nq : ℕ) → nb + pq ≤ pb + nq
      → nq + pt + distance (pb + na) (nb + pa) ≡ pq + nt + (distance (pt + na) (nt + pa) + distance (pq + nb) (nq + pb))
  from_two pq nq down-q = omega arith

-- where the ends are g apart, and x and y are near n and m parts of it in n + m, x and y together are near g
near_together : (g x y n m e : ℕ) → 0 < n + m → Within (x * (n + m) * parts) (n * g * parts) ((n + m) * e)
    → Within (y * (n + m) * parts) (m * g * parts) ((n + m) * e) → Within ((x + y) * parts) (g * parts) (both_off * e)
near_together g x y n m e some h k =
    (le_of_mul-le-mul_right (omega (arith, h.0, k.0)) some, le_of_mul-le-mul_right (omega (arith, h.1, k.1)) some)

near_each : (p q g x y e : ℕ) → p + g ≡ q + (x + y) → Within ((x + y) * parts) (g * parts) (both_off * e) → distance q p * parts ≤ both_off * e
near_each p q g x y e same h = omega arith

-- ---- the threshold: from the one sample to it and on to the other is the whole way

quotients_add : (a b t w : Float) → Weight a b t w → numerator a b t + numerator b a t ≡ denominator a b t
unfolding numerator denominator
quotients_add a b t w h =
    ⊎_elim
    (λ e. whole_way (above a) (below a) (above b) (below b) (above t) (below t) (omega (arith, no_gap _ _ e.0)) (omega (arith, no_gap _ _ e.1)) h.not_more)
    (λ e. omega (
      arith,
      whole_way (below a) (above a) (below b) (above b) (below t) (above t) (omega (arith, no_gap _ _ e.0)) (omega (arith, no_gap _ _ e.1))
          (omega (arith, h.not_more)),
    ))
    h.one_sign

same_denominator : (a b t : Float) → denominator a b t ≡ denominator b a t
unfolding denominator
same_denominator a b t = apart_turned a b

-- ---- a coordinate: r from a on, n over d of the way; q from b on, m over d of it

module _ (a b r q : Float) (na : Number a) (nb : Number b) (nr : Number r) (nq : Number q) (n m d : ℕ) (whole : n + m ≡ d) (some : 1 ≤ d)
    (there : Coordinate a b r n d) (back : Coordinate b a q m d) where
  module _ (c : ℕ) (ha : magnitude a ≤ c) (hb : magnitude b ≤ c) where
    abbrev bound : ℕ
    bound = 7 * apart a b + c + parts

    near_a : Within (apart a r * (n + m) * parts) (n * apart a b * parts) ((n + m) * bound)
    near_a = subst (λ (d : ℕ). Within (apart a r * d * parts) (n * apart a b * parts) (d * bound)) (sym whole) (there.near c ha hb)

    near_b : Within (apart b q * (n + m) * parts) (m * apart a b * parts) ((n + m) * bound)
    near_b =
        subst₂ (λ (d g : ℕ). Within (apart b q * d * parts) (m * g * parts) (d * (7 * g + c + parts))) (sym whole) (apart_turned b a)
        (back.near c hb ha)

    near_both : Within ((apart a r + apart b q) * parts) (apart a b * parts) (both_off * bound)
    near_both = near_together (apart a b) (apart a r) (apart b q) n m bound (omega arith) near_a near_b

    met_up : above a + below b ≤ above b + below a → apart r q * parts ≤ both_off * bound
    met_up up =
        let le = (order a b na nb).units_le up in
        near_each (below q + above r) (above q + below r) (apart a b) (apart a r) (apart b q) bound
        (from_two (above a) (below a) (above b) (below b) (above r) (below r) (omega arith)
        (omega (arith, (order a r na nr).le_units (there.from_a_up le))) (above q) (below q)
        (omega (arith, (order q b nq nb).le_units (back.from_a_down le)))) near_both

    met_down : above b + below a ≤ above a + below b → apart r q * parts ≤ both_off * bound
    met_down down =
        let le = (order b a nb na).units_le down in
        subst (λ (k : ℕ). k * parts ≤ both_off * bound) (turned (below q + above r) (above q + below r))
        (near_each (above q + below r) (below q + above r) (apart a b) (apart a r) (apart b q) bound
        (omega (
          arith,
          from_two (below a) (above a) (below b) (above b) (below r) (above r) (omega arith)
              (omega (arith, (order r a nr na).le_units (there.from_a_down le))) (below q) (above q)
              (omega (arith, (order b q nb nq).le_units (back.from_a_up le))),
        )) near_both)

  from_both : FromBoth a b r q
  from_both c ha hb = go (dec_le (above a + below b) (above b + below a))
    where
      go : Dec (above a + below b ≤ above b + below a) → apart r q * parts ≤ both_off * (7 * apart a b + c + parts)
      go (yes up) = met_up c ha hb up
      go (no h) = met_down c ha hb (omega arith)

-- ---- a vertex

-- one and the same
pub near_itself : (a b : GridPoint) (v : Vertex) → NearVertices a b v v
near_itself a b v = record { x = λ c ha hb. self v.position.x _; y = λ c ha hb. self v.position.y _; z = λ c ha hb. self v.position.z _ }
  where
    self : (x : Float) (k : ℕ) → apart x x * parts ≤ k
    self x k = omega arith

-- between two grid points of the block, one inside and the other outside
module _ (s : Star) (fit : AreF32 s) (passed : judge_star s ≡ Ok tt) (p q : Xyz) (in_p : InBlock (subdivisions s) p) (in-q : InBlock (subdivisions s) q)
    (differ : inside_at s p ≢ inside_at s q) where
  abbrev a : GridPoint
  a = regular_point s p

  abbrev b : GridPoint
  b = regular_point s q

  there : Weighed s.threshold a b (vertex_between s.threshold a b)
  there = points_weighed s fit passed p q in_p in-q differ

  back : Weighed s.threshold b a (vertex_between s.threshold b a)
  back = points_weighed s fit passed q p in-q in_p (λ e. differ (sym e))

  abbrev n : ℕ
  n = numerator a.sample b.sample s.threshold

  abbrev m : ℕ
  m = numerator b.sample a.sample s.threshold

  abbrev d : ℕ
  d = denominator a.sample b.sample s.threshold

  on_axis : {x y r k : Float} → Small reach x → Small reach y → T (fits binary32 r) → T (fits binary32 k) → Coordinate x y r n d
      → Coordinate y x k m (denominator b.sample a.sample s.threshold) → FromBoth x y r k
  on_axis {x} {y} {r} {k} sx sy fr fk f g =
      from_both x y r k sx.number sy.number (record { is_f32 = fr; is_finite = f.is_finite }) (record { is_f32 = fk; is_finite = g.is_finite })
      n m d (quotients_add _ _ _ _ there.weighed) there.weighed.not_same f
      (subst (λ (d : ℕ). Coordinate y x k m d) (same_denominator b.sample a.sample s.threshold) g)

  pub vertices_near : NearVertices a b (vertex_between s.threshold a b) (vertex_between s.threshold b a)
  vertices_near =
      let at_p = (regular_ready s fit passed p in_p).position in
      let at-q = (regular_ready s fit passed q in-q).position in
      record {
        x = on_axis at_p.x at-q.x (add-fits binary32 _ _) (add-fits binary32 _ _) there.x back.x;
        y = on_axis at_p.y at-q.y (add-fits binary32 _ _) (add-fits binary32 _ _) there.y back.y;
        z = on_axis at_p.z at-q.z (add-fits binary32 _ _) (add-fits binary32 _ _) there.z back.z;
      }
