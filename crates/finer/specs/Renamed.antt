-- A mesh whose vertices are named anew, as closed's Renamed says: what is said of the triangles at a named side, is said of the mesh with the new
-- names. Assumes nothing.
use Rattle.std.specs.Prelude.{ℕ, ◌<◌, ◌≡◌, length}
use Rattle.std.proofs.Common.{arith, sym, ap, ◌∙◌, subst}
use Rattle.model.specs.declared.Triangle.{Triangle}
use Rattle.model.specs.Star.{Star}
use Rattle.model.specs.Mesh.{Mesh}
use Rattle.closed.specs.Clauses.{number, NamesVertices, runs}
use Rattle.closed.specs.Renamed.{Renamed}
use Rattle.closed.proofs.Renamed.{runs_same, names_anew}
use Rattle.finer.specs.Clauses.{IsSide, CoarseClosed, border_label, BorderClosed, OwnSideVertex, SideCorners, NoGap}

module _ (s : Star) (m m' : Mesh) (name : ℕ → ℕ) (r : Renamed m m' name) (named : (t : ℕ) → t < length m.triangles → NamesVertices m t) (h : NoGap s m) where
  both_same : (g k : ℕ) → runs m g k ≡ runs m k g → runs m' g k ≡ runs m' k g
  both_same g k e = let same = runs_same m m' name r named in same g k ∙ e ∙ sym (same k g)

  pub coarse_renamed : (side : ℕ) → IsSide s side → CoarseClosed s m' side
  coarse_renamed side is e f he hf ie jf = both_same (number s e) (number s f) (h.coarse side is e f he hf ie jf)

  pub borders_renamed : (side : ℕ) → IsSide s side → BorderClosed s m' side
  borders_renamed side is d u v i j hd hi hj cell across =
      both_same (border_label s side d u v i) (border_label s side d u v j) (h.borders side is d u v i j hd hi hj cell across)

  own : (side u v i j : ℕ) → j ≡ name i → OwnSideVertex s m.made side u v i → OwnSideVertex s m'.made side u v j
  own side u v i j e o =
      subst (OwnSideVertex s m'.made side u v) (sym e)
      (record { by_then = omega (arith, o.by_then, r.lower i); label = o.label; own = o.own; names = names_anew m m' name r i _ o.names })

  pub corners_renamed : SideCorners s m'
  corners_renamed t after l =
      let before : t < length m.triangles = rw r.as_many at l in
      let o = h.corners t after before in
      let e = r.triangles_are t before in
      record {
        side = o.side;
        u = o.u;
        v = o.v;
        sent = o.sent;
        a = own o.side o.u o.v _ _ (ap (λ (q : Triangle). q.a) e) o.a;
        b = own o.side o.u o.v _ _ (ap (λ (q : Triangle). q.b) e) o.b;
        c = own o.side o.u o.v _ _ (ap (λ (q : Triangle). q.c) e) o.c;
      }
