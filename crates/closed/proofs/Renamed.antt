-- A mesh whose vertices are named anew, several by one name where they are one vertex of one grid edge: what demand 3 says of a mesh, it says of
-- the mesh with the new names. Assumes nothing.
use Rattle.std.specs.Prelude.{ℕ, ◌<◌, ◌≡◌, length}
use Rattle.std.proofs.Common.{arith, sym, ◌∙◌, subst}
use Rattle.std.proofs.Math.Path.{ap}
use Rattle.laws.specs.Steps.{total}
use Rattle.laws.specs.Sums.{total_same}
use Rattle.model.specs.declared.Triangle.{Triangle}
use Rattle.model.specs.Star.{Star}
use Rattle.model.specs.Mesh.{Mesh}
use Rattle.closed.specs.Clauses.{number, edge_at, Names, NamesVertices, sides, runs, Carried, OwnVertex, Corners, Balanced, OnItsEdge, Lying, NoHole}
use Rattle.closed.specs.Renamed.{Renamed}

module _ (m m' : Mesh) (name : ℕ → ℕ) (r : Renamed m m' name) where
  -- as many sides run between two edges as before
  module _ (named : (t : ℕ) → t < length m.triangles → NamesVertices m t) where
    sides_same : (g k t : ℕ) → t < length m.triangles → sides m' g k t ≡ sides m g k t
    unfolding sides
    sides_same g k t l =
        let o = named t l in
        rw (r.triangles_are t l, r.edge_is _ o.a, r.edge_is _ o.b, r.edge_is _ o.c)

    pub runs_same : (g k : ℕ) → runs m' g k ≡ runs m g k
    unfolding runs
    runs_same g k = ap (total (sides m' g k)) r.as_many ∙ total_same (sides m' g k) (sides m g k) (length m.triangles) (sides_same g k)

  pub names_anew : (i g : ℕ) → Names m.made i g → Names m'.made (name i) g
  names_anew i g n = record { there = r.there i n.there; held = r.edge_is i n.there ∙ n.held }

-- ---- no hole

module _ (s : Star) (m m' : Mesh) (name : ℕ → ℕ) (r : Renamed m m' name) (h : NoHole s m) where
  named : (t : ℕ) → t < length m.triangles → NamesVertices m t
  named t l = let o = h.corners t l in record { a = o.a.named.there; b = o.b.named.there; c = o.c.named.there }

  carried : Carried s m'
  carried e of_block = (
    λ c.
        let j = c.0 in
        let there = c.1.there in
        let i = r.of j there in
        let held = sym (r.edge_is i (r.of_there j there)) ∙ ap (edge_at m'.made) (r.of_named j there) ∙ c.1.held in
        (h.carried e of_block).0 (i, record { there = r.of_there j there; held = held }),
    λ crossed. let c = (h.carried e of_block).1 crossed in (name c.0, names_anew m m' name r c.0 (number s e) c.1),
  )

  own : (x y z i j : ℕ) → j ≡ name i → OwnVertex s m x y z i → OwnVertex s m' x y z j
  own x y z i j e o =
      subst (OwnVertex s m' x y z) (sym e)
      (record { made = omega (arith, o.made, r.lower i); on = o.on; own = o.own; named = names_anew m m' name r i _ o.named })

  corners : Corners s m'
  corners t l =
      let before : t < length m.triangles = rw r.as_many at l in
      let o = h.corners t before in
      let e = r.triangles_are t before in
      record {
        x = o.x;
        y = o.y;
        z = o.z;
        sent = o.sent;
        a = own o.x o.y o.z _ _ (ap (λ (q : Triangle). q.a) e) o.a;
        b = own o.x o.y o.z _ _ (ap (λ (q : Triangle). q.b) e) o.b;
        c = own o.x o.y o.z _ _ (ap (λ (q : Triangle). q.c) e) o.c;
      }

  balanced : Balanced s m'
  balanced e f he hf inner =
      let same = runs_same m m' name r named in
      same (number s e) (number s f) ∙ h.balanced e f he hf inner ∙ sym (same (number s f) (number s e))

  lying : Lying s m'.made
  lying j l =
      let i = r.of j l in
      let o = h.lying i (r.of_there j l) in
      subst (OnItsEdge s m'.made) (r.of_named j l)
      (record {
        on = o.on;
        of_block = o.of_block;
        crossed = o.crossed;
        named = names_anew m m' name r i _ o.named;
        vertex_is = r.vertex_is i (r.of_there j l) ∙ o.vertex_is;
      })

  pub no_hole_renamed : NoHole s m'
  no_hole_renamed = record { carried = carried; corners = corners; balanced = balanced; lying = lying }
