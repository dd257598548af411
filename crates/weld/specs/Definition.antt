-- Document 02, [10]: the weld. Of the regular vertices made on one grid edge only the first is kept, the kept close up in their order, and the
-- triangles are renumbered, all in the lists that are lent: six f32 a vertex, three indices a triangle, and for each vertex the number of its
-- edge. Equal numbers mean one edge; no_edge marks a transition vertex, which is always kept. What is refused and when. Definitions only.
use Rattle.std.specs.Prelude.{ℕ, zero, suc, ◌+◌, ◌*◌, Bool, false, cond, not, ◌||◌, List, [], ◌∷◌, map, eqb, Float, length, get_or, take, Err, Ok}
use Rattle.std.specs.Float.{nan}
use Rattle.laws.specs.Steps.{listed, laid}
use Rattle.laws.specs.Counting.{gather, how_many}
use Rattle.model.specs.Answers.{Verdict}
use Rattle.model.specs.Refusals.{or_else}
use Rattle.model.specs.Judging.{judge_buffer}
use Rattle.model.specs.Corners.{judge_named}
use Rattle.model.specs.Mesh.{no_edge}
use Rattle.model.specs.Edges.{judge_edges}
use Rattle.weld.specs.Answers.{Welded}

-- ---- what is kept

abbrev pub number_of : List ℕ → ℕ → ℕ
number_of edges i = get_or edges i 0

-- one of the first i vertices has the number
abbrev pub met : List ℕ → ℕ → ℕ → Bool
met edges zero number = false
met edges (suc i) number = met edges i number || eqb (number_of edges i) number

-- vertex i is kept: a transition vertex, or no earlier one has its number
unfoldable pub kept : List ℕ → ℕ → Bool
kept edges i = eqb (number_of edges i) no_edge || not (met edges i (number_of edges i))

-- how many of the first i vertices are
abbrev pub kept_before : List ℕ → ℕ → ℕ
kept_before edges = how_many (kept edges)

-- ---- what becomes of a vertex

-- of the first i vertices the first that has the number, or the last of them where no earlier one has
abbrev pub first_with : List ℕ → ℕ → ℕ → ℕ
first_with edges zero number = zero
first_with edges (suc i) number = cond (met edges i number) (first_with edges i number) i

-- the vertex that is kept for vertex i: a transition vertex itself, or else the first that has its number
unfoldable pub keeper : List ℕ → ℕ → ℕ
keeper edges i = cond (eqb (number_of edges i) no_edge) i (first_with edges (suc i) (number_of edges i))

abbrev pub new_index : List ℕ → ℕ → ℕ
new_index edges i = kept_before edges (keeper edges i)

-- ---- the lists once the first i vertices are welded, all beyond the kept as it was

-- what the kept of the first i vertices have, end to end
abbrev pub closed_up : {A : Type 0} → (ℕ → List A) → List ℕ → ℕ → List A
closed_up item edges = gather (λ i. cond (kept edges i) (item i) [])

abbrev pub edge_of : List ℕ → ℕ → List ℕ
edge_of edges i = number_of edges i ∷ []

abbrev pub vertex_of : List Float → ℕ → List Float
vertex_of vertices i = listed (λ k. get_or vertices (6 * i + k) nan) 6

unfoldable pub edges_at : List ℕ → ℕ → List ℕ
edges_at edges i = laid (closed_up (edge_of edges) edges i) edges

unfoldable pub vertices_at : List ℕ → List Float → ℕ → List Float
vertices_at edges vertices i = laid (closed_up (vertex_of vertices) edges i) vertices

-- so many triangles, each corner by the new index of the vertex that it named
unfoldable pub renumbered : List ℕ → ℕ → List ℕ → List ℕ
renumbered edges t triangles = laid (map (new_index edges) (take (3 * t) triangles)) triangles

-- ---- the pass, for so many vertices and triangles

-- 14 of the vertices, 14 of the triangles, 23, 17
unfoldable pub judge_weld : ℕ → ℕ → List Float → List ℕ → List ℕ → Verdict
judge_weld v t vertices triangles edges =
    or_else (judge_buffer (6 * v) (length vertices))
    (or_else (judge_buffer (3 * t) (length triangles))
    (or_else (judge_edges v (length edges))
    (judge_named v (take (3 * t) triangles))))

pub record Outcome : Type 0 where
  pub answer : Welded
  pub vertices : List Float
  pub triangles : List ℕ
  pub edges : List ℕ

-- the new counts and the welded lists, or every place as it was
unfoldable pub weld_answer : ℕ → ℕ → List Float → List ℕ → List ℕ → Verdict → Outcome
weld_answer v t vertices triangles edges (Ok _) =
    record {
      answer = Ok (record { vertices = kept_before edges v; triangles = t });
      vertices = vertices_at edges vertices v;
      triangles = renumbered edges t triangles;
      edges = edges_at edges v;
    }
weld_answer v t vertices triangles edges (Err r) =
    record { answer = Err r; vertices = vertices; triangles = triangles; edges = edges }

unfoldable pub weld : ℕ → ℕ → List Float → List ℕ → List ℕ → Outcome
weld v t vertices triangles edges = weld_answer v t vertices triangles edges (judge_weld v t vertices triangles edges)
