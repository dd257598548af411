-- Document 02, [10]: what the functions of the pass ask for and what they leave, by name. Definitions only.
use Rattle.std.specs.Prelude.{ℕ, ◌+◌, ◌*◌, ◌-◌, ◌/◌, ◌%◌, ◌^◌, ◌≤◌, ◌<◌, ◌≡◌, cond, List, Option, MatchOption, map, ltb, Float, length, get_or, set}
use Rattle.std.specs.Int.Bits.{bit_and}
use Rattle.std.proofs.lemmas.List.Edits.{sets}
use Rattle.model.specs.Mesh.{no_edge}
use Rattle.weld.specs.Definition.{number_of, kept_before, new_index, vertex_of, edges_at, vertices_at}

-- ---- the numbers met so far, as bits, and hints

-- a place among so many: numbers that are so many apart share one, where that is a power of two
abbrev pub slot_of : ℕ → ℕ → ℕ
slot_of places x = bit_and x (places - 1)

abbrev pub bit_of : List ℕ → ℕ → ℕ
bit_of seen number = get_or seen (slot_of (length seen) (number / 64)) 0 / 2 ^ (number % 64) % 2

-- the bit of each of the first k numbers is set
unfoldable pub Noted : List ℕ → List ℕ → ℕ → Type 0
Noted seen edges k = (j : ℕ) → j < k → bit_of seen (number_of edges j) ≡ 1

-- the bit of a number is set, and no bit is lost
pub record Marked (number : ℕ) (seen seen' : List ℕ) : Type 0 where
  pub set_now : bit_of seen' number ≡ 1
  pub set_still : (other : ℕ) → bit_of seen other ≡ 1 → bit_of seen' other ≡ 1

-- there is a word of bits and a hint
pub record Tables (seen hints : List ℕ) : Type 0 where
  pub words : 0 < length seen
  pub slots : 0 < length hints

-- ---- where a number stands

-- a place below k that has the number, unless none does
abbrev pub Found : List ℕ → ℕ → ℕ → Option ℕ → Type 0
Found edges k number r =
    MatchOption r ((j : ℕ) → j < k → number_of edges j ≡ number → ⊥) (λ at. (at < k) × (number_of edges at ≡ number))

-- r is such a place, or k where there is none; a transition vertex is always new
pub record Placed (edges : List ℕ) (k number r : ℕ) : Type 0 where
  pub within : r ≤ k
  pub has : r < k → number_of edges r ≡ number
  pub regular : r < k → number ≡ no_edge → ⊥
  pub new : r ≡ k → (number ≡ no_edge → ⊥) → (j : ℕ) → j < k → number_of edges j ≡ number → ⊥

-- ---- the vertices, one after another

-- vertex i, whose place is at: a new one goes to place k, any other leaves the lists as they were
pub record Closed (i k at number : ℕ) (vertices : List Float) (edges seen : List ℕ)
    (r : ℕ) (vertices' : List Float) (edges' seen' : List ℕ) : Type 0 where
  pub count_is : r ≡ cond (ltb at k) k (k + 1)
  pub edges_are : edges' ≡ cond (ltb at k) edges (set edges k number)
  pub vertices_are : vertices' ≡ cond (ltb at k) vertices (sets vertices (6 * k) (vertex_of vertices i))
  pub noted : Noted seen edges k → Noted seen' edges' r

-- the lists and the count once the first i vertices are welded
pub record WeldedTo (edges : List ℕ) (vertices : List Float) (i k : ℕ) (vertices' : List Float) (edges' : List ℕ) : Type 0 where
  pub count_is : k ≡ kept_before edges i
  pub vertices_are : vertices' ≡ vertices_at edges vertices i
  pub edges_are : edges' ≡ edges_at edges i

-- the table has the new indices of the vertices from start to end
unfoldable pub Tabled : List ℕ → ℕ → ℕ → List ℕ → Type 0
Tabled edges start end table = (j : ℕ) → j < end - start → get_or table j 0 ≡ new_index edges (start + j)

-- a window of vertices has room in the lists and the table
pub record Room (start end k : ℕ) (vertices : List Float) (edges table : List ℕ) : Type 0 where
  pub few : k ≤ start
  pub ordered : start ≤ end
  pub in_table : end ≤ start + length table
  pub short : end < 2 ^ 32
  pub in_edges : end ≤ length edges
  pub in_vertices : 6 * end ≤ length vertices

-- a window of vertices: whatever lists were welded to its start are welded to its end
pub record Window (start end first : ℕ) (vertices : List Float) (edges : List ℕ)
    (k : ℕ) (vertices' : List Float) (edges' seen' table' : List ℕ) : Type 0 where
  pub within : k ≤ end
  pub noted : Noted seen' edges' k
  pub lists : (edges₀ : List ℕ) (vertices₀ : List Float) → length edges₀ ≡ length edges → length vertices₀ ≡ length vertices
      → WeldedTo edges₀ vertices₀ start first vertices edges → WeldedTo edges₀ vertices₀ end k vertices' edges'
  pub tabled : (edges₀ : List ℕ) (vertices₀ : List Float) → length edges₀ ≡ length edges → length vertices₀ ≡ length vertices
      → WeldedTo edges₀ vertices₀ start first vertices edges → Tabled edges₀ start end table'

-- the lists and the tables are as long as they were
pub record AsLong (vertices₀ vertices : List Float) (edges₀ edges seen₀ seen hints₀ hints table₀ table : List ℕ) : Type 0 where
  pub vertices_same : length vertices ≡ length vertices₀
  pub edges_same : length edges ≡ length edges₀
  pub seen_same : length seen ≡ length seen₀
  pub hints_same : length hints ≡ length hints₀
  pub table_same : length table ≡ length table₀

-- ---- the corners, window by window

-- a corner of the window from start to end by the table, any other as it is
abbrev pub corner_by : List ℕ → ℕ → ℕ → ℕ → ℕ
corner_by table start end c = cond (ltb c start) c (cond (ltb c end) (get_or table (c - start) 0) c)

-- a corner once the first m vertices are welded
abbrev pub up_to : List ℕ → ℕ → ℕ → ℕ
up_to edges m c = cond (ltb c m) (new_index edges c) c

-- so many vertices have room in the lists
pub record Fits (v : ℕ) (vertices : List Float) (edges : List ℕ) : Type 0 where
  pub short : v < 2 ^ 32
  pub in_edges : v ≤ length edges
  pub in_vertices : 6 * v ≤ length vertices

-- all three lists once the first m vertices are welded
pub record AllWelded (m : ℕ) (vertices : List Float) (triangles edges : List ℕ)
    (k : ℕ) (vertices' : List Float) (triangles' edges' : List ℕ) : Type 0 where
  pub lists : WeldedTo edges vertices m k vertices' edges'
  pub triangles_are : triangles' ≡ map (up_to edges m) triangles

-- between two windows: the vertices before start are welded, and the lists and the tables are as long as they were
pub record Between (v places : ℕ) (vertices₀ : List Float) (triangles₀ edges₀ seen₀ hints₀ table₀ : List ℕ)
    (vertices : List Float) (triangles edges seen hints table : List ℕ) (k start : ℕ) : Type 0 where
  pub within : start ≤ v
  pub few : k ≤ start
  pub places_are : places ≡ length table₀
  pub triangles_same : length triangles ≡ length triangles₀
  pub as_long : AsLong vertices₀ vertices edges₀ edges seen₀ seen hints₀ hints table₀ table
  pub noted : Noted seen edges k
  pub welded : AllWelded start vertices₀ triangles₀ edges₀ k vertices triangles edges
