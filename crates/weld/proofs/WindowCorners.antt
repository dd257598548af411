-- Document 02, [10]: the corners once a window of vertices more is welded. Assumes nothing.
use Rattle.std.specs.Prelude.{ℕ, ◌≤◌, ◌≡◌, List, map, Float, length}
use Rattle.std.proofs.Common.{sym, ap, ◌∙◌}
use Rattle.std.proofs.lemmas.Simd.{map-map}
use Rattle.weld.specs.Leaves.{Window, corner_by, up_to, AllWelded}
use Rattle.weld.specs.Corners.{window_corner}

module _ (start end : ℕ) (vertices₀ : List Float) (triangles₀ edges₀ : List ℕ) (k : ℕ) (vertices : List Float) (triangles edges : List ℕ)
    (l : start ≤ end) (same_edges : length edges ≡ length edges₀) (same-vertices : length vertices ≡ length vertices₀)
    (w : AllWelded start vertices₀ triangles₀ edges₀ k vertices triangles edges) where
  pub all_welded_more : (k2 : ℕ) (vertices2 : List Float) (triangles2 edges2 seen2 table : List ℕ) → Window start end k vertices edges k2 vertices2 edges2 seen2 table
      → triangles2 ≡ map (corner_by table start end) triangles → AllWelded end vertices₀ triangles₀ edges₀ k2 vertices2 triangles2 edges2
  all_welded_more k2 vertices2 triangles2 edges2 seen2 table h e =
      let tabled = h.tabled edges₀ vertices₀ (sym same_edges) (sym same-vertices) w.lists in
      record {
        lists = h.lists edges₀ vertices₀ (sym same_edges) (sym same-vertices) w.lists;
        triangles_are = e ∙ ap (map (corner_by table start end)) w.triangles_are ∙ map-map (corner_by table start end) (up_to edges₀ start) triangles₀
            ∙ (λ i. map (λ c. window_corner edges₀ table start end c l tabled i) triangles₀);
      }
