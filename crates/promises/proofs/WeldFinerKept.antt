-- The labels of what extraction leaves close up as the vertices do; so the labelled mesh is named anew by the weld, no gap is at a finer face after it,
-- and each vertex there is what it was.
use Rattle.std.specs.Prelude.{ℕ, ◌+◌, ◌*◌, ◌<◌, ◌≡◌, refl, List, [], ◌∷◌, length, get_or, Ok}
use Rattle.std.proofs.Common.{le_refl, arith, sym, ap, ◌∙◌, subst}
use Rattle.laws.specs.Lists.{length_listed}
use Rattle.laws.specs.Gathered.{listed_same_below}
use Rattle.model.specs.declared.Counts.{Counts}
use Rattle.model.specs.Star.{Star}
use Rattle.model.specs.Mesh.{Made, Mesh, no_edge, regular_mesh}
use Rattle.closed.specs.Clauses.{no_vertex}
use Rattle.closed.specs.Renamed.{Renamed}
use Rattle.finer.specs.Clauses.{RegularLying, SideLying, NoGap, SameBits}
use Rattle.finer.proofs.SideWhole.{labelled_sound}
use Rattle.finer.specs.Renamed.{coarse_renamed, borders_renamed, corners_renamed}
use Rattle.weld.specs.Definition.{kept_before, keeper, new_index, closed_up}
use Rattle.weld.specs.Kept.{keeper_keeps, closed_at}
use Rattle.promises.specs.Left.{Lent, left, mesh_in}
use Rattle.promises.specs.Finer.{labelled_part, NearBy}
use Rattle.promises.proofs.FinerKept.{no_gap_is_left}
use Rattle.promises.proofs.Extracted.{equal_mesh}
use Rattle.promises.specs.Weld.{LentWhole, answered_whole, left_whole, edge_in, label_before, label_after, labelled_after, labelled_anew, NoGapAfter}
use Rattle.promises.proofs.WeldRenamed.{made_at, alone, mesh_is, edge_regular, by_kind, named_anew, names_vertices}

module _ (s : Star) (lent : LentWhole) (c : Counts) (e : answered_whole s lent ≡ Ok c) where
  abbrev lists : LentWhole
  lists = left_whole s lent

  abbrev es : List ℕ
  es = lists.edges

  abbrev label : ℕ → ℕ
  label = label_before s c lists

  -- a regular vertex has its grid edge for a label
  label_regular : (i : ℕ) → i < length (regular_mesh s).made → label i ≡ edge_in lists i
  label_regular i h = ap (λ (m : Made). m.edge) ((labelled_sound s).front i h) ∙ sym (edge_regular s lent c e i h)

  label_anew : (i : ℕ) → i < c.vertices → label_after s c lists (new_index es i) ≡ label i
  label_anew i h =
      let k = keeper_keeps es i in
      let f = keeper es i in
      let at : kept_before es f ≡ 1 * kept_before es f + 0 = omega arith in
      ap (λ (j : ℕ). get_or (closed_up (λ i. label i ∷ []) es c.vertices) j no_edge) at
      ∙ closed_at (λ i. label i ∷ []) 1 (λ i. refl) es c.vertices f 0 no_edge (omega (arith, k.first)) k.stays (omega arith)
      ∙ by_kind s lent c e (λ f j. label f ≡ label j) i h (λ f hf hi same. label_regular f hf ∙ same ∙ sym (label_regular i hi)) refl

  abbrev before : Mesh
  before = mesh_in lists.mesh label c.vertices c.triangles

  -- what is said of what extraction leaves without the further list
  told_before : (P : Mesh → Type 0) → P (labelled_part s (left s lent.mesh)) → P before
  told_before P h =
      subst (λ (k : Counts). P (mesh_in lists.mesh label k.vertices k.triangles)) (sym (equal_mesh s lent.mesh c (alone s lent c e)).counted)
      (subst (λ (b : Lent). P (labelled_part s b)) (mesh_is s lent c e) h)

  anew : Renamed before (labelled_after s c lists) (new_index es)
  anew = named_anew s lent c e label (label_after s c lists) c.vertices c.triangles (le_refl _) (le_refl _) label_anew

  -- each vertex is what it was
  made_anew : before.made ≡ labelled_anew s c lists
  made_anew =
      listed_same_below _ _ c.vertices
      (λ i h.
      let l : i < length before.made = rw length_listed h in
      let same : get_or (labelled_after s c lists).made (new_index es i) no_vertex ≡ get_or before.made i no_vertex =
      λ q. record { vertex = anew.vertex_is i l q; edge = anew.edge_is i l q } in
      sym (same ∙ made_at lists.mesh label c.vertices c.triangles i h))

  pub no_gap_after : NoGapAfter s c lists
  no_gap_after =
      let after = labelled_after s c lists in
      let named = names_vertices s lent c e label in
      let is-left = no_gap_is_left s lent.mesh c (alone s lent c e) in
      let no_gap = told_before (NoGap s) is-left.no_gap in
      record {
        coarse = coarse_renamed s before after (new_index es) anew named no_gap;
        borders = borders_renamed s before after (new_index es) anew named no_gap;
        corners = corners_renamed s before after (new_index es) anew named no_gap;
        regular = subst (RegularLying s) made_anew no_gap.regular;
        lying = subst (SideLying s) made_anew no_gap.lying;
        same_bits = subst (SameBits s) made_anew (told_before (λ (m : Mesh). SameBits s m.made) is-left.same_bits);
        near_by = λ fit. subst (NearBy s) made_anew (told_before (λ (m : Mesh). NearBy s m.made) (is-left.near_by fit));
      }
