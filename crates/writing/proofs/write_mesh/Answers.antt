-- `write_mesh` meets its contract: the store is cleared, the regular cells are written and then the transition cells, and so all
-- places are filled; what was read is the mesh's reads.
use Prim.Native.Nat.{ℕ}
use mathlib.Core.Path.{refl, ap, ◌∙◌}
use native.Mathlib.Omega.{arith}
use borrow.Author.Rules.{rules}
use lib.ListN.{replicate}
use Rattle.model.specs.Star.{lent_star}
use Rattle.model.specs.Mesh.{mesh_of}
use Rattle.writing.specs.Writing.{HoldsIn, SameLengths}
use Rattle.writing.specs.Lengths.{same_then, fits_still, exact_still}
use Rattle.writing.proofs.Holding.{holds_all}
use Rattle.writing.proofs.Reading.{read_all}
use Rattle.writing.proofs.write_mesh.Goals as goal
use Rattle.writing.proofs.write_mesh.Goals.{After-fill}

-- the lists are as long as they were, step by step
cleared : (c : After-fill) → let out = c.args.out.now in
    SameLengths out.vertices.now out.vertices.now out.triangles.now out.triangles.now out.store.now c.fill.new.self out.edges.now out.edges.now
cleared c = record { vertices_same = refl; triangles_same = refl; store_same = c.fill.auto.self; edges_same = refl }

pub write_regular_cells-regular-requires : goal.write_regular_cells-regular-requires
write_regular_cells-regular-requires c =
    let fits = c.requires.exact.fits in
    rw c.new-grid.ensures (record {
      shaped = c.requires.shaped;
      trusted = c.requires.trusted;
      fits = fits_still (cleared (goal.at.write_regular_cells-regular-requires c).After-fill) fits;
      store_value = c.fill.ensures.after (λ y e. e) ∙ ap (λ (k : ℕ). replicate k 0) fits.store_fits;
    })

pub write_transition_cells-all-requires : goal.write_transition_cells-all-requires
write_transition_cells-all-requires c =
    let regular = c.write_regular_cells-regular.ensures in
    let kept = same_then (cleared (goal.at.write_transition_cells-all-requires c).After-fill) regular.kept in
    record {
      shaped = rw c.new-grid.ensures c.requires.shaped;
      fits = rw c.new-grid.ensures (fits_still kept c.requires.exact.fits);
      holds = regular.holds;
      reads_bound = regular.reads.few;
    }

pub overflow_add-result : goal.overflow_add-result
overflow_add-result c =
    let all = c.write_transition_cells-all.ensures in
    let holds = rw c.new-grid.ensures at all.holds_2 in
    omega (arith, all.reads.few, holds.read_so_far, holds.vertex_count_lem, c.requires.exact.fits.vertices_fit.short)

pub returns : goal.returns
returns c =
    let s = lent_star c.args.lent.now in
    let regular = c.write_regular_cells-regular.ensures in
    let all = c.write_transition_cells-all.ensures in
    let out = c.write_transition_cells-all.new.out in
    let holds : HoldsIn (mesh_of s) c.write_transition_cells-all.result.counts out = rw c.new-grid.ensures at all.holds_2 in
    let kept = same_then (same_then (cleared (goal.at.returns c).After-fill) regular.kept) all.kept in
    record {
      written = holds_all s _ _ _ _ _ (exact_still kept c.requires.exact) holds;
      reads =
          read_all s c.args.summary.now _ _ _ _ _ _ _ c.requires.trusted (rw c.new-grid.ensures at regular.reads) (rw c.new-grid.ensures at all.reads) holds;
      edges = holds.numbered;
      kept = kept;
      same = search rules;
    }
