-- The lent buffers are as long as they were: one step after another, and what fitted them still fits.
use Rattle.std.proofs.Common.{arith, ◌∙◌}
use Rattle.std.specs.Prelude.{List, ℕ, Float}
use Rattle.model.specs.Star.{Star}
use Rattle.writing.specs.Writing.{Fits, SameLengths, Exact}

pub same_then : {v v' v'' : List Float} {t t' t'' s s' s'' e e' e'' : List ℕ} → SameLengths v v' t t' s s' e e' → SameLengths v' v'' t' t'' s' s'' e' e''
    → SameLengths v v'' t t'' s s'' e e''
same_then h k =
    record {
      vertices_same = k.vertices_same ∙ h.vertices_same;
      triangles_same = k.triangles_same ∙ h.triangles_same;
      store_same = k.store_same ∙ h.store_same;
      edges_same = k.edges_same ∙ h.edges_same;
    }

module _ {s : Star} {vertices₀ vertices : List Float} {triangles₀ triangles store₀ store edges₀ edges : List ℕ}
    (same : SameLengths vertices₀ vertices triangles₀ triangles store₀ store edges₀ edges) where
  pub fits_still : Fits s vertices₀ triangles₀ store₀ → Fits s vertices triangles store
  fits_still fits =
      record {
        vertices_fit = record { room = omega arith; short = fits.vertices_fit.short };
        triangles_fit = record { room = omega arith; short = fits.triangles_fit.short };
        store_fits = same.store_same ∙ fits.store_fits;
      }

  pub exact_still : Exact s vertices₀ triangles₀ store₀ → Exact s vertices triangles store
  exact_still exact =
      record {
        fits = fits_still exact.fits;
        vertices_fill = same.vertices_same ∙ exact.vertices_fill;
        triangles_fill = same.triangles_same ∙ exact.triangles_fill;
      }
