-- `write_sheet` meets its contract: the mesh grows by one row in each turn.
use mathlib.Core.Path.{◌≡◌}
use native.Mathlib.Omega.{arith}
use Rattle.points.specs.Grids.{subdivisions_of, star_of}
use Rattle.walk.specs.Walk.{sheet_after_lem}
use Rattle.writing.specs.Lengths.{fits_still}
use Rattle.writing.proofs.Holding.{so_far_none, so_far_then}
use Rattle.writing.proofs.write_sheet.Goals as goal

pub loop-u-init : goal.loop-u-init
loop-u-init c = (omega arith, so_far_none c.requires.holds)

pub write_row-counts-requires : goal.write_row-counts-requires
write_row-counts-requires c =
    let so_far = c.loop-u.invariant.1 in
    let p = c.requires in
    record {
      tables = p.tables;
      shaped = p.shaped;
      sheeted = p.sheeted;
      sheet_in = p.sheet_in;
      fits = fits_still so_far.kept p.fits;
      u_lt_subdivisions = (omega (arith, c.loop-u-test.true), so_far.holds);
    }

pub loop-u-preserved : goal.loop-u-preserved
loop-u-preserved c =
    let row = c.write_row-counts.ensures in
    (omega (arith, c.loop-u-test.true), so_far_then c.loop-u.invariant.1 row.same row.kept row.holds)

pub returns : goal.returns
returns c =
    let l = c.loop-u in
    let done = l.invariant.1 in
    let end : l.u ≡ subdivisions_of c.args.grid.now = omega arith in
    record { holds = rw (end, sheet_after_lem (star_of c.args.grid.now) c.args.sheet.now.index c.requires.sheet_in) at done.holds; kept = done.kept; same = done.same }
