-- `grid_point::difference` meets its contract by what both reads ensure.
use Rattle.points.proofs.grid_point.difference.Goals as goal

pub returns : goal.returns
returns c =
    rw (
      c.value_of.ensures,
      c.reading_above.ensures,
      c.value_of-2.ensures,
      c.reading_below.ensures,
    )
