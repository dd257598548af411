-- A block as it is lent, by its grid: its subdivisions, and its star, whatever the neighbours' samples are. Definitions only.
use Rattle.std.specs.Prelude.{ℕ, List, Float}
use Rattle.model.specs.Star.{Star, star, lent_star}
use Rattle.points.specs.declared.fractions.Grid.{Grid}

abbrev pub subdivisions_of : Grid → ℕ
subdivisions_of g = g.lent.header.block.subdivisions

abbrev pub star_with : Grid → List Float → Star
star_with g neighbours = star g.lent.header g.lent.centre.now neighbours

-- with the neighbours that are lent
abbrev pub star_of : Grid → Star
star_of g = lent_star g.lent
