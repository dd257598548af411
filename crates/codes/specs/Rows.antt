-- A cell by its rows as they are lent. Definition only.
use Rattle.model.specs.Star.{Star}
use Rattle.model.specs.Mesh.{Cell}
use Rattle.codes.specs.declared.CellRows.{CellRows}
use Rattle.codes.specs.Kinds.{cell_of}

abbrev pub rows_cell : Star → CellRows → Cell
rows_cell s c = cell_of s c.at c.codes.now c.row.now c.turned
