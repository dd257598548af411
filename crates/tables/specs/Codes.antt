-- The fields of a vertex code (document 01, 'Regular cells' and 'Transition cells'): the low byte holds the two points a and b, the high byte
-- the steps back, the bit for new and the reuse index. In a transition code the step in x is back in u, that in y back in v, and new is 'new
-- and stored'.
use Rattle.std.specs.Prelude.{ℕ, ◌/◌, ◌%◌}

abbrev pub point_a : ℕ → ℕ
point_a code = code / 16 % 16

abbrev pub point_b : ℕ → ℕ
point_b code = code % 16

abbrev pub step_x : ℕ → ℕ
step_x code = code / 4096 % 2

abbrev pub step_y : ℕ → ℕ
step_y code = code / 8192 % 2

abbrev pub step_z : ℕ → ℕ
step_z code = code / 16384 % 2

abbrev pub is_new : ℕ → ℕ
is_new code = code / 32768 % 2

abbrev pub reuse_index : ℕ → ℕ
reuse_index code = code / 256 % 16

-- the low byte: which edge of the cell a code stands for
abbrev pub edge_of : ℕ → ℕ
edge_of code = code % 256
