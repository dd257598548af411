-- A block that passes 1 to 7 has the shape that 8 asks for.
use Rattle.std.proofs.Common.{sym, ◌∙◌}
use Rattle.judge.specs.Passing.{star_shaped}
use Rattle.judge_test.proofs.given.judged.Goals as goal

pub judge_faces-requires : goal.judge_faces-requires
judge_faces-requires c = star_shaped _ (sym c.judge_star.ensures ∙ c.in_ok-judge_star.was)
