-- `count_mesh` meets its contract: what the regular cells add and what the transition cells add make up the mesh.
use Rattle.model.specs.Star.{lent_star}
use Rattle.counting.proofs.Growth.{few_more, counted_mesh}
use Rattle.counting.proofs.count_mesh.Goals as goal

pub returns : goal.returns
returns c =
    let a = c.args in
    rw c.add.ensures
    (few_more c.count_regular_cells-regular.ensures.few c.count_transition_cells-transition.ensures.few, counted_mesh (lent_star a.lent.now) _ _ (c.count_regular_cells-regular.ensures.grows a.lent.now.neighbours.now) (c.count_transition_cells-transition.ensures.grows a.lent.now.centre.now))
