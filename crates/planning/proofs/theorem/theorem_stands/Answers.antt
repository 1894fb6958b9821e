use Rattle.planning.proofs.Central.{theorem}
use Rattle.planning.proofs.theorem.theorem_stands.Goals as goal

pub returns : goal.returns
returns g c = theorem g.K.CostAlgebra.algebra g.met.K.CostAlgebra.laws g.met.K.CostAlgebra.strict
