use Rattle.heuristics.proofs.Kept.{maximum_admissible, maximum_consistent}
use Rattle.heuristics.proofs.maximum.Maximum.new.Goals as goal

pub returns-clause-admissible : goal.returns-clause-admissible
returns-clause-admissible g c = maximum_admissible g.A.Cost.CostAlgebra.algebra g.met.A.Cost.CostAlgebra.laws _ _

pub returns-clause-consistent : goal.returns-clause-consistent
returns-clause-consistent g c = maximum_consistent g.A.Cost.CostAlgebra.algebra g.met.A.Cost.CostAlgebra.laws _ _
