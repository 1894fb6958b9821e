use Rattle.heuristics.proofs.Kept.{strided_admissible}
use Rattle.heuristics.proofs.strided.Strided.new.Goals as goal

pub returns-clause-admissible : goal.returns-clause-admissible
returns-clause-admissible g c = strided_admissible g.H.Cost.CostAlgebra.algebra g.met.H.Cost.CostAlgebra.laws _ _
