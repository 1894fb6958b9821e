use Rattle.heuristics.proofs.Kept.{blind_admissible}
use Rattle.heuristics.proofs.blind.Blind.new.Goals as goal

pub returns-clause-admissible : goal.returns-clause-admissible
returns-clause-admissible g c = blind_admissible g.K.CostAlgebra.algebra g.met.K.CostAlgebra.laws
