-- What the blind heuristic and the layers promise, of every task and every estimates below.
use Rattle.std.specs.Prelude.{ℕ}
use Rattle.planning.specs.Costs.{Algebra}
use Rattle.planning.specs.Estimates.{Estimates, Admissible, Consistent}
use Rattle.planning.specs.Task.{Model}
use Rattle.heuristics.specs.Layers.{blind, maximum, strided}

abbrev pub BlindAdmissible : {K : Type 0} → Algebra K → Type 0
BlindAdmissible a = (t : Model) → Admissible t a (blind a)

abbrev pub BlindConsistent : {K : Type 0} → Algebra K → Type 0
BlindConsistent a = (t : Model) → Consistent t a (blind a)

-- admissible if both are
abbrev pub MaximumAdmissible : {K : Type 0} → Algebra K → Estimates K → Estimates K → Type 0
MaximumAdmissible a h g = (t : Model) → Admissible t a h → Admissible t a g → Admissible t a (maximum a h g)

-- consistent if both are
abbrev pub MaximumConsistent : {K : Type 0} → Algebra K → Estimates K → Estimates K → Type 0
MaximumConsistent a h g = (t : Model) → Consistent t a h → Consistent t a g → Consistent t a (maximum a h g)

-- admissible if the one below is
abbrev pub StridedAdmissible : {K : Type 0} → Algebra K → ℕ → Estimates K → Type 0
StridedAdmissible a stride h = (t : Model) → Admissible t a h → Admissible t a (strided a stride h)
