-- The estimates of the blind heuristic and of the layers over others.
use Rattle.std.specs.Prelude.{ℕ, ◌%◌, max, cond, Some, None, Option, ◌==◌}
use Rattle.planning.specs.Costs.{Algebra}
use Rattle.planning.specs.Estimates.{Estimates}

-- zero at every number
abbrev pub blind : {K : Type 0} → Algebra K → Estimates K
blind a p = Some a.zero

-- the later of two costs
abbrev pub later : {K : Type 0} → Algebra K → K → K → K
later a x y = cond (a.before x y) y x

-- a dead end if either is
abbrev pub later_estimate : {K : Type 0} → Algebra K → Option K → Option K → Option K
later_estimate a None y = None
later_estimate a (Some x) None = None
later_estimate a (Some x) (Some y) = Some (later a x y)

abbrev pub maximum : {K : Type 0} → Algebra K → Estimates K → Estimates K → Estimates K
maximum a h g p = later_estimate a (h p) (g p)

-- the estimate below at multiples of the stride, where 0 counts as 1, and zero elsewhere
abbrev pub strided : {K : Type 0} → Algebra K → ℕ → Estimates K → Estimates K
strided a stride h p = cond (p % max stride 1 == 0) (h p) (Some a.zero)
