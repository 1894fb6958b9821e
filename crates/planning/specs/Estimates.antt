-- What makes the estimates of a heuristic admissible and consistent.
use Rattle.std.specs.Prelude.{◌≡◌, ℕ, ◌^◌, ◌≤◌, false, List, Some, Option}
use Rattle.planning.specs.declared.task.Transition.{Transition}
use Rattle.planning.specs.Costs.{Algebra}
use Rattle.planning.specs.Paths.{Solution}
use Rattle.planning.specs.Task.{Model}

-- an estimate for each state; none marks a dead end
abbrev pub Estimates : Type 0 → Type 0
Estimates K = ℕ → Option K

-- there is an estimate at p, and it is not after k
abbrev pub AtMost : {K : Type 0} → Algebra K → Estimates K → ℕ → K → Type 0
AtMost {K} a h p k = (x : K) × (h p ≡ Some x) × (a.before k x ≡ false)

-- never after the cost of a solution, and a dead end only where there is none
abbrev pub Admissible : {K : Type 0} → Model → Algebra K → Estimates K → Type 0
Admissible {K} t a h = (p : ℕ) (actions : List ℕ) (k : K) → Solution t a p actions k → AtMost a h p k

-- by this action it falls by no more than the charge, and a dead end leads only to dead ends
abbrev pub ConsistentAt : {K : Type 0} → Model → Algebra K → Estimates K → ℕ → ℕ → Type 0
ConsistentAt {K} t a h p action = (to : Transition) → t.transition p action ≡ Some to → (y : K) → h to.state ≡ Some y → AtMost a h p (a.plus (a.charge to.coins) y)

-- so along every transition
abbrev pub Consistent : {K : Type 0} → Model → Algebra K → Estimates K → Type 0
Consistent t a h = (p action : ℕ) → ConsistentAt t a h p action

-- every estimate is of size at most 2 ^ 40
abbrev pub Bounded : {K : Type 0} → Algebra K → Estimates K → Type 0
Bounded {K} a h = (p : ℕ) (x : K) → h p ≡ Some x → a.size x ≤ 2 ^ 40
