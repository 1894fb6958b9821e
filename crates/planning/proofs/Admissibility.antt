-- Consistent estimates that are zero at goals are admissible.
use Rattle.std.proofs.Common.{◌≡◌, ℕ, true, false, List, Some, arith}
use Rattle.planning.specs.Costs.{Algebra, CostLaws}
use Rattle.planning.specs.Estimates.{Estimates, AtMost, Admissible, Consistent}
use Rattle.planning.specs.Paths.{Path, stay, step}
use Rattle.planning.specs.Task.{Model}

-- "not before" is transitive
pub not_before_trans : {K : Type 0} (a : Algebra K) → CostLaws a → (x y z : K) → a.before x y ≡ false → a.before y z ≡ false → a.before x z ≡ false
not_before_trans a laws x y z p q = grind (arith, laws.transitive, laws.total)

along : {K : Type 0} (t : Model) (a : Algebra K) → CostLaws a → (h : Estimates K) → Consistent t a h → {p q : ℕ} {actions : List ℕ} {k : K} → h q ≡ Some a.zero → Path t a p actions q k → AtMost a h p k
along t a laws h consistent zero stay = (a.zero, zero, laws.irreflexive a.zero)
along t a laws h consistent zero (step {p = p} {action = action} {k = k} to e rest) =
    let below = along t a laws h consistent zero rest in
    let here = consistent p action to e below.0 below.1 in
    let front = laws.isotone_front below.0 k (a.charge to.coins) below.2 in
    (here.0, here.1, not_before_trans a laws _ _ _ front here.2)

pub consistent_admissible : {K : Type 0} (t : Model) (a : Algebra K) → CostLaws a → (h : Estimates K) → ((p : ℕ) → t.goal p ≡ true → h p ≡ Some a.zero) → Consistent t a h → Admissible t a h
consistent_admissible t a laws h zero consistent p actions k s =
    along t a laws h consistent (zero s.end s.goal) s.path
