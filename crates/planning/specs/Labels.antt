-- Labels: a cost and a tag, in one order. A label is earlier when its cost is before,
-- or the costs are equal and only it is tagged.
use Rattle.std.specs.Prelude.{Bool, true, false}
use Rattle.planning.specs.Costs.{Algebra}

pub record Label (K : Type 0) : Type 0 where
  pub cost : K
  pub tagged : Bool

-- whether only the first of two is tagged
abbrev pub only : Bool → Bool → Bool
only true true = false
only true false = true
only false t = false

-- at equal costs the tags decide
abbrev pub tied : Bool → Bool → Bool
tied true tags = false
tied false tags = tags

abbrev pub first : Bool → Bool → Bool
first true rest = true
first false rest = rest

abbrev pub earlier : {K : Type 0} → Algebra K → Label K → Label K → Bool
earlier a x y = first (a.before x.cost y.cost) (tied (a.before y.cost x.cost) (only x.tagged y.tagged))
