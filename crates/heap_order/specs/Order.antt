-- Entries that may be absent, in one order, and the states that a slice can serve.
use Rattle.std.specs.Prelude.{ℕ, ◌-◌, ◌^◌, min, Bool, true, false, Some, None, Option}
use Rattle.planning.specs.Costs.{Algebra}
use Rattle.planning.specs.Labels.{Label, earlier}

-- a state is a number of 32 bits, so a slice of this length serves the states below this number
abbrev pub room_of : ℕ → ℕ
room_of n = min n (2 ^ 32 - 1)

-- the first comes strictly before the second; an absent entry comes last
abbrev pub ahead : {K : Type 0} → Algebra K → Option (Label K) → Option (Label K) → Bool
ahead a None y = false
ahead a (Some x) None = true
ahead a (Some x) (Some y) = earlier a x y
