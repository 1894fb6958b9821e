-- Tables of estimates: a number for each state.
use Rattle.std.specs.Prelude.{◌≡◌, ℕ, cond, List, length, Some, None, Option, nat_lt, slice_index}
use Rattle.planning.specs.Estimates.{Estimates}
use Rattle.planning.specs.Task.{Model}
use Rattle.planning.specs.declared.refusal.Refusal.{Refusal}
use Rattle.planning.specs.declared.refusal.Refusal.TheVariants.{TableLength}

-- what a number means: so many coins, but for 4,294,967,295, the largest of 32 bits, which is a dead end
abbrev pub meant : {K : Type 0} → (ℕ → K) → ℕ → Option K
meant count n = cond (nat_lt n 4294967295) (Some (count n)) None

-- the estimates of a table; outside it the number is 0
abbrev pub tabled : {K : Type 0} → (ℕ → K) → List ℕ → Estimates K
tabled count numbers p = meant count (slice_index numbers p)

-- one number for each state
abbrev pub OneEach : Model → List ℕ → Type 0
OneEach t numbers = length numbers ≡ t.states

-- the refusal of a table of another length
abbrev pub WrongLength : Model → List ℕ → Refusal → Type 0
WrongLength t numbers e = (e ≡ TableLength t.states) × (OneEach t numbers → ⊥)
