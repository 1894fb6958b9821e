-- The rule of a table: each goal has 0, and under coins its estimates are consistent.
use Rattle.std.specs.Prelude.{◌≡◌, ℕ, ◌+◌, ◌<◌, ◌≤◌, true, List, slice_index}
use Rattle.planning.specs.Costs.{Algebra}
use Rattle.planning.specs.Estimates.{Estimates, Admissible, Consistent, ConsistentAt}
use Rattle.planning.specs.Task.{Model}
use Rattle.planning.specs.declared.refusal.Refusal.{Refusal}
use Rattle.planning.specs.declared.refusal.Refusal.TheVariants.{Inconsistent}
use Rattle.costs.specs.Coins.{coins_algebra}
use Rattle.costs.specs.CoinsThenActions.{pair_algebra}
use Rattle.costs.specs.Counted.{coins_counted, pair_counted}
use Rattle.heuristics.specs.Tables.{OneEach, WrongLength, tabled}

-- the rule at a state's own entry
abbrev pub GoalKept : Model → List ℕ → ℕ → Type 0
GoalKept t numbers p = t.goal p ≡ true → slice_index numbers p ≡ 0

-- the rule at an action of a state
abbrev pub ActionKept : Model → List ℕ → ℕ → ℕ → Type 0
ActionKept t numbers p action = ConsistentAt t coins_algebra (tabled coins_counted numbers) p action

-- the same between two numbers of a table
abbrev pub FallsAtMost : ℕ → ℕ → ℕ → Type 0
FallsAtMost here coins there = there < 4294967295 → (here < 4294967295) × (here ≤ coins + there)

pub record StateKept (t : Model) (numbers : List ℕ) (p : ℕ) : Type 0 where
  pub goal : GoalKept t numbers p
  pub actions : (action : ℕ) → ActionKept t numbers p action

-- each goal has 0, and every action falls by no more than its coins
abbrev pub Kept : Model → List ℕ → Type 0
Kept t numbers = (p : ℕ) → StateKept t numbers p

-- the place of the first breach: lower states keep the rule, and at the state its own entry comes before
-- the actions and is reported as action 65,535
pub data FirstBreach (t : Model) (numbers : List ℕ) : ℕ → ℕ → Type 0 where
  at_entry : {p : ℕ} → ((q : ℕ) → q < p → StateKept t numbers q) → (GoalKept t numbers p → ⊥) → FirstBreach t numbers p 65535
  at_action : {p action : ℕ} → ((q : ℕ) → q < p → StateKept t numbers q) → GoalKept t numbers p → ((b : ℕ) → b < action → ActionKept t numbers p b) → (ActionKept t numbers p action → ⊥) → FirstBreach t numbers p action

pub record Trusted {K : Type 0} (t : Model) (a : Algebra K) (h : Estimates K) : Type 0 where
  pub admissible : Admissible t a h
  pub consistent : Consistent t a h

-- what an accepted table has, under coins and under pairs
pub record Accepted (t : Model) (numbers : List ℕ) : Type 0 where
  pub one_each : OneEach t numbers
  pub kept : Kept t numbers
  pub coins : Trusted t coins_algebra (tabled coins_counted numbers)
  pub pairs : Trusted t pair_algebra (tabled pair_counted numbers)

-- why a table is refused, where its length is looked at first
pub data Refused (t : Model) (numbers : List ℕ) : Refusal → Type 0 where
  wrong_length : {e : Refusal} → WrongLength t numbers e → Refused t numbers e
  breached : {p action : ℕ} → OneEach t numbers → FirstBreach t numbers p action → Refused t numbers (Inconsistent p action)
