-- Which actions of the small tasks are optimal, by coins and by coins then actions.
use Rattle.std.specs.Prelude.{ℕ}
use Rattle.planning.specs.Costs.{Algebra}
use Rattle.planning.specs.Paths.{Optimal, Solvable}
use Rattle.planning.specs.Task.{Model}
use Rattle.costs.specs.Coins.{coins_algebra}
use Rattle.costs.specs.CoinsThenActions.{pair_algebra}
use Rattle.small_tasks.specs.Tasks.{K, L, J}

-- there are solutions, and no cheapest one begins with the action
abbrev pub Suboptimal : {C : Type 0} → Model → Algebra C → ℕ → ℕ → Type 0
Suboptimal t a state action = Solvable t a state × (Optimal t a state action → ⊥)

-- of each task, state and action
pub record Verdicts : Type 0 where
  pub l_0_0 : Optimal L coins_algebra 0 0
  pub l_0_1 : Optimal L coins_algebra 0 1
  pub l_0_5 : Optimal L coins_algebra 0 5
  pub l_0_6 : Optimal L coins_algebra 0 6
  pub l_1_2 : Optimal L coins_algebra 1 2
  pub j_0_0 : Optimal J coins_algebra 0 0
  pub j_0_1 : Optimal J coins_algebra 0 1
  pub l_0_4 : Suboptimal L coins_algebra 0 4
  pub l_1_0 : Suboptimal L coins_algebra 1 0
  pub l_1_1 : Suboptimal L coins_algebra 1 1
  pub k_0 : Solvable K coins_algebra 0 → ⊥
  -- an action that does nothing costs no coins, but it is an action
  pub pairs_l_0_0 : Optimal L pair_algebra 0 0
  pub pairs_l_0_5 : Suboptimal L pair_algebra 0 5
