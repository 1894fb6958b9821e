-- A planning task: numbered states and actions, transitions with base costs, goals.
use Rattle.std.specs.Prelude.{◌≡◌, ℕ, ◌<◌, ◌≤◌, Bool, true, Some, Option}
use Rattle.planning.specs.declared.task.Transition.{Transition}

-- an action is applicable in a state exactly where the transition is there
pub record Model : Type 0 where
  pub states : ℕ
  pub actions : ℕ
  pub transition : ℕ → ℕ → Option Transition
  pub goal : ℕ → Bool

-- a transition between two states by an action
pub record Step (t : Model) (state action : ℕ) (to : Transition) : Type 0 where
  pub from : state < t.states
  pub by : action < t.actions
  pub into : to.state < t.states
  pub coins : to.coins ≤ 1000000

-- the ranges that every task keeps
pub record TaskLaws (t : Model) : Type 0 where
  pub some_state : 1 ≤ t.states
  pub few_states : t.states ≤ 65536
  pub some_action : 1 ≤ t.actions
  pub few_actions : t.actions ≤ 512
  pub step : (state action : ℕ) (to : Transition) → t.transition state action ≡ Some to → Step t state action to
  pub goal : (state : ℕ) → t.goal state ≡ true → state < t.states
