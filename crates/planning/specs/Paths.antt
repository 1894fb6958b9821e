-- Paths, solutions and optimal actions.
use Rattle.std.specs.Prelude.{◌≡◌, ℕ, true, false, List, [], ◌∷◌, Some}
use Rattle.planning.specs.declared.task.Transition.{Transition}
use Rattle.planning.specs.Costs.{Algebra}
use Rattle.planning.specs.Task.{Model}

-- a path from a state by a list of actions to a state, with its cost, added from the first action on
pub data Path {K : Type 0} (t : Model) (a : Algebra K) : ℕ → List ℕ → ℕ → K → Type 0 where
  stay : {p : ℕ} → Path t a p [] p a.zero
  step : {p q action : ℕ} {actions : List ℕ} {k : K} (to : Transition) → t.transition p action ≡ Some to → Path t a to.state actions q k → Path t a p (action ∷ actions) q (a.plus (a.charge to.coins) k)

-- a path that ends in a goal
pub record Solution {K : Type 0} (t : Model) (a : Algebra K) (p : ℕ) (actions : List ℕ) (k : K) : Type 0 where
  pub end : ℕ
  pub path : Path t a p actions end k
  pub goal : t.goal end ≡ true

-- a solution that no solution from the same state undercuts
pub record Cheapest {K : Type 0} (t : Model) (a : Algebra K) (p : ℕ) (actions : List ℕ) (k : K) : Type 0 where
  pub solution : Solution t a p actions k
  pub least : (others : List ℕ) (j : K) → Solution t a p others j → a.before j k ≡ false

-- some cheapest solution begins with the action
abbrev pub Optimal : {K : Type 0} → Model → Algebra K → ℕ → ℕ → Type 0
Optimal {K} t a p action = (rest : List ℕ) × (k : K) × Cheapest t a p (action ∷ rest) k

abbrev pub Solvable : {K : Type 0} → Model → Algebra K → ℕ → Type 0
Solvable {K} t a p = (actions : List ℕ) × (k : K) × Solution t a p actions k
