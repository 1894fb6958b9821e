-- STRIPS tasks given by a list of actions, and three of them.
use Rattle.std.specs.Prelude.{ℕ, ◌^◌, cond, ◌&&◌, List, [], ◌∷◌, length, Some, None, Option, nat_lt}
use Rattle.std.specs.List.{slice_get}
use Rattle.planning.specs.declared.task.Transition.{Transition}
use Rattle.planning.specs.Task.{Model}
use Rattle.sheets.specs.declared.strips.StripsAction.{StripsAction}
use Rattle.sheets.specs.StripsTasks.{facts_of, subset, applicable, successor}

-- an action with its coins
pub record Priced : Type 0 where
  pub action : StripsAction
  pub coins : ℕ

-- what it needs, adds and deletes, as sets of facts, and its coins
abbrev pub row : ℕ → ℕ → ℕ → ℕ → Priced
row needs adds deletes coins = record { action = record { preconditions = needs; adds = adds; deletes = deletes }; coins = coins }

abbrev pub led : ℕ → ℕ → Option Priced → Option Transition
led facts state None = None
led facts state (Some x) = cond (applicable facts state x.action) (Some (successor facts state x.action x.coins)) None

-- a state is a set of facts, and a goal holds every fact of a set
abbrev pub task : ℕ → ℕ → List Priced → Model
task facts goal rows = record {
  states = 2 ^ facts;
  actions = length rows;
  transition = λ state action. cond (nat_lt state (2 ^ facts)) (led facts state (slice_get rows action)) None;
  goal = λ state. nat_lt state (2 ^ facts) && subset facts (facts_of goal) (facts_of state);
}

-- one fact, which is the goal, and an action that deletes it
abbrev pub rows_k : List Priced
rows_k = row 0 0 1 0 ∷ []

abbrev pub K : Model
K = task 1 1 rows_k

-- three facts, of which the third is the goal
abbrev pub rows_l : List Priced
rows_l = row 0 1 0 1 ∷ row 0 2 0 1 ∷ row 1 4 0 1 ∷ row 2 4 0 1 ∷ row 0 4 0 3 ∷ row 0 0 0 0 ∷ row 0 1 1 1 ∷ []

abbrev pub L : Model
L = task 3 4 rows_l

-- the same facts; the goal is added where both others hold
abbrev pub rows_j : List Priced
rows_j = row 0 1 0 1 ∷ row 0 2 0 1 ∷ row 3 4 0 1 ∷ []

abbrev pub J : Model
J = task 3 4 rows_j
