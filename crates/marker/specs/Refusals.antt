-- When the calls of a marking refuse: their checks, in ascending number.
use Rattle.std.specs.Prelude.{◌≡◌, ℕ, ◌≤◌, Bool, true, false, not, ◌&&◌, List, [], ◌∷◌, is_some, Some, nat_le, nat_lt}
use Rattle.planning.specs.declared.refusal.Refusal.TheVariants.{Short, Range, NoState, NoAction, Inapplicable, AtGoal, NotOpen}
use Rattle.planning.specs.declared.status.Status.{Status}
use Rattle.planning.specs.declared.status.Status.TheVariants.{Fresh, Open, Best, Other, Stuck, Spent}
use Rattle.planning.specs.declared.task.Transition.{Transition}
use Rattle.planning.specs.Checks.{Check}
use Rattle.planning.specs.Search.{Numbers}
use Rattle.planning.specs.Task.{Model}

-- the table has a record for each state, and the list has room for each
abbrev pub room_check : Model → ℕ → ℕ → Check
room_check t records room = record { passes = nat_le t.states records && nat_le t.states room; refusal = Short t.states }

abbrev pub start_checks : Model → ℕ → ℕ → ℕ → ℕ → ℕ → List Check
start_checks t records room state action limit =
    room_check t records room
    ∷ record { passes = nat_le 1 limit && nat_le limit 100000000; refusal = Range }
    ∷ record { passes = nat_lt state t.states; refusal = NoState state }
    ∷ record { passes = nat_lt action t.actions; refusal = NoAction action }
    ∷ record { passes = is_some (t.transition state action); refusal = Inapplicable action }
    ∷ record { passes = not (t.goal state); refusal = AtGoal state }
    ∷ []

abbrev pub is_open : Status → Bool
is_open Fresh = false
is_open Open = true
is_open Best = false
is_open Other = false
is_open Stuck = false
is_open Spent = false

abbrev pub advance_checks : Model → ℕ → ℕ → ℕ → Numbers → List Check
advance_checks t records room budget n =
    room_check t records room
    ∷ record { passes = nat_le budget 1000000; refusal = Range }
    ∷ record { passes = is_open n.status; refusal = NotOpen n.turns }
    ∷ []

-- what holds of the arguments of a start where no check fails
pub record Admitted (t : Model) (table list state action limit : ℕ) (to : Transition) : Type 0 where
  pub records : t.states ≤ table
  pub room : t.states ≤ list
  pub some_turn : 1 ≤ limit
  pub few_turns : limit ≤ 100000000
  pub leads : t.transition state action ≡ Some to
  pub no_goal : t.goal state ≡ false
