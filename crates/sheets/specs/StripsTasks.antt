-- STRIPS: a state is a set of facts; an action needs, deletes and adds facts.
use Rattle.std.specs.Prelude.{ℕ, zero, suc, ◌+◌, ◌/◌, ◌%◌, ◌^◌, min, Bool, true, cond, not, ◌&&◌, ◌||◌, List, map, length, Some, None, Option, ◌==◌, nat_lt}
use Rattle.std.specs.List.{slice_get}
use Rattle.planning.specs.declared.task.Transition.{Transition}
use Rattle.planning.specs.Task.{Model}
use Rattle.sheet_layout.specs.Strips.{StripsContent}
use Rattle.sheets.specs.Kinds.{Tasks, Described, listed}
use Rattle.sheets.specs.Reading.{HeadOf, tabled, priced, strips_reading}
use Rattle.sheets.specs.declared.head.StripsHead.{StripsHead}
use Rattle.sheets.specs.declared.strips.StripsAction.{StripsAction}

-- a set of facts says of each fact whether it holds
abbrev pub Facts : Type 0
Facts = ℕ → Bool

-- the set that a number stands for: bit i is fact i
abbrev pub facts_of : ℕ → Facts
facts_of set i = (set / 2 ^ i % 2) == 1

-- the number of a set of facts below n
abbrev pub set_of : ℕ → Facts → ℕ
set_of zero f = 0
set_of (suc n) f = set_of n f + cond (f n) (2 ^ n) 0

-- every fact below n that holds in the first set holds in the second
abbrev pub subset : ℕ → Facts → Facts → Bool
subset zero f g = true
subset (suc n) f g = subset n f g && (not (f n) || g n)

-- the facts after an action: what it deletes goes first, then what it adds comes
abbrev pub applied : Facts → Facts → Facts → Facts
applied state deletes adds i = (state i && not (deletes i)) || adds i

-- an action that names only facts below n
abbrev pub names : ℕ → StripsAction → Bool
names n x = nat_lt x.preconditions (2 ^ n) && (nat_lt x.adds (2 ^ n) && nat_lt x.deletes (2 ^ n))

abbrev pub applicable : ℕ → ℕ → StripsAction → Bool
applicable n state x = names n x && subset n (facts_of x.preconditions) (facts_of state)

abbrev pub successor : ℕ → ℕ → StripsAction → ℕ → Transition
successor n state x coins = record {
  state = set_of n (applied (facts_of state) (facts_of x.deletes) (facts_of x.adds));
  coins = min coins 1000000;
}

-- where an action leads, at a price
abbrev pub performing : ℕ → ℕ → StripsAction → ℕ → Option Transition
performing n state x coins = cond (applicable n state x) (Some (successor n state x coins)) None

-- the action and the price of a number; an action that a table lacks is never applicable
abbrev pub performed : ℕ → ℕ → Option StripsAction → Option ℕ → Option Transition
performed n state = listed (performing n state)

-- the task of so many facts and actions, with a goal and tables of actions and prices
abbrev pub strips_over : ℕ → ℕ → ℕ → List StripsAction → List ℕ → Model
strips_over n count goal actions prices = record {
  states = 2 ^ n;
  actions = count;
  transition = λ state action. cond (nat_lt state (2 ^ n) && nat_lt action count) (performed n state (slice_get actions action) (slice_get prices action)) None;
  goal = λ state. nat_lt state (2 ^ n) && subset n (facts_of goal) (facts_of state);
}

abbrev pub strips_model : StripsHead → List StripsAction → List ℕ → Model
strips_model h = strips_over h.facts h.actions h.goal

-- the task that the content of a sheet describes
abbrev pub strips_task_of : StripsContent → Model
strips_task_of c = strips_over c.facts (length c.actions) c.goal (map tabled c.actions) (map priced c.actions)

-- what the tasks of fact sheets do
abbrev pub strips_tasks : Tasks strips_reading
strips_tasks = record {
  states = λ h. 2 ^ h.facts;
  does = λ h. performing h.facts;
  goal = λ h state. subset h.facts (facts_of h.goal) (facts_of state);
  Fits = HeadOf;
  task_of = strips_task_of;
}

-- over tables that begin with the content, under its head, the task is the one that the content describes
abbrev pub StripsDescribed : StripsHead → List StripsAction → List ℕ → Model → Type 0
StripsDescribed = Described strips_reading strips_tasks
