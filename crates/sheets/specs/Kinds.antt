-- What both kinds of sheet share: what reading one answers, and what it leaves in the caller's tables.
use Rattle.std.specs.Prelude.{◌≡◌, ℕ, ◌<◌, ◌≤◌, cond, Bool, ◌&&◌, List, [], ◌∷◌, ◌++◌, map, length, drop, Some, None, Option, Ok, Err, Result, ◌==◌, nat_le, nat_lt}
use Rattle.std.specs.List.{slice_get}
use Rattle.planning.specs.declared.refusal.Refusal.{Refusal}
use Rattle.planning.specs.declared.refusal.Refusal.TheVariants.{Count, Short, NoAction}
use Rattle.planning.specs.declared.task.Transition.{Transition}
use Rattle.planning.specs.declared.refusal.Refusal.TheVariants as refusals
use Rattle.planning.specs.Checks.{Check, first_failing}
use Rattle.planning.specs.Task.{Model}
use Rattle.sheet_layout.specs.Frame.{Action, KindOf, opening_checks, actions_check, record_place, records_checks, actions_from}
use Rattle.sheet_layout.specs.Numbers.{Bytes, num16}
use Rattle.sheets.specs.declared.kind.Kind.{Kind}
use Rattle.sheets.specs.declared.kind.Kind.TheVariants.{Strips, FiniteDomain}

-- the byte of a kind, and the kind of a byte
abbrev pub code_of : Kind → ℕ
code_of Strips = 1
code_of FiniteDomain = 2

abbrev pub kind_of : ℕ → Option Kind
kind_of code = cond (code == 1) (Some Strips) (cond (code == 2) (Some FiniteDomain) None)

-- the kind of a byte, or the refusal of a byte that stands for none
abbrev pub Decoded : ℕ → Result Kind Refusal → Type 0
Decoded code (Ok kind) = kind_of code ≡ Some kind
Decoded code (Err e) = (kind_of code ≡ None) × (e ≡ refusals.Kind)

-- the checks of the number of facts or variables, and of actions, which come first in either head
abbrev pub sizes_checks : ℕ → ℕ → List Check
sizes_checks size actions = record { passes = nat_le 1 size && nat_le size 16; refusal = Count 6 } ∷ actions_check actions ∷ []

-- what a kind of sheet has of its own: its contents and what their actions do; the layout of a record;
-- the checks of the head, and where the records begin; what a head says by the places of a sheet, and
-- which contents it is the head of; what an action is in the tables
pub record Reading (Head Entry : Type 0) : Type 1 where
  pub Content : Type 0
  pub Does : Type 0
  pub kind : KindOf
  pub head_checks : List ℕ → List Check
  pub first : List ℕ → ℕ
  pub HeadAt : List ℕ → Head → Type 0
  pub count : Head → ℕ
  pub begins : Head → ℕ
  pub LaidOut : List ℕ → Content → Type 0
  pub HeadOf : Head → Content → Type 0
  pub actions : Content → List (Action Does)
  pub does_at : List ℕ → ℕ → Does
  pub enters : Does → Entry
  pub blank : Entry

-- the checks of a sheet, in their order
abbrev pub checks_of : {Head Entry : Type 0} → Reading Head Entry → List ℕ → List Check
checks_of r bs = opening_checks r.kind bs ++ (r.head_checks bs ++ records_checks r.kind bs (num16 bs 7) (r.first bs))

-- accepted with the head of the content whose layout the sheet is; refused, where it is the layout of
-- no valid content, by the first check that fails
abbrev pub Checked : {Head Entry : Type 0} → Reading Head Entry → List ℕ → Result Head Refusal → Type 0
Checked r bs (Ok h) = (c : r.Content) × r.LaidOut bs c × r.HeadOf h c
Checked r bs (Err e) = (first_failing (checks_of r bs) ≡ Some e) × ((c : r.Content) → r.LaidOut bs c → ⊥)

-- a sheet is the layout of at most one valid content
abbrev pub OneContent : {Head Entry : Type 0} → Reading Head Entry → List ℕ → Type 0
OneContent r bs = (c d : r.Content) → r.LaidOut bs c → r.LaidOut bs d → c ≡ d

-- what an action of a content is in the tables
abbrev pub entering : {Head Entry : Type 0} (r : Reading Head Entry) → Action r.Does → Entry
entering r x = r.enters x.does

abbrev pub priced : {C : Type 0} → Action C → ℕ
priced x = x.coins

-- the last check of a reading call: both tables are long enough
abbrev pub room_check : ℕ → ℕ → ℕ → Check
room_check needed actions prices = record { passes = nat_le needed actions && nat_le needed prices; refusal = Short needed }

-- a table whose first entries hold the actions, and whose rest is as it was
abbrev pub Filled : {C X : Type 0} → (Action C → X) → List (Action C) → List X → List X → Type 0
Filled f xs table table' = table' ≡ map f xs ++ drop (length xs) table

-- a table that begins with the actions
abbrev pub Begins : {C X : Type 0} → (Action C → X) → List (Action C) → List X → Type 0
Begins {X = X} f xs table = (rest : List X) × (table ≡ map f xs ++ rest)

-- the tables hold the content, or they are untouched
abbrev pub ReadInto : {Head Entry : Type 0} → Reading Head Entry → List ℕ → List Entry → List ℕ → List Entry → List ℕ → Result Head Refusal → Type 0
ReadInto r bs actions prices actions' prices' (Ok h) =
    (c : r.Content) × r.LaidOut bs c × r.HeadOf h c × Filled (entering r) (r.actions c) actions actions' × Filled priced (r.actions c) prices prices'
ReadInto r bs actions prices actions' prices' (Err e) =
    (first_failing (checks_of r bs ++ (room_check (num16 bs 7) (length actions) (length prices) ∷ [])) ≡ Some e) × (actions' ≡ actions) × (prices' ≡ prices)

-- the last check of a call for a record: the number is that of an action
abbrev pub number_check : ℕ → ℕ → Check
number_check actions number = record { passes = nat_lt number actions; refusal = NoAction number }

-- the place of a record by its number, in a sheet that passes
abbrev pub Numbered : {Head Entry : Type 0} → Reading Head Entry → List ℕ → ℕ → Result ℕ Refusal → Type 0
Numbered r bs number (Ok at) = (first_failing (checks_of r bs) ≡ None) × (number < num16 bs 7) × (at ≡ record_place bs number (r.first bs))
Numbered r bs number (Err e) = first_failing (checks_of r bs ++ (number_check (num16 bs 7) number ∷ [])) ≡ Some e

-- what holds of each kind: of the head that its checks let pass, and of the contents whose layouts pass
pub record ReadingLaws {Head Entry : Type 0} (r : Reading Head Entry) : Type 0 where
  pub room : (bs : List ℕ) → first_failing (opening_checks r.kind bs) ≡ None → first_failing (r.head_checks bs) ≡ None → r.first bs ≤ length bs
  pub few_actions : (bs : List ℕ) → first_failing (r.head_checks bs) ≡ None → num16 bs 7 ≤ 512
  pub counted : (bs : List ℕ) (h : Head) → r.HeadAt bs h → r.count h ≡ num16 bs 7
  pub begun : (bs : List ℕ) (h : Head) → r.HeadAt bs h → r.begins h ≡ r.first bs
  pub sound : (bs : List ℕ) → Bytes bs → first_failing (checks_of r bs) ≡ None → (h : Head) → r.HeadAt bs h → (c : r.Content) × r.LaidOut bs c × r.HeadOf h c
  pub complete : (bs : List ℕ) → Bytes bs → (c : r.Content) → r.LaidOut bs c → (first_failing (checks_of r bs) ≡ None) × (r.actions c ≡ actions_from r.kind r.does_at bs (num16 bs 7) (r.first bs))
  pub unique : (bs : List ℕ) → Bytes bs → OneContent r bs

-- what the tasks of a kind of sheet do, by the head: the number of states, where an action leads at a
-- price from a state, the goal; which contents a head fits, and the task that a content describes
pub record Tasks {Head Entry : Type 0} (r : Reading Head Entry) : Type 1 where
  pub states : Head → ℕ
  pub does : Head → ℕ → Entry → ℕ → Option Transition
  pub goal : Head → ℕ → Bool
  pub Fits : Head → r.Content → Type 0
  pub task_of : r.Content → Model

-- the action and the price of a number; an action that a table lacks is never applicable
abbrev pub listed : {Entry : Type 0} → (Entry → ℕ → Option Transition) → Option Entry → Option ℕ → Option Transition
listed does None price = None
listed does (Some x) None = None
listed does (Some x) (Some coins) = does x coins

-- the task of a head over tables of actions and prices
abbrev pub task_over : {Head Entry : Type 0} (r : Reading Head Entry) → Tasks r → Head → List Entry → List ℕ → Model
task_over r t h actions prices = record {
  states = t.states h;
  actions = r.count h;
  transition = λ state action. cond (nat_lt state (t.states h) && nat_lt action (r.count h)) (listed (t.does h state) (slice_get actions action) (slice_get prices action)) None;
  goal = λ state. nat_lt state (t.states h) && t.goal h state;
}

-- over tables that begin with a content, under its head, the task is the one that the content describes
abbrev pub Described : {Head Entry : Type 0} (r : Reading Head Entry) → Tasks r → Head → List Entry → List ℕ → Model → Type 0
Described r t head actions prices m =
    (c : r.Content) → t.Fits head c → Begins (entering r) (r.actions c) actions → Begins priced (r.actions c) prices → m ≡ t.task_of c

-- what holds of the tasks of each kind
pub record TasksLaws {Head Entry : Type 0} (r : Reading Head Entry) (t : Tasks r) : Type 0 where
  pub fits : (bs : List ℕ) (c : r.Content) (h : Head) → r.LaidOut bs c → r.HeadOf h c → t.Fits h c
  pub described : (h : Head) (actions : List Entry) (prices : List ℕ) → Described r t h actions prices (task_over r t h actions prices)
