-- Finite-domain tasks: a state gives each variable a value; an action needs values and sets values.
--
-- Values stand in lists by variable. `counts` has the number of values of each variable. Where values are
-- named for some variables only, by a goal, by preconditions or by effects, 255 stands for the others.
use Rattle.std.specs.Prelude.{◌≡◌, ℕ, ◌+◌, ◌*◌, ◌/◌, ◌%◌, ◌<◌, min, Bool, true, cond, ◌&&◌, ◌||◌, List, [], ◌∷◌, map, length, take, Some, None, Option, ◌==◌, nat_lt}
use Rattle.std.specs.List.{slice_get, AllZip}
use Rattle.planning.specs.declared.task.Transition.{Transition}
use Rattle.planning.specs.Task.{Model}
use Rattle.sheet_layout.specs.FiniteDomain.{FiniteDomainContent, ValidFiniteDomain, product, value_or_any}
use Rattle.sheets.specs.FiniteDomainReading.{FiniteDomainHeadOf, entered, finite_domain_reading}
use Rattle.sheets.specs.Kinds.{Tasks, Described, listed, priced}
use Rattle.sheets.specs.declared.finite_domain.FiniteDomainAction.{FiniteDomainAction}
use Rattle.sheets.specs.declared.head.FiniteDomainHead.{FiniteDomainHead}

-- the number of a state by its values: v0 + n0·(v1 + n1·(v2 + ...))
abbrev pub encode : List ℕ → List ℕ → ℕ
encode [] values = 0
encode (n ∷ counts) [] = 0
encode (n ∷ counts) (v ∷ values) = v + n * encode counts values

-- the values of a state by its number
abbrev pub decode : List ℕ → ℕ → List ℕ
decode [] state = []
decode (n ∷ counts) state = state % n ∷ decode counts (state / n)

-- a value for each variable, one of its own
abbrev pub InRange : List ℕ → List ℕ → Type 0
InRange counts values = AllZip (λ v n. v < n) values counts

-- numbers of states and lists of values in range stand for each other
pub record Numbering (counts : List ℕ) : Type 0 where
  pub below : (values : List ℕ) → InRange counts values → encode counts values < product counts
  pub range : (state : ℕ) → state < product counts → InRange counts (decode counts state)
  pub back : (values : List ℕ) → InRange counts values → decode counts (encode counts values) ≡ values
  pub forth : (state : ℕ) → state < product counts → encode counts (decode counts state) ≡ state

-- the state in which the variables have these values, where they are in range
abbrev pub StateWith : List ℕ → List ℕ → Option ℕ → Type 0
StateWith counts values (Some state) = InRange counts values × (state ≡ encode counts values)
StateWith counts values None = InRange counts values → ⊥

-- every value that is named is the state's
abbrev pub holds : List ℕ → List ℕ → Bool
holds [] values = true
holds (x ∷ named) [] = true
holds (x ∷ named) (v ∷ values) = (x == 255 || x == v) && holds named values

-- the values with those that are named in place of the old ones
abbrev pub changed : List ℕ → List ℕ → List ℕ
changed [] values = values
changed (x ∷ named) [] = []
changed (x ∷ named) (v ∷ values) = cond (x == 255) v x ∷ changed named values

-- only variables that are there are named, each with a value that is there
abbrev pub names : List ℕ → List ℕ → Bool
names counts [] = true
names [] (x ∷ named) = x == 255 && names [] named
names (n ∷ counts) (x ∷ named) = value_or_any x n && names counts named

-- an action is applicable where its preconditions hold
abbrev pub applicable : List ℕ → List ℕ → FiniteDomainAction → Bool
applicable counts values x = names counts x.preconditions && (names counts x.effects && holds x.preconditions values)

abbrev pub successor : List ℕ → List ℕ → FiniteDomainAction → ℕ → Transition
successor counts values x coins = record { state = encode counts (changed x.effects values); coins = min coins 1000000 }

-- where an action leads, at a price
abbrev pub performing : List ℕ → List ℕ → FiniteDomainAction → ℕ → Option Transition
performing counts values x coins = cond (applicable counts values x) (Some (successor counts values x coins)) None

-- the action and the price of a number; an action that a table lacks is never applicable
abbrev pub performed : List ℕ → List ℕ → Option FiniteDomainAction → Option ℕ → Option Transition
performed counts values = listed (performing counts values)

-- the numbers of values of a head's variables
abbrev pub counts_of : FiniteDomainHead → List ℕ
counts_of h = take h.variables h.counts

-- the task of variables with so many values each and so many actions, with a goal and tables of actions and prices
abbrev pub finite_domain_over : List ℕ → ℕ → List ℕ → List FiniteDomainAction → List ℕ → Model
finite_domain_over counts count goal actions prices = record {
  states = product counts;
  actions = count;
  transition = λ state action. cond (nat_lt state (product counts) && nat_lt action count) (performed counts (decode counts state) (slice_get actions action) (slice_get prices action)) None;
  goal = λ state. nat_lt state (product counts) && holds goal (decode counts state);
}

abbrev pub finite_domain_model : FiniteDomainHead → List FiniteDomainAction → List ℕ → Model
finite_domain_model h = finite_domain_over (counts_of h) h.actions h.goal

-- the task that the content of a sheet describes
abbrev pub finite_domain_task_of : FiniteDomainContent → Model
finite_domain_task_of c = finite_domain_over c.counts (length c.actions) c.goal (map entered c.actions) (map priced c.actions)

-- what the tasks of sheets of variables do
abbrev pub finite_domain_tasks : Tasks finite_domain_reading
finite_domain_tasks = record {
  states = λ h. product (counts_of h);
  does = λ h state. performing (counts_of h) (decode (counts_of h) state);
  goal = λ h state. holds h.goal (decode (counts_of h) state);
  Fits = λ h c. ValidFiniteDomain c × FiniteDomainHeadOf h c;
  task_of = finite_domain_task_of;
}

-- over tables that begin with a valid content, under its head, the task is the one that the content describes
abbrev pub FiniteDomainDescribed : FiniteDomainHead → List FiniteDomainAction → List ℕ → Model → Type 0
FiniteDomainDescribed = Described finite_domain_reading finite_domain_tasks
