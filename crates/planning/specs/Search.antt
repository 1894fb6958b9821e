-- The search of a marking: what a start and each turn make of the table, the waiting entries and the
-- marking's numbers. The only freedom is which of several first entries a turn takes.
use Rattle.std.specs.Prelude.{◌≡◌, ℕ, zero, suc, ◌+◌, ◌<◌, ◌≤◌, Bool, true, false, cond, List, ◌++◌, length, drop, replicate, Some, None, slice_set}
use Rattle.std.specs.List.{slice_get}
use Rattle.planning.specs.declared.cost.Record.{Record}
use Rattle.planning.specs.declared.status.Status.{Status}
use Rattle.planning.specs.declared.status.Status.TheVariants.{Open, Best, Other, Stuck, Spent}
use Rattle.planning.specs.declared.task.Transition.{Transition}
use Rattle.planning.specs.Costs.{Algebra}
use Rattle.planning.specs.Estimates.{Estimates}
use Rattle.planning.specs.Labels.{Label, earlier}
use Rattle.planning.specs.Lists.{Waiting, Emptied, Changed, Put, First}
use Rattle.planning.specs.Task.{Model}

-- the marking's own numbers; the state and the action are the marked ones
pub record Numbers : Type 0 where
  pub status : Status
  pub turns : ℕ
  pub limit : ℕ
  pub state : ℕ
  pub action : ℕ

-- what the caller keeps for the search: a record and perhaps a waiting entry for each state
pub record Memory (K : Type 0) : Type 0 where
  pub table : List (Record K)
  pub waiting : Waiting K

pub record Configuration (K : Type 0) : Type 0 where
  pub numbers : Numbers
  pub memory : Memory K

-- the same records, and the same entry at every state
pub record Same {K : Type 0} (m m' : Memory K) : Type 0 where
  pub table : m'.table ≡ m.table
  pub waiting : (p : ℕ) → m'.waiting p ≡ m.waiting p

abbrev pub label : {K : Type 0} → Record K → Label K
label r = record { cost = r.cost; tagged = r.tagged }

-- an offer is taken where the state is unknown, or the offer is earlier than what is known
abbrev pub takes : {K : Type 0} → Algebra K → Record K → Label K → Bool
takes a r x = cond r.known (earlier a x (label r)) true

-- the offer x is recorded at q; the entry waits with the estimate added, and at a dead end the entries stay
pub record Recorded {K : Type 0} (sum : K → K → K) (h : Estimates K) (q : ℕ) (x : Label K) (m m' : Memory K) : Type 0 where
  pub table : m'.table ≡ slice_set m.table q (record { cost = x.cost; tagged = x.tagged; known = true })
  pub dead_end : h q ≡ None → (p : ℕ) → m'.waiting p ≡ m.waiting p
  pub put : (e : K) → h q ≡ Some e → Put m.waiting m'.waiting q (sum x.cost e) x.tagged

-- the offer x to state q; if it is not taken, nothing changes
pub record Offered {K : Type 0} (a : Algebra K) (sum : K → K → K) (h : Estimates K) (q : ℕ) (x : Label K) (m m' : Memory K) : Type 0 where
  pub found : Record K
  pub at : slice_get m.table q ≡ Some found
  pub taken : takes a found x ≡ true → Recorded sum h q x m m'
  pub passed : takes a found x ≡ false → Same m m'

-- what a state with the label y offers to where an action leads: its cost plus the charge, and its tag
abbrev pub offer : {K : Type 0} → Algebra K → (K → K → K) → Label K → Transition → Label K
offer a sum y to = record { cost = sum y.cost (a.charge to.coins); tagged = y.tagged }

-- state p, with the label y, offers by one action; where that is not applicable, nothing changes
pub record Tried {K : Type 0} (t : Model) (a : Algebra K) (sum : K → K → K) (h : Estimates K) (p : ℕ) (y : Label K) (action : ℕ) (m m' : Memory K) : Type 0 where
  pub inapplicable : t.transition p action ≡ None → Same m m'
  pub applicable : (to : Transition) → t.transition p action ≡ Some to → Offered a sum h to.state (offer a sum y to) m m'

-- state p, with the label y, has offered by each action below a number, in rising order
pub data Swept {K : Type 0} (t : Model) (a : Algebra K) (sum : K → K → K) (h : Estimates K) (p : ℕ) (y : Label K) (m : Memory K) : ℕ → Memory K → Type 0 where
  none : Swept t a sum h p y m zero m
  more : {n : ℕ} {m' m'' : Memory K} → Swept t a sum h p y m n m' → Tried t a sum h p y n m' m'' → Swept t a sum h p y m (suc n) m''

-- some entry waits
pub record Waits {K : Type 0} (w : Waiting K) : Type 0 where
  pub state : ℕ
  pub entry : Label K
  pub waits : w state ≡ Some entry

-- the status without a verdict on the marked action: stuck when nothing waits, spent at the limit, else open
pub data Onward {K : Type 0} (w : Waiting K) (turns limit : ℕ) : Status → Type 0 where
  nothing_waits : Emptied w → Onward w turns limit Stuck
  at_limit : Waits w → limit ≤ turns → Onward w turns limit Spent
  goes_on : Waits w → turns < limit → Onward w turns limit Open

-- one turn more, and otherwise the same numbers but for the status
pub record Counted (n n' : Numbers) : Type 0 where
  pub turns : n'.turns ≡ n.turns + 1
  pub limit : n'.limit ≡ n.limit
  pub state : n'.state ≡ n.state
  pub action : n'.action ≡ n.action

-- a goal is tagged or not
abbrev pub verdict_of : Bool → Status
verdict_of true = Best
verdict_of false = Other

-- the search ends at a goal
pub record Closed {K : Type 0} (r : Record K) (m : Memory K) (c : Configuration K) : Type 0 where
  pub memory : Same m c.memory
  pub status : c.numbers.status ≡ verdict_of r.tagged

-- state p, with the label y, has offered by every action
pub record Expanded {K : Type 0} (t : Model) (a : Algebra K) (sum : K → K → K) (h : Estimates K) (p : ℕ) (y : Label K) (m : Memory K) (c : Configuration K) : Type 0 where
  pub swept : Swept t a sum h p y m t.actions c.memory
  pub status : Onward c.memory.waiting c.numbers.turns c.numbers.limit c.numbers.status

-- a first entry is removed, of a state of the task that is known; then the search ends there, or the state is expanded
pub record Turn {K : Type 0} (t : Model) (a : Algebra K) (sum : K → K → K) (h : Estimates K) (c c' : Configuration K) : Type 0 where
  pub state : ℕ
  pub entry : Label K
  pub first : First a c.memory.waiting state entry
  pub within : state < t.states
  pub found : Record K
  pub at : slice_get c.memory.table state ≡ Some found
  pub known : found.known ≡ true
  -- the memory when the entry is removed
  pub rest : Memory K
  pub table : rest.table ≡ c.memory.table
  pub removed : Changed c.memory.waiting rest.waiting state None
  pub closes : t.goal state ≡ true → Closed found rest c'
  pub expands : t.goal state ≡ false → Expanded t a sum h state (label found) rest c'
  pub counted : Counted c.numbers c'.numbers

-- turns in a row, each from an open configuration
pub data Runs {K : Type 0} (t : Model) (a : Algebra K) (sum : K → K → K) (h : Estimates K) (c : Configuration K) : ℕ → Configuration K → Type 0 where
  still : Runs t a sum h c zero c
  turn : {k : ℕ} {d e : Configuration K} → Runs t a sum h c k d → d.numbers.status ≡ Open → Turn t a sum h d e → Runs t a sum h c (suc k) e

-- a record of which nothing is known
abbrev pub blank : {K : Type 0} → Algebra K → Record K
blank a = record { cost = a.zero; tagged = false; known = false }

-- the first n records become blank, and later ones stay
abbrev pub cleared : {K : Type 0} → Algebra K → ℕ → List (Record K) → List (Record K)
cleared a n table = replicate n (blank a) ++ drop n table

-- the table is cleared and nothing waits
pub record Cleared {K : Type 0} (t : Model) (a : Algebra K) (old : List (Record K)) (m : Memory K) : Type 0 where
  pub table : m.table ≡ cleared a t.states old
  pub waiting : Emptied m.waiting

-- what a start is given: an applicable action of a state that is no goal, a limit in range, a table with room
pub record Startable {K : Type 0} (t : Model) (state action limit : ℕ) (to : Transition) (table : List (Record K)) : Type 0 where
  pub leads : t.transition state action ≡ Some to
  pub no_goal : t.goal state ≡ false
  pub some_turn : 1 ≤ limit
  pub few_turns : limit ≤ 100000000
  pub room : t.states ≤ length table

-- the marked state is offered zero, untagged; then where the marked action leads is offered its charge, tagged
pub record Started {K : Type 0} (t : Model) (a : Algebra K) (sum : K → K → K) (h : Estimates K) (state action limit : ℕ) (table : List (Record K)) (c : Configuration K) : Type 0 where
  pub to : Transition
  pub startable : Startable t state action limit to table
  -- the memory before the two offers
  pub empty : Memory K
  pub is_empty : Cleared t a table empty
  -- the memory between the two offers
  pub between : Memory K
  pub untagged : Offered a sum h state (record { cost = a.zero; tagged = false }) empty between
  pub tagged : Offered a sum h to.state (record { cost = a.charge to.coins; tagged = true }) between c.memory
  pub status : Onward c.memory.waiting 0 limit c.numbers.status
  pub turns : c.numbers.turns ≡ 0
  pub limit_kept : c.numbers.limit ≡ limit
  pub state_kept : c.numbers.state ≡ state
  pub action_kept : c.numbers.action ≡ action

-- an advance: as many turns as the budget, or fewer if the marking is then not open
pub record Advanced {K : Type 0} (t : Model) (a : Algebra K) (sum : K → K → K) (h : Estimates K) (budget : ℕ) (c c' : Configuration K) : Type 0 where
  pub made : ℕ
  pub runs : Runs t a sum h c made c'
  pub within : made ≤ budget
  pub all : c'.numbers.status ≡ Open → made ≡ budget

-- what a turn cannot take: a first entry whose state, the place, is none of the task or unknown; or nothing waits
pub data Foreign {K : Type 0} (t : Model) (a : Algebra K) (m : Memory K) (place : ℕ) : Type 0 where
  outside : (x : Label K) → First a m.waiting place x → t.states ≤ place → Foreign t a m place
  unknown : (x : Label K) (r : Record K) → First a m.waiting place x → place < t.states → slice_get m.table place ≡ Some r → r.known ≡ false → Foreign t a m place
  nothing : Emptied m.waiting → place ≡ t.states → Foreign t a m place

-- an advance that was stopped by a foreign entry before its budget was used; the turns before it stand
pub record Stopped {K : Type 0} (t : Model) (a : Algebra K) (sum : K → K → K) (h : Estimates K) (budget place : ℕ) (c c' : Configuration K) : Type 0 where
  pub made : ℕ
  pub runs : Runs t a sum h c made c'
  pub within : made < budget
  pub goes_on : c'.numbers.status ≡ Open
  pub met : Foreign t a c'.memory place
