-- Histories: what may have been done with a marking, and what its holder still has of the search.
use Rattle.std.specs.Prelude.{ℕ, ◌+◌, List}
use Rattle.planning.specs.declared.cost.Record.{Record}
use Rattle.planning.specs.declared.status.Status.TheVariants.{Fresh}
use Rattle.planning.specs.Costs.{Algebra}
use Rattle.planning.specs.Estimates.{Estimates}
use Rattle.planning.specs.Search.{Numbers, Memory, Configuration, Started, Advanced, Stopped}
use Rattle.planning.specs.Task.{Model}

-- a marking that was never started
abbrev pub fresh_numbers : Numbers
fresh_numbers = record { status = Fresh; turns = 0; limit = 0; state = 0; action = 0 }

-- what belongs to a started marking: the task and the estimates, the memory as it is now, what the start was given,
-- and how many turns were granted since
pub record Owned (K : Type 0) : Type 0 where
  pub task : Model
  pub estimates : Estimates K
  pub memory : Memory K
  pub state : ℕ
  pub action : ℕ
  pub limit : ℕ
  pub granted : ℕ

-- no start was accepted yet; or something was done since that no promise covers; or the marking has its own things
pub data Holding (K : Type 0) : Type 0 where
  never : Holding K
  strayed : Holding K
  own : Owned K → Holding K

abbrev pub configuration : {K : Type 0} → Numbers → Owned K → Configuration K
configuration n o = record { numbers = n; memory = o.memory }

abbrev pub begun : {K : Type 0} → Model → Estimates K → Memory K → ℕ → ℕ → ℕ → Owned K
begun t h m state action limit = record { task = t; estimates = h; memory = m; state = state; action = action; limit = limit; granted = 0 }

-- the memory is now m, and more turns were granted
abbrev pub granting : {K : Type 0} → Owned K → ℕ → Memory K → Owned K
granting o more m = record { task = o.task; estimates = o.estimates; memory = m; state = o.state; action = o.action; limit = o.limit; granted = o.granted + more }

-- every sequence of calls, told by what they leave; sums are the computed ones
pub data History {K : Type 0} (a : Algebra K) : Numbers → Holding K → Type 0 where
  fresh : History a fresh_numbers never
  -- a start or an advance that was refused and changed nothing, whatever it was given
  refused : {n : Numbers} {had : Holding K} → History a n had → History a n had
  looked : {n : Numbers} {had : Holding K} → History a n had → History a n had
  -- an accepted start makes everything own, whatever was before
  started : {n : Numbers} {had : Holding K} {t : Model} {h : Estimates K} {state action limit : ℕ} {table : List (Record K)} {c : Configuration K} → History a n had → Started t a a.computed h state action limit table c → History a c.numbers (own (begun t h c.memory state action limit))
  -- an accepted advance with its own things grants its budget
  advanced : {n : Numbers} {o : Owned K} {budget : ℕ} {c : Configuration K} → History a n (own o) → Advanced o.task a a.computed o.estimates budget (configuration n o) c → History a c.numbers (own (granting o budget c.memory))
  -- an advance with its own things that a foreign entry stopped grants nothing
  stopped : {n : Numbers} {o : Owned K} {budget place : ℕ} {c : Configuration K} → History a n (own o) → Stopped o.task a a.computed o.estimates budget place (configuration n o) c → History a c.numbers (own (granting o 0 c.memory))
  -- anything else, which may leave any marking
  strays : {n : Numbers} {had : Holding K} → History a n had → (n' : Numbers) → History a n' strayed
