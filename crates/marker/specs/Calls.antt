-- What the calls of a marking are handed, what they answer and what they leave.
use Rattle.std.specs.Prelude.{◌≡◌, ℕ, ◌+◌, List, Some, None, Ok, Err, Option, Result}
use Rattle.planning.specs.declared.cost.Record.{Record}
use Rattle.planning.specs.declared.refusal.Refusal.{Refusal}
use Rattle.planning.specs.declared.refusal.Refusal.TheVariants.{Foreign}
use Rattle.planning.specs.declared.status.Status.{Status}
use Rattle.planning.specs.Costs.{Algebra}
use Rattle.planning.specs.Estimates.{Estimates}
use Rattle.planning.specs.Histories.{Owned, History, never, own}
use Rattle.planning.specs.Lists.{Waiting}
use Rattle.planning.specs.Search.{Numbers, Memory, Configuration, Advanced, Stopped}
use Rattle.planning.specs.Task.{Model}
use Rattle.planning.specs.Theorem.{Promised, Unstarted}
use Rattle.marker.specs.declared.marking.Marking.{Marking}

-- a table and the entries that wait
abbrev pub memory_of : {K : Type 0} → List (Record K) → Waiting K → Memory K
memory_of table waiting = record { table = table; waiting = waiting }

abbrev pub numbers_of : Marking → Numbers
numbers_of m = record { status = m.status; turns = m.turns; limit = m.limit; state = m.state; action = m.action }

abbrev pub configuration_of : {K : Type 0} → Marking → List (Record K) → Waiting K → Configuration K
configuration_of m table waiting = record { numbers = numbers_of m; memory = memory_of table waiting }

-- one turn more, with this status
pub record Counts (m : Marking) (now : Status) (m' : Marking) : Type 0 where
  pub status : m'.status ≡ now
  pub turns : m'.turns ≡ m.turns + 1
  pub limit : m'.limit ≡ m.limit
  pub state : m'.state ≡ m.state
  pub action : m'.action ≡ m.action

-- the answer is the marking's status and turns
abbrev pub Tells : Marking → Status × ℕ → Type 0
Tells m told = (told.0 ≡ m.status) × (told.1 ≡ m.turns)

-- the refusal of a foreign entry, and what holds of its place
abbrev pub Meets : (ℕ → Type 0) → Refusal → Type 0
Meets P e = (place : ℕ) × (e ≡ Foreign place) × P place

-- marking, list and table are as they were
pub record Unchanged {K L : Type 0} (m m' : Marking) (l l' : L) (xs xs' : List (Record K)) : Type 0 where
  pub marking : m' ≡ m
  pub list : l' ≡ l
  pub table : xs' ≡ xs

-- an advance, by its first failing check: that refusal and nothing changed; else, of a list in order, the
-- turns that were made, or a stop at a foreign entry
abbrev pub AdvanceAnswers : {K L : Type 0} → Model → Algebra K → Estimates K → (L → Waiting K) → (L → Type 0) → ℕ → Marking → Marking → L → L → List (Record K) → List (Record K) → Option Refusal → Result (Status × ℕ) Refusal → Type 0
AdvanceAnswers t a h waiting ordered budget m m' l l' xs xs' (Some e) r =
    (r ≡ Err e) × Unchanged m m' l l' xs xs'
AdvanceAnswers t a h waiting ordered budget m m' l l' xs xs' None (Ok told) =
    Tells m' told × (ordered l → Advanced t a a.computed h budget (configuration_of m xs (waiting l)) (configuration_of m' xs' (waiting l')))
AdvanceAnswers t a h waiting ordered budget m m' l l' xs xs' None (Err e) =
    (place : ℕ) × (e ≡ Foreign place) × (ordered l → Stopped t a a.computed h budget place (configuration_of m xs (waiting l)) (configuration_of m' xs' (waiting l')))

-- the task, the estimates and the memory are the marking's own
pub record Holds {K : Type 0} (t : Model) (h : Estimates K) (m : Memory K) (o : Owned K) : Type 0 where
  pub task : o.task ≡ t
  pub estimates : o.estimates ≡ h
  pub memory : o.memory ≡ m

-- the central theorem at one marking: what its numbers mean after every history in which it was never
-- started, or in which these are its own things
pub record Kept {K : Type 0} (a : Algebra K) (n : Numbers) (t : Model) (h : Estimates K) (m : Memory K) : Type 0 where
  pub unstarted : History a n never → Unstarted n
  pub promised : (o : Owned K) → Holds t h m o → History a n (own o) → Promised a n o
