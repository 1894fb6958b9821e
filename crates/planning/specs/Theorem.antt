-- The central theorem: what the status and the turns of a marking mean, after every history.
use Rattle.std.specs.Prelude.{◌≡◌, ℕ, ◌≤◌, Bool, true, false, ◌↔◌, List}
use Rattle.planning.specs.declared.cost.Record.{Record}
use Rattle.planning.specs.declared.status.Status.{Status}
use Rattle.planning.specs.declared.status.Status.TheVariants.{Fresh, Open, Best, Other, Stuck, Spent}
use Rattle.planning.specs.Costs.{Algebra}
use Rattle.planning.specs.Estimates.{Admissible, Consistent, Bounded}
use Rattle.planning.specs.Histories.{Owned, History, never, own, configuration}
use Rattle.planning.specs.Paths.{Optimal, Solvable}
use Rattle.planning.specs.Search.{Numbers, Configuration, Started, Runs, Stopped}
use Rattle.planning.specs.Task.{Model, TaskLaws}

abbrev pub is_verdict : Status → Bool
is_verdict Fresh = false
is_verdict Open = false
is_verdict Best = true
is_verdict Other = true
is_verdict Stuck = true
is_verdict Spent = false

-- the marking is where a start and then as many turns as it has counted lead, by exact sums
pub record Reached {K : Type 0} (a : Algebra K) (n : Numbers) (o : Owned K) : Type 0 where
  pub table : List (Record K)
  pub first : Configuration K
  pub started : Started o.task a a.plus o.estimates o.state o.action o.limit table first
  pub runs : Runs o.task a a.plus o.estimates first n.turns (configuration n o)

-- a verdict says whether some cheapest solution from the state begins with the action
pub record Meaning {K : Type 0} (t : Model) (a : Algebra K) (state action : ℕ) (verdict : Status) : Type 0 where
  pub best : (verdict ≡ Best) ↔ Optimal t a state action
  pub stuck : (verdict ≡ Stuck) ↔ (Solvable t a state → ⊥)
  pub other : (verdict ≡ Other) ↔ (Solvable t a state × (Optimal t a state action → ⊥))

-- the turns never pass the number of states, and once as many are granted there is a verdict
pub record Ends (states : ℕ) (granted : ℕ) (n : Numbers) : Type 0 where
  pub few_turns : n.turns ≤ states
  pub verdict : states ≤ granted → is_verdict n.status ≡ true

-- what is promised of a marking that has its own things
pub record Promised {K : Type 0} (a : Algebra K) (n : Numbers) (o : Owned K) : Type 0 where
  pub reached : Reached a n o
  pub meaning : Admissible o.task a o.estimates → is_verdict n.status ≡ true → Meaning o.task a o.state o.action n.status
  pub ends : Consistent o.task a o.estimates → o.task.states ≤ o.limit → Ends o.task.states o.granted n
  -- an advance is never stopped by a foreign entry
  pub unstopped : (budget place : ℕ) (c : Configuration K) → Stopped o.task a a.computed o.estimates budget place (configuration n o) c → ⊥

-- what is promised of a marking that was never started
pub record Unstarted (n : Numbers) : Type 0 where
  pub status : n.status ≡ Fresh
  pub turns : n.turns ≡ 0

-- the promises hold after every history, for every task and all bounded estimates
pub record Theorem {K : Type 0} (a : Algebra K) : Type 0 where
  pub unstarted : (n : Numbers) → History a n never → Unstarted n
  pub promised : (n : Numbers) (o : Owned K) → TaskLaws o.task → Bounded a o.estimates → History a n (own o) → Promised a n o
