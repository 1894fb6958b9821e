-- What the answer of one whole marking says, with no word of histories.
use Rattle.std.specs.Prelude.{◌≡◌, ℕ, ◌≤◌, Bool, true, false}
use Rattle.planning.specs.declared.status.Status.{Status}
use Rattle.planning.specs.declared.status.Status.TheVariants.{Fresh, Open, Best, Other, Stuck, Spent}
use Rattle.planning.specs.Costs.{Algebra}
use Rattle.planning.specs.Estimates.{Estimates, Admissible, Consistent}
use Rattle.planning.specs.Histories.{begun}
use Rattle.planning.specs.Search.{Memory}
use Rattle.planning.specs.Task.{Model}
use Rattle.planning.specs.Theorem.{is_verdict, Meaning, Reached}

-- a verdict, or spent
abbrev pub is_end : Status → Bool
is_end Fresh = false
is_end Open = false
is_end Best = true
is_end Other = true
is_end Stuck = true
is_end Spent = true

-- a status and a number of turns, with the memory m that is left
pub record Marked {K : Type 0} (t : Model) (a : Algebra K) (h : Estimates K) (m : Memory K) (state action limit : ℕ) (told : Status × ℕ) : Type 0 where
  pub ended : is_end told.0 ≡ true
  -- a start and then as many turns lead there
  pub reached : Reached a (record { status = told.0; turns = told.1; limit = limit; state = state; action = action }) (begun t h m state action limit)
  pub meaning : Admissible t a h → is_verdict told.0 ≡ true → Meaning t a state action told.0
  pub verdict : Consistent t a h → t.states ≤ limit → (is_verdict told.0 ≡ true) × (told.1 ≤ t.states)
