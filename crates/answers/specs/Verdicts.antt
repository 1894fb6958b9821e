-- A verdict under coins, and what it means.
use Rattle.std.specs.Prelude.{◌≡◌, ℕ, true}
use Rattle.planning.specs.Task.{Model}
use Rattle.planning.specs.Theorem.{is_verdict, Meaning}
use Rattle.planning.specs.declared.status.Status.{Status}
use Rattle.costs.specs.Coins.{coins_algebra}

-- best, other or stuck, and never fresh, open or spent
pub record Verdict (t : Model) (state action : ℕ) (status : Status) : Type 0 where
  pub verdict : is_verdict status ≡ true
  pub meaning : Meaning t coins_algebra state action status
