-- Costs of so many coins and nothing else.
use Rattle.std.specs.Prelude.{◌≡◌, false, ℕ, ◌+◌, ◌≤◌}
use Rattle.planning.specs.Costs.{Algebra}
use Rattle.costs.specs.declared.coins.Coins.{Coins}
use Rattle.costs.specs.declared.coins_then_actions.CoinsThenActions.{CoinsThenActions}

abbrev pub coins_counted : ℕ → Coins
coins_counted n = record { amount = n }

-- no action is counted
abbrev pub pair_counted : ℕ → CoinsThenActions
pair_counted n = record { coins = n; actions = 0 }

pub record CountedLaws {K : Type 0} (a : Algebra K) (count : ℕ → K) : Type 0 where
  pub none : count 0 ≡ a.zero
  pub small : (n : ℕ) → a.size (count n) ≤ n
  -- a charge and m coins more are not before n coins, where n is at most their sum
  pub charged : (c m n : ℕ) → n ≤ c + m → a.before (a.plus (a.charge c) (count m)) (count n) ≡ false
