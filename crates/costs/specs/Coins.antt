-- Costs that are a number of coins.
use Rattle.std.specs.Prelude.{◌+◌, ◌^◌, min, ltb}
use Rattle.planning.specs.Costs.{Algebra}
use Rattle.costs.specs.declared.coins.Coins.{Coins}

-- the sum of the coins, compared as numbers; the computed sum stops at 2 ^ 62
abbrev pub coins_algebra : Algebra Coins
coins_algebra = record {
  zero = record { amount = 0 };
  plus = λ x y. record { amount = x.amount + y.amount };
  before = λ x y. ltb x.amount y.amount;
  size = λ x. x.amount;
  charge = λ coins. record { amount = coins };
  computed = λ x y. record { amount = min (x.amount + y.amount) (2 ^ 62) };
}
