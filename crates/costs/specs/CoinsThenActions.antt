-- Costs that are a pair: coins, and then the number of actions.
use Rattle.std.specs.Prelude.{◌&&◌, ◌||◌, ◌+◌, ◌^◌, min, max, ltb, eqb}
use Rattle.planning.specs.Costs.{Algebra}
use Rattle.costs.specs.declared.coins_then_actions.CoinsThenActions.{CoinsThenActions}

-- added part by part, compared by coins and among equal coins by actions; the size is the larger part,
-- and each part of the computed sum stops at 2 ^ 62
abbrev pub pair_algebra : Algebra CoinsThenActions
pair_algebra = record {
  zero = record { coins = 0; actions = 0 };
  plus = λ x y. record { coins = x.coins + y.coins; actions = x.actions + y.actions };
  before = λ x y. ltb x.coins y.coins || eqb x.coins y.coins && ltb x.actions y.actions;
  size = λ x. max x.coins x.actions;
  charge = λ coins. record { coins = coins; actions = 1 };
  computed = λ x y. record {
    coins = min (x.coins + y.coins) (2 ^ 62);
    actions = min (x.actions + y.actions) (2 ^ 62);
  };
}
