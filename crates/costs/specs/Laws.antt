-- The laws of the two cost algebras.
use Rattle.std.proofs.Common.{rules}
use Rattle.planning.specs.Costs.{CostLaws, Strict}
use Rattle.costs.specs.Coins.{coins_algebra}
use Rattle.costs.specs.CoinsThenActions.{pair_algebra}
use Rattle.costs.specs.Counted.{CountedLaws, coins_counted, pair_counted}

pub coins_laws : CostLaws coins_algebra
coins_laws = search rules

pub coins_strict : Strict coins_algebra
coins_strict = search rules

pub coins_counted_lem : CountedLaws coins_algebra coins_counted
coins_counted_lem = search rules

pub pair_laws : CostLaws pair_algebra
pair_laws = search rules

pub pair_strict : Strict pair_algebra
pair_strict = search rules

pub pair_counted_lem : CountedLaws pair_algebra pair_counted
pair_counted_lem = search rules
