use Rattle.std.proofs.Common.{arith}
use Rattle.std.proofs.lemmas.Result.{err_from_is_err_and}
use Rattle.costs.specs.Laws.{coins_laws, coins_counted_lem, pair_laws, pair_counted_lem}
use Rattle.heuristics.specs.Checks.{wrong_length, breached}
use Rattle.heuristics.proofs.Rule.{kept_trusted}
use Rattle.heuristics.proofs.check.check_table.Goals as goal

pub returns-in_err-check_length : goal.returns-in_err-check_length
returns-in_err-check_length g c =
    let p = err_from_is_err_and c.from_residual.result c.from_residual.ensures.1 in
    rw (p.1, p.2) (wrong_length c.in_err-check_length.ensures)

pub returns-in-None : goal.returns-in-None
returns-in-None g c =
    let kept = c.in-None.ensures in
    record {
      one_each = omega arith;
      kept = kept;
      coins = kept_trusted _ coins_laws _ coins_counted_lem _ _ kept;
      pairs = kept_trusted _ pair_laws _ pair_counted_lem _ _ kept;
    }

pub returns-in-Some : goal.returns-in-Some
returns-in-Some g c = breached (omega arith) c.in-Some.ensures
