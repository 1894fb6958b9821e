use Rattle.std.proofs.Common.{sym}
use Rattle.heuristics.proofs.Rule.{keeps_decides}
use Rattle.heuristics.proofs.check.keeps_action.Goals as goal

pub returns : goal.returns
returns g c =
    keeps_decides (g.T.Task.model c.args.task.now) c.args.numbers.now c.args.state c.args.action c.in-Some.to c.number.result c.number-2.result c.falls_at_most.result
    (sym c.in-Some.ensures) c.number.ensures c.number-2.ensures c.falls_at_most.ensures
