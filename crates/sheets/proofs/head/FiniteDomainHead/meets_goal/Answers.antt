use Rattle.std.proofs.Common.{ap, ◌∙◌}
use Rattle.sheets.specs.FiniteDomainTasks.{holds, counts_of}
use Rattle.sheets.proofs.FiniteDomainSteps.{front}
use Rattle.sheets.proofs.head.FiniteDomainHead.meets_goal.Goals as goal

pub returns : goal.returns
returns c =
    c.satisfied.ensures
    ∙ ap (holds c.args.self.now.goal) (front (counts_of c.args.self.now) _ c.decode-values.result c.args.state c.counts.ensures c.decode-values.ensures)
