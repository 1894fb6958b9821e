use Rattle.sheets.specs.FiniteDomainTasks.{counts_of}
use Rattle.sheets.proofs.FiniteDomainLaws.{head_told}
use Rattle.sheets.proofs.Numbering.{numbering}
use Rattle.sheets.proofs.head.FiniteDomainHead.values_in.Goals as goal

pub returns-then-state-self-clause-numbering : goal.returns-then-state-self-clause-numbering
returns-then-state-self-clause-numbering c = numbering (counts_of c.args.self.now) (head_told c.args.self.now).counts

pub returns-clause-numbering : goal.returns-clause-numbering
returns-clause-numbering c = numbering (counts_of c.args.self.now) (head_told c.args.self.now).counts
