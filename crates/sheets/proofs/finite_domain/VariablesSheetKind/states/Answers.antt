use Rattle.sheets.proofs.FiniteDomainLaws.{finite_domain_laws}
use Rattle.sheets.proofs.finite_domain.VariablesSheetKind.states.Goals as goal

pub returns-clause-lawful : goal.returns-clause-lawful
returns-clause-lawful c = finite_domain_laws c.args.head.now
