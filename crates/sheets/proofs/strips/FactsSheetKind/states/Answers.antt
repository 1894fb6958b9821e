use Rattle.sheets.proofs.StripsLaws.{strips_laws}
use Rattle.sheets.proofs.strips.FactsSheetKind.states.Goals as goal

pub returns-clause-lawful : goal.returns-clause-lawful
returns-clause-lawful c = strips_laws c.args.head.now
