use Rattle.sheets.proofs.FactSets.{contains}
use Rattle.sheets.proofs.strips.FactsSheetKind.is_goal.Goals as goal

pub returns : goal.returns
returns c =
    let head = c.args.head.now in
    contains head.facts head.goal c.args.state head.goal_present
