use Rattle.std.proofs.Common.{arith}
use Rattle.std.proofs.lemmas.Grind.{common_steps}
use Rattle.reader.specs.Verdicts.{variables, facts}
use Rattle.reader.proofs.verdict.answer_sheet.Goals as goal

pub returns-in-Strips : goal.returns-in-Strips
returns-in-Strips c = facts (grind (arith, common_steps, c.in-Strips.ensures)) c.answer_kind.ensures

pub returns-in-FiniteDomain : goal.returns-in-FiniteDomain
returns-in-FiniteDomain c = variables (grind (arith, common_steps, c.in-FiniteDomain.ensures)) c.answer_kind-in-FiniteDomain.ensures
