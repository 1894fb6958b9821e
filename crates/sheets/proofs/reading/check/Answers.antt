use Rattle.std.proofs.Common.{arith}
use Rattle.sheet_layout.specs.Numbers.{Bytes}
use Rattle.sheets.proofs.Readings.{verdict}
use Rattle.sheets.proofs.reading.check.Goals as goal

pub returns-clause-checked : goal.returns-clause-checked
returns-clause-checked g c =
    let small : Bytes c.args.sheet.now = λ i. omega (arith, c.type_inv.sheet i) in
    verdict g.K.SheetKind.reading g.met.K.SheetKind.laws _ small _ c.verify.ensures
