use Rattle.std.proofs.Common.{length, refl, ◌∙◌, arith}
use Rattle.std.proofs.lemmas.Result.{err_from_is_err_and}
use Rattle.planning.proofs.Rows.{within}
use Rattle.sheet_layout.specs.Numbers.{Bytes}
use Rattle.sheets.specs.Kinds.{checks_of}
use Rattle.sheets.proofs.LastChecks.{room_fails}
use Rattle.sheets.proofs.reading.read.Goals as goal

pub returns-in_err-head : goal.returns-in_err-head
returns-in_err-head g c =
    let p = err_from_is_err_and c.from_residual.result c.from_residual.ensures.1 in
    rw (p.1, p.2) (within (checks_of g.K.SheetKind.reading c.args.sheet.now) _ _ c.in_err-head.ensures, refl, refl)

pub returns-then-actions-needed : goal.returns-then-actions-needed
returns-then-actions-needed g c =
    let told = c.in_ok-head.ensures in
    let count = c.actions-needed.ensures ∙ g.met.K.SheetKind.laws.counted c.args.sheet.now _ told.1 in
    (room_fails (checks_of g.K.SheetKind.reading c.args.sheet.now) c.actions-needed.result (length c.args.actions.now) (length c.args.prices.now) _ told.0 count c.then-actions-needed.either, refl, refl)

pub returns : goal.returns
returns g c =
    let laws = g.met.K.SheetKind.laws in
    let bs = c.args.sheet.now in
    let small : Bytes bs = λ i. omega (arith, c.type_inv.sheet i) in
    let told = c.in_ok-head.ensures in
    let read = laws.sound bs small told.0 _ told.1 in
    let filled = c.fill.ensures read.0 read.1 in
    (read.0, read.1, read.2, filled.0, filled.1)
