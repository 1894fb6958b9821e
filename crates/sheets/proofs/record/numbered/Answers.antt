use Rattle.std.proofs.Common.{[], ◌∷◌, ◌∙◌}
use Rattle.std.proofs.lemmas.Result.{err_from_is_err_and}
use Rattle.planning.specs.Checks.{first_failing}
use Rattle.planning.proofs.Rows.{within}
use Rattle.sheet_layout.specs.Frame.{records_checks}
use Rattle.sheet_layout.specs.Numbers.{num16}
use Rattle.sheets.specs.Kinds.{checks_of, number_check}
use Rattle.sheets.proofs.LastChecks.{number_fails}
use Rattle.sheets.proofs.Readings.{records_pass}
use Rattle.sheets.proofs.record.numbered.Goals as goal

pub returns-in_err-head : goal.returns-in_err-head
returns-in_err-head g c =
    let p = err_from_is_err_and c.from_residual.result c.from_residual.ensures.1 in
    rw (p.1, p.2) (within (checks_of g.K.SheetKind.reading c.args.sheet.now) (number_check (num16 c.args.sheet.now 7) c.args.number ∷ []) _ c.in_err-head.ensures)

pub returns-then-number-actions : goal.returns-then-number-actions
returns-then-number-actions g c =
    let told = c.in_ok-head.ensures in
    let count = c.actions.ensures ∙ g.met.K.SheetKind.laws.counted c.args.sheet.now _ told.1 in
    number_fails (checks_of g.K.SheetKind.reading c.args.sheet.now) c.args.number c.actions.result _ told.0 count c.if-number-actions.true

pub locate-requires-clause-inside : goal.locate-requires-clause-inside
locate-requires-clause-inside g c =
    let r = g.K.SheetKind.reading in
    let laws = g.met.K.SheetKind.laws in
    let bs = c.args.sheet.now in
    let told = c.in_ok-head.ensures in
    rw (laws.begun bs _ told.1) (records_pass r laws bs told.0).0

pub locate-requires-clause-passes : goal.locate-requires-clause-passes
locate-requires-clause-passes g c =
    let r = g.K.SheetKind.reading in
    let laws = g.met.K.SheetKind.laws in
    let bs = c.args.sheet.now in
    let told = c.in_ok-head.ensures in
    let count = laws.counted bs _ told.1 in
    let first = laws.begun bs _ told.1 in
    (λ i. first_failing (records_checks r.kind bs (count i) (first i))) ∙ (records_pass r laws bs told.0).1
