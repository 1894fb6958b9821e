use Rattle.std.proofs.Common.{◌≡◌, ◌≤◌, ◌++◌, length, sym, ◌∙◌}
use Rattle.std.proofs.lemmas.Result.{err_from_is_err_and}
use Rattle.planning.specs.Checks.{first_failing}
use Rattle.planning.proofs.Rows.{after, within}
use Rattle.sheet_layout.specs.Frame.{opening_checks, records_checks}
use Rattle.sheet_layout.specs.Numbers.{num16}
use Rattle.sheets.specs.Kinds.{checks_of}
use Rattle.sheets.proofs.reading.verify.Goals as goal
use Rattle.sheets.proofs.reading.verify.Goals.{In_ok-head}

pub returns-in_err-head : goal.returns-in_err-head
returns-in_err-head g c =
    let r = g.K.SheetKind.reading in
    let bs = c.args.sheet.now in
    let records = records_checks r.kind bs (num16 bs 7) (r.first bs) in
    let p = err_from_is_err_and c.from_residual-in_err-head.result c.from_residual-in_err-head.ensures.1 in
    rw (p.1, p.2) (after (opening_checks r.kind bs) (r.head_checks bs ++ records) c.in_ok-opening.ensures.0 ∙ within (r.head_checks bs) records _ c.in_err-head.ensures)

-- once the head has passed, only the records are left
headed : (g : _) (c : In_ok-head g) → (first_failing (checks_of g.K.SheetKind.reading c.args.sheet.now) ≡ first_failing (records_checks g.K.SheetKind.reading.kind c.args.sheet.now (g.K.SheetKind.reading.count c.in_ok-head.head) (g.K.SheetKind.reading.begins c.in_ok-head.head))) × (g.K.SheetKind.reading.first c.args.sheet.now ≤ length c.args.sheet.now)
headed g c =
    let r = g.K.SheetKind.reading in
    let laws = g.met.K.SheetKind.laws in
    let bs = c.args.sheet.now in
    let opened = c.in_ok-opening.ensures in
    let made = c.in_ok-head.ensures in
    let records = records_checks r.kind bs (num16 bs 7) (r.first bs) in
    let count = laws.counted bs _ made.1 in
    let first = laws.begun bs _ made.1 in (
      after (opening_checks r.kind bs) (r.head_checks bs ++ records) opened.0 ∙ after (r.head_checks bs) records made.0 ∙ sym (λ i. first_failing (records_checks r.kind bs (count i) (first i))),
      laws.room bs opened.0 made.0,
    )

pub returns-in_err-check_records : goal.returns-in_err-check_records
returns-in_err-check_records g c =
    let p = err_from_is_err_and c.from_residual-in_err-check_records.result c.from_residual-in_err-check_records.ensures.1 in
    rw (p.1, p.2) ((headed g (goal.at.returns-in_err-check_records g c).In_ok-head).0 ∙ c.in_err-check_records.ensures)

pub returns : goal.returns
returns g c = ((headed g (goal.at.returns g c).In_ok-head).0 ∙ c.in_ok-check_records.ensures.0, c.in_ok-head.ensures.1)
