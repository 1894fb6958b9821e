use Rattle.std.proofs.Common.{◌+◌, ◌-◌, ◌<◌, sym, ap, ◌∙◌, rules}
use Rattle.std.proofs.lemmas.Result.{err_from_is_err_and}
use Rattle.planning.specs.Checks.{first_failing}
use Rattle.sheet_layout.specs.Frame.{record_checks, records_checks, record_end}
use Rattle.sheet_layout.proofs.Framing.{records_on}
use Rattle.planning.proofs.Rows.{after, within}
use Rattle.sheets.proofs.frame.check_records.Goals as goal

pub returns-in_err-at : goal.returns-in_err-at
returns-in_err-at g c =
    let k = g.K.SheetKind.reading.kind in
    let bs = c.args.sheet.now in
    let n = g.K.SheetKind.reading.count c.args.head.now in
    let more : c.loop.counter < n = search rules in
    let on = records_on k bs n c.loop.counter c.loop.at more in
    let p = err_from_is_err_and c.from_residual.result c.from_residual.ensures.1 in
    rw (p.1, p.2)
    (sym c.loop.invariant.1 ∙ ap first_failing on ∙ within (record_checks k bs c.loop.at) (records_checks k bs (n - (c.loop.counter + 1)) (record_end bs c.loop.at)) _ c.in_err-at.ensures)

pub loop-preserved : goal.loop-preserved
loop-preserved g c =
    let k = g.K.SheetKind.reading.kind in
    let bs = c.args.sheet.now in
    let told = c.in_ok-at.ensures in
    let n = g.K.SheetKind.reading.count c.args.head.now in
    let more : c.loop.counter < n = search rules in
    let left = n - (c.loop.counter + 1) in
    let on = records_on k bs n c.loop.counter c.loop.at more in (
      told.1.1,
      ap (λ p. first_failing (records_checks k bs left p)) told.1.0
          ∙ sym (after (record_checks k bs c.loop.at) (records_checks k bs left (record_end bs c.loop.at)) told.0)
          ∙ sym (ap first_failing on)
          ∙ c.loop.invariant.1,
    )
