use Rattle.std.proofs.Common.{refl, subst, arith}
use Rattle.std.proofs.lemmas.Result.{err_from_is_err_and}
use Rattle.sheet_layout.specs.Numbers.{Bytes, num16}
use Rattle.sheets.specs.Kinds.{checks_of}
use Rattle.sheets.proofs.Readings.{few_actions, no_content}
use Rattle.reader.specs.Verdicts.{Answered, damaged, whole}
use Rattle.reader.proofs.Rooms.{room_passes}
use Rattle.reader.proofs.verdict.answer_kind.Goals as goal

pub returns-in_err-head : goal.returns-in_err-head
returns-in_err-head g c =
    let r = g.K.SheetKind.reading in
    let laws = g.met.K.SheetKind.laws in
    let bs = c.args.sheet.now in
    let small : Bytes bs = λ i. omega (arith, c.type_inv.sheet i) in
    let p = err_from_is_err_and c.from_residual.result c.from_residual.ensures.1 in
    let fails = room_passes (checks_of r bs) (num16 bs 7) _ (few_actions r laws bs) c.in_err-head.ensures.0 in
    rw (p.1, p.2) (damaged _ fails (no_content r laws bs small _ fails) refl)

pub returns : goal.returns
returns g c =
    let told = c.in_ok-head.ensures in
    let fits = g.met.K.SheetKind.task_laws.fits c.args.sheet.now told.0 c.in_ok-head.head told.1 told.2 in
    let same = c.new.ensures.described told.0 fits (_, told.3) (_, told.4) in
    whole told.0 told.1 (subst (λ t. Answered t c.args.state c.args.action c.answer_within.result) same c.answer_within.ensures)
