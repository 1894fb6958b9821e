use Rattle.std.proofs.Common.{◌≡◌, true, subst, sym, arith}
use Rattle.sheet_layout.specs.Frame.{framed}
use Rattle.sheet_layout.specs.FiniteDomain.{finite_domain_kind}
use Rattle.sheet_layout.specs.Numbers.{Bytes}
use Rattle.sheet_layout.specs.Strips.{strips_kind}
use Rattle.sheets.proofs.FiniteDomainRecords as variables
use Rattle.sheets.proofs.Verdicts as facts
use Rattle.sheets.proofs.record.record.Goals as goal

pub strips_record-requires : goal.strips_record-requires
strips_record-requires c =
    let bs = c.args.sheet.now in
    let small : Bytes bs = λ i. omega (arith, c.type_inv.sheet i) in
    let told = c.in_ok-at-in-Strips.ensures in
    subst (λ p. framed strips_kind bs p ≡ true) (sym told.2) (facts.fits_there bs small told.0 c.args.number told.1)

pub finite_domain_record-requires : goal.finite_domain_record-requires
finite_domain_record-requires c =
    let bs = c.args.sheet.now in
    let small : Bytes bs = λ i. omega (arith, c.type_inv.sheet i) in
    let told = c.in_ok-at-in-FiniteDomain.ensures in
    subst (λ p. framed finite_domain_kind bs p ≡ true) (sym told.2) (variables.fits_there bs small told.0 c.args.number told.1)

pub returns-in_ok-at-in-Strips : goal.returns-in_ok-at-in-Strips
returns-in_ok-at-in-Strips c =
    let small : Bytes c.args.sheet.now = λ i. omega (arith, c.type_inv.sheet i) in
    facts.numbered _ small c.args.number _ c.in_ok-at-in-Strips.ensures _ c.strips_record.ensures

pub returns-in_ok-at-in-FiniteDomain : goal.returns-in_ok-at-in-FiniteDomain
returns-in_ok-at-in-FiniteDomain c =
    let small : Bytes c.args.sheet.now = λ i. omega (arith, c.type_inv.sheet i) in
    variables.numbered _ small c.args.number _ c.in_ok-at-in-FiniteDomain.ensures _ c.finite_domain_record.ensures
