use Rattle.std.proofs.Common.{◌≡◌, ◌+◌, ◌-◌, ◌*◌}
use Rattle.sheet_layout.specs.FiniteDomain.{present_pairs}
use Rattle.sheets.proofs.finite_domain.pairs_present.Given as goal

abbrev pub invariant-loop-variable : goal.invariant-loop-variable
invariant-loop-variable l =
    let i = l.variable-index in
    present_pairs l.sheet (l.count - i) (l.first + 2 * i) l.least ≡ present_pairs l.sheet l.count l.first 0
