use Rattle.std.proofs.Common.{◌≡◌, ◌-◌, ◌≤◌, length}
use Rattle.planning.specs.Checks.{first_failing}
use Rattle.sheet_layout.specs.Frame.{records_checks}
use Rattle.sheets.proofs.frame.check_records.Given as goal

abbrev pub invariant-loop : goal.invariant-loop
invariant-loop g l =
    let r = g.K.SheetKind.reading in
    (l.at ≤ length l.sheet) × (first_failing (records_checks r.kind l.sheet (r.count l.head - l.counter) l.at) ≡ first_failing (records_checks r.kind l.sheet (r.count l.head) (r.begins l.head)))
