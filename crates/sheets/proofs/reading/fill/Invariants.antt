use Rattle.sheet_layout.proofs.Walking.{Walk, Copied}
use Rattle.sheets.specs.Kinds.{entering, priced}
use Rattle.sheets.proofs.reading.fill.Given as goal
use Rattle.sheet_layout.specs.Frame.{actions_from}

abbrev pub invariant-loop-i : goal.invariant-loop-i
invariant-loop-i g l =
    let r = g.K.SheetKind.reading in
    let all = actions_from r.kind r.does_at l.sheet (r.count l.head) (r.begins l.head) in
    Walk r.kind r.does_at l.sheet (r.begins l.head) (r.count l.head) l.i l.at × Copied (entering r) all l.initial.actions l.i l.actions × Copied priced all l.initial.prices l.i l.prices
