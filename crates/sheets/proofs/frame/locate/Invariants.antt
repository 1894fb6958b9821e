use Rattle.std.proofs.Common.{◌≡◌}
use Rattle.sheet_layout.specs.Frame.{record_place}
use Rattle.sheet_layout.proofs.Walking.{Walk}
use Rattle.sheets.proofs.frame.locate.Given as goal

abbrev pub invariant-loop : goal.invariant-loop
invariant-loop g l =
    let r = g.K.SheetKind.reading in
    (l.at ≡ record_place l.sheet l.counter (r.begins l.head)) × Walk {C = Unit {0}} r.kind (λ bs p. tt) l.sheet (r.begins l.head) (r.count l.head) l.counter l.at
