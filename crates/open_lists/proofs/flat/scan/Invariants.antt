use Rattle.open_lists.specs.Flats.{Scanned, slot_label}
use Rattle.open_lists.proofs.flat.scan.Given as goal

abbrev pub invariant-loop-state : goal.invariant-loop-state
invariant-loop-state g l = Scanned g.K.CostAlgebra.algebra (slot_label l.slots) l.state l.best
