use Rattle.std.proofs.Common.{◌≡◌, ◌-◌}
use Rattle.marker.specs.Calls.{numbers_of, memory_of, Tells}
use Rattle.marker.proofs.Whole.{Going}
use Rattle.marker.proofs.mark.mark.Given as goal

abbrev pub invariant-loop-told : goal.invariant-loop-told
invariant-loop-told g l =
    let list = g.L.OpenList in
    Tells l.marking l.told
    × Going (g.T.Task.model l.task) g.H.Cost.CostAlgebra.algebra (g.H.Heuristic.estimated l.heuristic) l.state l.action l.limit (numbers_of l.marking) (memory_of l.table (list.waiting l.list))
    × list.ordered l.list
    × (list.room l.list ≡ list.room l.initial.list)

abbrev pub decreases-loop-told : goal.decreases-loop-told
decreases-loop-told g l = l.marking.limit - l.marking.turns
