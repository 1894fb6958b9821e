use Rattle.planning.specs.Search.{Swept}
use Rattle.planning.specs.Labelled.{labelled}
use Rattle.marker.specs.Searches.{memory_in, InOrder, SameThings}
use Rattle.marker.proofs.search.Search.sweep.Given as goal

abbrev pub invariant-loop-action : goal.invariant-loop-action
invariant-loop-action g l =
    let a = g.H.Cost.CostAlgebra.algebra in
    let old = l.initial.self in
    (InOrder old → Swept (g.T.Task.model old.task.now) a a.computed (g.H.Heuristic.estimated old.heuristic.now) l.state (labelled l.way) (memory_in old) l.action (memory_in l.self))
    × (InOrder old → InOrder l.self)
    × SameThings old l.self
