use Rattle.std.proofs.Common.{◌≡◌}
use Rattle.planning.specs.declared.status.Status.TheVariants.{Open}
use Rattle.planning.specs.Search.{Runs}
use Rattle.marker.specs.Searches.{configuration_in, InOrder, SameThings}
use Rattle.marker.proofs.search.Search.run.Given as goal

abbrev pub invariant-loop : goal.invariant-loop
invariant-loop g l =
    let a = g.H.Cost.CostAlgebra.algebra in
    let old = l.initial.self in
    (l.marking.status ≡ Open)
    × (InOrder old → Runs (g.T.Task.model old.task.now) a a.computed (g.H.Heuristic.estimated old.heuristic.now) (configuration_in l.initial.marking old) l.counter (configuration_in l.marking l.self))
    × (InOrder old → InOrder l.self)
    × SameThings old l.self
