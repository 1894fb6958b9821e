use Rattle.std.proofs.Common.{◌≡◌}
use Rattle.planning.specs.Search.{cleared}
use Rattle.marker.proofs.search.clear.Given as goal

abbrev pub invariant-loop-record : goal.invariant-loop-record
invariant-loop-record g l = l.record-items ≡ cleared g.K.CostAlgebra.algebra l.record-index l.initial.record-items
