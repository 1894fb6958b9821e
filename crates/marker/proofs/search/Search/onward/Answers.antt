use Rattle.planning.specs.Search.{nothing_waits, at_limit, goes_on}
use Rattle.marker.proofs.search.Search.onward.Goals as goal

pub returns-in-None-clause-onward : goal.returns-in-None-clause-onward
returns-in-None-clause-onward g c = λ o. nothing_waits (c.in-None.ensures o).0

pub returns-in-Some-clause-onward : goal.returns-in-Some-clause-onward
returns-in-Some-clause-onward g c = λ o. at_limit (record { state = _; entry = _; waits = (c.in-Some.ensures o).0.waits }) c.if-limit-turns.true

pub returns-in-Some-2-clause-onward : goal.returns-in-Some-2-clause-onward
returns-in-Some-2-clause-onward g c = λ o. goes_on (record { state = _; entry = _; waits = (c.in-Some.ensures o).0.waits }) c.if-limit-turns.false
