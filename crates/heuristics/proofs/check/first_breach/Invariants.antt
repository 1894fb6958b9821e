use Rattle.std.proofs.Common.{ℕ, ◌<◌}
use Rattle.heuristics.specs.Checks.{GoalKept, ActionKept, StateKept}
use Rattle.heuristics.proofs.check.first_breach.Given as goal

abbrev pub invariant-loop-state : goal.invariant-loop-state
invariant-loop-state g l = (q : ℕ) → q < l.state → StateKept (g.T.Task.model l.task) l.numbers q

abbrev pub invariant-loop-action : goal.invariant-loop-action
invariant-loop-action g l =
    GoalKept (g.T.Task.model l.task) l.numbers l.state
    × ((b : ℕ) → b < l.action → ActionKept (g.T.Task.model l.task) l.numbers l.state b)
