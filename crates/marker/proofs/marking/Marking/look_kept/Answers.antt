use Rattle.std.proofs.Common.{sym, subst}
use Rattle.planning.specs.Estimates.{Bounded}
use Rattle.planning.specs.Task.{TaskLaws}
use Rattle.marker.proofs.marking.Marking.look_kept.Goals as goal

pub returns-clause-kept : goal.returns-clause-kept
returns-clause-kept g c =
    let theorem = c.theorem_stands.ensures in
    record {
      unstarted = theorem.unstarted _;
      promised = λ o holds history. theorem.promised _ o
          (subst TaskLaws (sym holds.task) c.states.ensures.lawful)
          (subst (Bounded g.H.Cost.CostAlgebra.algebra) (sym holds.estimates) c.bounded.ensures)
          history;
    }
