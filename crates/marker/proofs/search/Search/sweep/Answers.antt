use Rattle.std.proofs.Common.{sym, refl, ◌∙◌, rules}
use Rattle.planning.specs.Search.{none}
use Rattle.planning.proofs.Steps.{swept_idle, swept_offer}
use Rattle.marker.proofs.search.Search.sweep.Goals as goal
use Rattle.marker.proofs.search.Search.sweep.Goals.{in-Some, in_default}

pub loop-action-init : goal.loop-action-init
loop-action-init g c = (λ _. none, λ o. o, (refl, refl, refl, refl, refl))

pub loop-action-preserved : goal.loop-action-preserved
loop-action-preserved g c =
    let inv = c.loop-action.invariant in
    let task = inv.2.0 in
    let heuristic = inv.2.1 in
    elim c.match-transition.branch [
      | in-Some w ↦
          rw w.self-is (
            λ o. swept_offer w.in-Some.to _ (inv.0 o) (rw task at (sym c.transition.ensures ∙ w.in-Some.is)) w.further.ensures (rw heuristic at (w.offer.ensures.offered (inv.1 o))),
            λ o. w.offer.ensures.ordered (inv.1 o),
            search rules,
          )
      | in_default w ↦ rw w.self-is (λ o. swept_idle (inv.0 o) (rw task at (sym c.transition.ensures ∙ w.in_default.is)), inv.1, inv.2)
    ]
