use Rattle.std.proofs.Common.{arith, below_more}
use Rattle.std.proofs.lemmas.Bool.Decides.{not_from_Decides}
use Rattle.heuristics.specs.Checks.{at_entry, at_action}
use Rattle.heuristics.proofs.Rule.{actions_kept, states_kept}
use Rattle.heuristics.proofs.check.first_breach.Goals as goal

pub loop-state-preserved : goal.loop-state-preserved
loop-state-preserved g c =
    below_more _ _ c.loop-state.invariant
    (record {
      goal = c.loop-action.invariant.0;
      actions = actions_kept _ c.states-state-end.ensures.lawful _ _ (λ b h. c.loop-action.invariant.1 b (omega arith));
    })

pub returns-then-not-keeps_entry : goal.returns-then-not-keeps_entry
returns-then-not-keeps_entry g c =
    at_entry c.loop-state.invariant (not_from_Decides _ c.keeps_entry.ensures c.if-not-keeps_entry.true)

pub returns-then-not-keeps_action : goal.returns-then-not-keeps_action
returns-then-not-keeps_action g c =
    at_action c.loop-state.invariant c.loop-action.invariant.0 c.loop-action.invariant.1
    (not_from_Decides _ c.keeps_action.ensures c.if-not-keeps_action.true)

pub returns-after-loop-state : goal.returns-after-loop-state
returns-after-loop-state g c =
    states_kept _ c.states-state-end.ensures.lawful _ (λ q h. c.loop-state.invariant q (omega arith))
