-- A STRIPS task keeps the ranges of a task.
use Rattle.std.proofs.Common.{◌≡◌, ℕ, ◌^◌, ◌<◌, ◌≤◌, List, Some, sym, ap, arith, pow_pos, pow_mono}
use Rattle.planning.specs.declared.task.Transition.{Transition}
use Rattle.planning.specs.Task.{TaskLaws}
use Rattle.sheets.specs.StripsTasks.{applicable, successor, performing, strips_model, strips_tasks}
use Rattle.sheets.specs.declared.strips.StripsAction.{StripsAction}
use Rattle.sheets.specs.declared.head.StripsHead.{StripsHead}
use Rattle.sheets.specs.Reading.{strips_reading}
use Rattle.sheets.proofs.FactSets.{set_below}
use Rattle.sheets.proofs.Ranges.{guarded, ranges}

-- where an action leads, and what it costs
led : (n s : ℕ) (x : StripsAction) (coins : ℕ) (to : Transition) → performing n s x coins ≡ Some to → (to.state < 2 ^ n) × (to.coins ≤ 1000000)
led n s x coins to e =
    let is : successor n s x coins ≡ to = cc (guarded (applicable n s x) (Some (successor n s x coins)) to e).1 in
    (rw (sym (ap (λ t. t.state) is)) (set_below n _), rw (sym (ap (λ t. t.coins) is)) (omega arith))

pub strips_laws : (h : StripsHead) (actions : List StripsAction) (prices : List ℕ) → TaskLaws (strips_model h actions prices)
strips_laws h =
    let few = h.few_facts in
    ranges strips_reading strips_tasks h (pow_pos h.facts) (let le : 2 ^ h.facts ≤ 2 ^ 16 = pow_mono few in le) h.some_action h.few_actions (led h.facts)
