use Rattle.std.proofs.Common.{◌≡◌, cond, eqb, length, get_or, sym, ◌∙◌, arith, rules, tests}
use Rattle.std.proofs.lemmas.Grind.{same_number_lists}
use Rattle.sheets.specs.FiniteDomainTasks.{changed}
use Rattle.sheets.proofs.FiniteDomainSteps.{changed_at, changed-length}
use Rattle.sheets.proofs.MadeArrays.{made_at}
use Rattle.sheets.proofs.finite_domain_task.changed.Goals as goal

pub returns : goal.returns
returns c =
    let made = c.from_fn.ensures.items in
    let xs = c.args.effects.now in
    let vs = c.args.values in
    let sixteen : length vs ≡ 16 = search rules in
    same_number_lists c.from_fn.result (changed xs vs) (omega (arith, made.long, changed-length xs vs)) (λ k h.
    made_at _ _ (λ i. cond (eqb (get_or xs i 0) 255) (get_or vs i 0) (get_or xs i 0)) (λ i y q called. search (rules, tests)) c.from_fn.result 0 16 k 0 made.each (omega arith) (omega (arith, made.long))
    ∙ sym (changed_at xs vs k (omega (arith, made.long, c.told-effects)) (omega (arith, made.long))))
