use Rattle.std.proofs.Common.{ℕ, ◌||◌, eqb, ◌∙◌, rules, tests}
use Rattle.std.proofs.lemmas.Iterator.{YieldsList-from_slice, YieldsList-from_zip}
use Rattle.std.proofs.lemmas.Iterator.Search.{all_from_yields_List}
use Rattle.sheets.proofs.FiniteDomainSteps.{holds_all}
use Rattle.sheets.proofs.finite_domain_task.satisfied.Goals as goal

pub returns : goal.returns
returns c =
    let xs = c.args.named.now in
    let vs = c.args.values.now in
    all_from_yields_List (λ (x : ℕ × ℕ). eqb x.0 255 || eqb x.0 x.1) c.all.new.self _ c.all.result c.all.ensures.ran (YieldsList-from_zip (YieldsList-from_slice xs cc) (YieldsList-from_slice vs cc)) (λ x b q k. search (rules, tests))
    ∙ holds_all xs vs
