use Rattle.std.proofs.Common.{ℕ, get_or, ◌∙◌, rules, tests}
use Rattle.std.proofs.lemmas.Iterator.{YieldsList-from_slice}
use Rattle.std.proofs.lemmas.Iterator.Consumers.{YieldsList-from_enumerate}
use Rattle.std.proofs.lemmas.Iterator.Search.{all_from_yields_List}
use Rattle.sheet_layout.specs.FiniteDomain.{value_or_any}
use Rattle.sheets.proofs.FiniteDomainSteps.{names_all}
use Rattle.sheets.proofs.finite_domain_task.names_only.Goals as goal

pub returns : goal.returns
returns c =
    let xs = c.args.named.now in
    let ns = c.args.counts.now in
    all_from_yields_List (λ (x : ℕ × ℕ). value_or_any x.1 (get_or ns x.0 0)) _ _ c.all.result c.all.ensures.ran (YieldsList-from_enumerate (YieldsList-from_slice xs cc) cc) (λ x b q k. search (rules, tests))
    ∙ names_all ns xs 0
