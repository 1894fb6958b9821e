use Rattle.std.proofs.Common.{◌≡◌, ◌+◌, ◌&&◌, leb, not, ap, ◌∙◌, rules, tests}
use Rattle.std.specs.List.{position}
use Rattle.std.specs.Option.{option_map}
use Rattle.std.proofs.lemmas.Iterator.{YieldsList-from_slice}
use Rattle.std.proofs.lemmas.Iterator.Search.{position_from_yields_List}
use Rattle.planning.specs.declared.refusal.Refusal.TheVariants.{Count}
use Rattle.sheets.proofs.FirstFailures.{counts_position}
use Rattle.sheets.proofs.finite_domain.check_counts.Goals as goal
use Rattle.sheets.proofs.finite_domain.check_counts.Goals.{After-position}

found : (c : After-position) → c.position.result ≡ position (λ n. not (leb 2 n && leb n 16)) c.args.counts.now
found c = position_from_yields_List (λ n. not (leb 2 n && leb n 16)) _ _ c.position.result c.position.ensures.ran (YieldsList-from_slice _ c.iter.ensures.rest) (λ x b q k. search (rules, tests))

pub returns-in-Some : goal.returns-in-Some
returns-in-Some c =
    counts_position c.args.counts.now 9 _ (found (goal.at.returns-in-Some c).After-position) ∙ ap (option_map (λ i. Count (9 + i))) c.in-Some.is

pub returns-in-None : goal.returns-in-None
returns-in-None c = (counts_position c.args.counts.now 9 _ (found (goal.at.returns-in-None c).After-position) ∙ ap (option_map (λ i. Count (9 + i))) c.in-None.is, tt)
