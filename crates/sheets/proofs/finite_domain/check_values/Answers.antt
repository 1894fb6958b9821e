use Rattle.std.proofs.Common.{◌≡◌, ℕ, ◌+◌, Bool, ◌&&◌, ◌||◌, eqb, ltb, not, ap, ◌∙◌, rules, tests}
use Rattle.std.specs.List.{position, zip}
use Rattle.std.specs.Option.{option_map}
use Rattle.std.proofs.lemmas.Iterator.{YieldsList-from_slice, YieldsList-from_zip}
use Rattle.std.proofs.lemmas.Iterator.Search.{position_from_yields_List}
use Rattle.planning.specs.declared.refusal.Refusal.TheVariants.{StartOrGoal}
use Rattle.sheets.proofs.FirstFailures.{values_position}
use Rattle.sheets.proofs.finite_domain.check_values.Goals as goal
use Rattle.sheets.proofs.finite_domain.check_values.Goals.{After-position}

-- the test of a value
passing : Bool → ℕ → ℕ → Bool
passing any v n = ltb v n || (any && eqb v 255)

found : (c : After-position) → c.position.result ≡ position (λ (x : ℕ × ℕ). not (passing c.args.any x.1 x.0)) (zip c.args.counts.now c.args.values.now)
unfolding passing
found c =
    position_from_yields_List (λ (x : ℕ × ℕ). not (passing c.args.any x.1 x.0)) c.position.new.self _ c.position.result c.position.ensures.ran
    (YieldsList-from_zip (YieldsList-from_slice c.args.counts.now cc) (YieldsList-from_slice c.args.values.now cc)) (λ x b q k. search (rules, tests))

pub returns-in-Some : goal.returns-in-Some
unfolding passing
returns-in-Some c =
    values_position (passing c.args.any) c.args.counts.now c.args.values.now c.args.first _ (found (goal.at.returns-in-Some c).After-position) ∙ ap (option_map (λ i. StartOrGoal (c.args.first + i))) c.in-Some.is

pub returns-in-None : goal.returns-in-None
unfolding passing
returns-in-None c =
    (values_position (passing c.args.any) c.args.counts.now c.args.values.now c.args.first _ (found (goal.at.returns-in-None c).After-position) ∙ ap (option_map (λ i. StartOrGoal (c.args.first + i))) c.in-None.is, tt)
