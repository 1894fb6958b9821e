use Rattle.std.proofs.Common.{◌≡◌, ◌^◌, true, ltb, [], ◌∷◌, sym, rules, tests}
use Rattle.std.specs.List.{list_all}
use Rattle.std.proofs.lemmas.Bool.{and_parts, ltb-true}
use Rattle.std.proofs.lemmas.Iterator.{YieldsList-from_slice}
use Rattle.std.proofs.lemmas.Iterator.Search.{all_from_yields_List}
use Rattle.sheets.proofs.StripsSteps.{Named, inapplicable, performs}
use Rattle.sheets.proofs.head.StripsHead.perform.Goals as goal
use Rattle.sheets.proofs.head.StripsHead.perform.Goals.{Else-not-all}

named : (c : Else-not-all) → Named c.args.self.now.facts c.args.action.now
named c =
    let x = c.args.action.now in
    let bound = 2 ^ c.args.self.now.facts in
    let all : true ≡ list_all (λ set. ltb set bound) (x.preconditions ∷ x.adds ∷ x.deletes ∷ []) =
    all_from_yields_List (λ set. ltb set bound) c.all.new.self _ true c.if-not-all.ensures.ran (YieldsList-from_slice (x.preconditions ∷ x.adds ∷ x.deletes ∷ []) cc) (λ y b q k. search (rules, tests)) in
    let p = and_parts (ltb x.preconditions bound) _ (sym all) in
    let a = and_parts (ltb x.adds bound) _ p.1 in
    let d = and_parts (ltb x.deletes bound) _ a.1 in
    record { preconditions = ltb-true _ _ p.0; adds = ltb-true _ _ a.0; deletes = ltb-true _ _ d.0 }

pub returns-then-state-preconditions : goal.returns-then-state-preconditions
returns-then-state-preconditions c = inapplicable _ _ _ _ (named (goal.at.returns-then-state-preconditions c).Else-not-all) c.if-state-preconditions.true

pub returns : goal.returns
returns c = performs _ _ _ _ (named (goal.at.returns c).Else-not-all) _ c.args.self.now.few_facts c.requires c.if-state-preconditions.false c.min.ensures
