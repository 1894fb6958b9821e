use Rattle.std.proofs.Common.{◌≡◌, Bool, true, false, sym, refl, ◌∙◌, subst, arith}
use Rattle.std.proofs.lemmas.Option.{slice_get-get_or}
use Rattle.planning.specs.Lists.{Put}
use Rattle.planning.proofs.Steps.{offer_passed, offer_dead_end, offer_put}
use Rattle.planning.specs.Labelled.{labelled}
use Rattle.marker.proofs.search.Search.offer.Goals as goal

pub returns-then-not-is_taken-clause-offered : goal.returns-then-not-is_taken-clause-offered
returns-then-not-is_taken-clause-offered g c = λ o.
    let xs = c.args.self.now.table.now in
    let at = slice_get-get_or xs c.args.state c.index-self-at.result (omega (arith, c.requires, c.args.self.now.records)) in
    offer_passed _ _ _ _ (labelled c.args.way) xs _ _ at (sym c.is_taken.ensures ∙ c.if-not-is_taken.true)

pub returns-in_default-clause-offered : goal.returns-in_default-clause-offered
returns-in_default-clause-offered g c = λ o.
    let xs = c.args.self.now.table.now in
    let at = slice_get-get_or xs c.args.state c.index-self-at.result (omega (arith, c.requires, c.args.self.now.records)) in
    offer_dead_end _ _ _ _ (labelled c.args.way) xs _ _ at (sym c.is_taken.ensures ∙ c.if-not-is_taken.false) (sym c.estimate.ensures ∙ c.in_default.is)

-- a list with room for the state takes it
there : (b : Bool) {P Q : Type 0} → (b ≡ false → P) → (b ≡ true → Q) → (P → ⊥) → Q
there true refused put never = put refl
there false refused put never = absurd (never (refused refl))

pub returns-in-Some-clause-offered : goal.returns-in-Some-clause-offered
returns-in-Some-clause-offered g c = λ o.
    let xs = c.args.self.now.table.now in
    let w = g.L.OpenList.waiting c.args.self.now.list.now in
    let w' = g.L.OpenList.waiting c.put.new.self in
    let at = slice_get-get_or xs c.args.state c.index-self-at.result (omega (arith, c.requires, c.args.self.now.records)) in
    let put = there c.put.result (c.put.ensures.refused o) (c.put.ensures.put o) (λ h. omega (arith, h.0, c.requires, c.args.self.now.room)) in
    offer_put _ _ _ _ (labelled c.args.way) xs w _ at w' c.in-Some.estimate (sym c.is_taken.ensures ∙ c.if-not-is_taken.false) (sym c.estimate.ensures ∙ c.in-Some.is)
    (subst (λ front. Put w w' c.args.state front c.args.way.tagged) c.plus.ensures put.1)
