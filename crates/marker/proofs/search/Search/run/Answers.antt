use Rattle.std.proofs.Common.{◌≡◌, true, false, refl, rules, arith}
use Rattle.planning.specs.Search.{still}
use Rattle.planning.proofs.Steps.{runs_more}
use Rattle.marker.proofs.search.Search.run.Goals as goal

pub loop-init : goal.loop-init
loop-init g c = (c.requires, λ _. still, λ o. o, (refl, refl, refl, refl, refl))

pub loop-preserved : goal.loop-preserved
loop-preserved g c =
    let inv = c.loop.invariant in
    let told = c.in_ok-turn.ensures in
    let task = inv.3.0 in
    let heuristic = inv.3.1 in
    (search rules, λ o. runs_more (inv.1 o) inv.0 (rw (task, heuristic) at (told.turned (inv.2 o))), λ o. told.ordered (inv.2 o), search rules)

pub returns-then-ne-clause-ran : goal.returns-then-ne-clause-ran
returns-then-ne-clause-ran g c = λ o.
    let inv = c.loop.invariant in
    let task = inv.3.0 in
    let heuristic = inv.3.1 in
    record {
      made = _;
      runs = runs_more (inv.1 o) inv.0 (rw (task, heuristic) at (c.in_ok-turn.ensures.turned (inv.2 o)));
      within = omega (arith, c.loop-test.true);
      all = λ e. absurd (let t = c.if-ne.ensures in let z : true ≡ false = rw e at t in cc);
    }
