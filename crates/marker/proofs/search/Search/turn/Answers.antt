use Rattle.std.proofs.Common.{◌≡◌, ◌<◌, true, false, get_or, sym, refl, ◌∙◌, subst, arith}
use Rattle.std.proofs.lemmas.Option.{slice_get-get_or}
use Rattle.planning.specs.Search.{Numbers, Configuration, outside, unknown, Closed, Expanded, Counted, Onward, Turn, label}
use Rattle.planning.proofs.Steps.{taken_least}
use Rattle.marker.specs.Calls.{memory_of, numbers_of, configuration_of, Counts}
use Rattle.marker.specs.declared.marking.Marking.{Marking}
use Rattle.planning.specs.declared.status.Status.{Status}
use Rattle.marker.proofs.search.Search.turn.Given.{Over}
use Rattle.marker.proofs.search.Search.turn.Goals as goal
use Rattle.marker.proofs.search.Search.turn.Goals.{After-take}

pub returns-then-state-states-clause-turned : goal.returns-then-state-states-clause-turned
returns-then-state-states-clause-turned g c = (_, refl, λ o. outside _ (c.in-Some.ensures o).0 (omega (arith, c.states-states.ensures.value, c.if-state-states.true)))

pub returns-then-not-found-clause-turned : goal.returns-then-not-found-clause-turned
returns-then-not-found-clause-turned g c =
    let within : c.in-Some.entry.state < (g.T.Task.model c.args.self.now.task.now).states = omega (arith, c.states-states.ensures.value, c.if-state-states.false) in
    let at = slice_get-get_or c.args.self.now.table.now c.in-Some.entry.state c.index-self-state.result (omega (arith, within, c.args.self.now.records)) in
    (_, refl, λ o. unknown _ _ (c.in-Some.ensures o).0 within at c.if-not-found.true)

counts : (m : Marking) (s : Status) (m' : Marking) → Counts m s m' → Counted (numbers_of m) (numbers_of m')
counts m s m' k = record { turns = k.turns; limit = k.limit; state = k.state; action = k.action }

-- a turn, by how it ends
turned : (g : Over) (c : After-take g) → g.L.OpenList.ordered c.args.self.now.list.now → (d : Configuration g.row.H-Cost.Denot)
    → ((g.T.Task.model c.args.self.now.task.now).goal c.in-Some.entry.state ≡ true → Closed (get_or c.args.self.now.table.now c.in-Some.entry.state c.index-self-state.result) (memory_of c.args.self.now.table.now (g.L.OpenList.waiting c.take.new.self)) d)
    → ((g.T.Task.model c.args.self.now.task.now).goal c.in-Some.entry.state ≡ false → Expanded (g.T.Task.model c.args.self.now.task.now) g.H.Cost.CostAlgebra.algebra g.H.Cost.CostAlgebra.algebra.computed (g.H.Heuristic.estimated c.args.self.now.heuristic.now) c.in-Some.entry.state (label (get_or c.args.self.now.table.now c.in-Some.entry.state c.index-self-state.result)) (memory_of c.args.self.now.table.now (g.L.OpenList.waiting c.take.new.self)) d)
    → Counted (numbers_of c.args.marking.now) d.numbers
    → Turn (g.T.Task.model c.args.self.now.task.now) g.H.Cost.CostAlgebra.algebra g.H.Cost.CostAlgebra.algebra.computed (g.H.Heuristic.estimated c.args.self.now.heuristic.now) (configuration_of c.args.marking.now c.args.self.now.table.now (g.L.OpenList.waiting c.args.self.now.list.now)) d
turned g c o d closes expands counted =
    let within : c.in-Some.entry.state < (g.T.Task.model c.args.self.now.task.now).states = omega (arith, c.states-states.ensures.value, c.if-state-states.false) in
    record {
      state = c.in-Some.entry.state;
      entry = _;
      first = (c.in-Some.ensures o).0;
      within = within;
      found = _;
      at = slice_get-get_or c.args.self.now.table.now c.in-Some.entry.state c.index-self-state.result (omega (arith, within, c.args.self.now.records));
      known = c.if-not-found.false;
      rest = memory_of c.args.self.now.table.now (g.L.OpenList.waiting c.take.new.self);
      table = refl;
      removed = taken_least _ _ _ _ _ _ (c.in-Some.ensures o) (c.take.ensures.least o) (c.take.ensures.taken o);
      closes = closes;
      expands = expands;
      counted = counted;
    }

pub returns-then-is_goal-clause-turned : goal.returns-then-is_goal-clause-turned
returns-then-is_goal-clause-turned g c = λ o.
    turned g (goal.at.returns-then-is_goal-clause-turned g c).After-take o _
    (λ _. record { memory = record { table = refl; waiting = λ _. refl }; status = c.count.ensures.status ∙ c.verdict.ensures })
    (λ e. cc)
    (counts _ _ _ c.count.ensures)

pub returns-clause-turned : goal.returns-clause-turned
returns-clause-turned g c = λ o.
    let k = c.count-2.ensures in
    let status = sym k.status in
    let turns = sym k.turns in
    let limit = sym k.limit in
    let o₁ = c.take.ensures.ordered o in
    let onward = c.onward-status.ensures.onward (c.sweep.ensures.ordered o₁) in
    turned g (goal.at.returns-clause-turned g c).After-take o _
    (λ e. cc)
    (λ _. record {
      swept = rw (sym c.known_label.ensures) (c.sweep.ensures.swept o₁);
      status = subst (λ (n : Numbers). Onward (g.L.OpenList.waiting c.sweep.new.self.list.now) n.turns n.limit n.status) (λ i. record { status = status i; turns = turns i; limit = limit i; state = c.args.marking.now.state; action = c.args.marking.now.action }) onward;
    })
    (counts _ _ _ k)
