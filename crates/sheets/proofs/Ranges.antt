-- The tasks of a kind of sheet keep the ranges of a task where its steps do.
use Rattle.std.proofs.Common.{◌≡◌, ℕ, ◌<◌, ◌≤◌, Bool, true, false, cond, ◌&&◌, ltb, List, Some, None, Option, refl}
use Rattle.std.specs.List.{slice_get}
use Rattle.std.proofs.lemmas.Bool.{and_parts, ltb-true}
use Rattle.planning.specs.declared.task.Transition.{Transition}
use Rattle.planning.specs.Task.{TaskLaws}
use Rattle.sheets.specs.Kinds.{Reading, Tasks, listed, task_over}

-- what a test guards is there only where the test holds
pub guarded : {X : Type 0} (b : Bool) (o : Option X) (x : X) → cond b o None ≡ Some x → (b ≡ true) × (o ≡ Some x)
guarded true o x e = (refl, e)
guarded false o x e = (cc, cc)

module _ {Head Entry : Type 0} (r : Reading Head Entry) (t : Tasks r) (h : Head) where
  pub ranges : 1 ≤ t.states h → t.states h ≤ 65536 → 1 ≤ r.count h → r.count h ≤ 512 → ((s : ℕ) (x : Entry) (coins : ℕ) (to : Transition) → t.does h s x coins ≡ Some to → (to.state < t.states h) × (to.coins ≤ 1000000))
      → (actions : List Entry) (prices : List ℕ) → TaskLaws (task_over r t h actions prices)
  ranges some-state few-states some-action few-actions step actions prices = record {
    some_state = some-state;
    few_states = few-states;
    some_action = some-action;
    few_actions = few-actions;
    step = λ s a to e.
        let g = guarded (ltb s (t.states h) && ltb a (r.count h)) (listed (t.does h s) (slice_get actions a) (slice_get prices a)) to e in
        let inside = and_parts (ltb s (t.states h)) (ltb a (r.count h)) g.0 in
        let there = led s (slice_get actions a) (slice_get prices a) to g.1 in
        record { from = ltb-true s (t.states h) inside.0; by = ltb-true a (r.count h) inside.1; into = there.0; coins = there.1 };
    goal = λ s e. ltb-true s (t.states h) (and_parts (ltb s (t.states h)) _ e).0;
  }
    where
      led : (s : ℕ) (a : Option Entry) (price : Option ℕ) (to : Transition) → listed (t.does h s) a price ≡ Some to → (to.state < t.states h) × (to.coins ≤ 1000000)
      led s None price to e = (cc, cc)
      led s (Some x) None to e = (cc, cc)
      led s (Some x) (Some coins) to e = step s x coins to e
