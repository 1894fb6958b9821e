-- The frontier: on each solution some entry waits that is not after its cost. So a goal that is taken is a cheapest one.
use Rattle.std.proofs.Common.{◌≡◌, ℕ, ◌<◌, true, false, List, [], ◌∷◌, Some, None, Option, refl, ap, ◌∙◌, subst}
use Rattle.std.proofs.lemmas.Bool.{both_ways}
use Rattle.planning.specs.declared.cost.Record.{Record}
use Rattle.planning.specs.declared.task.Transition.{Transition}
use Rattle.planning.specs.Costs.{Algebra, CostLaws, Strict}
use Rattle.planning.specs.Estimates.{Estimates, Admissible, AtMost}
use Rattle.planning.specs.Labels.{Label}
use Rattle.planning.specs.Lists.{Emptied, First}
use Rattle.planning.specs.Paths.{Path, stay, step, Solution, Cheapest, Optimal, Solvable}
use Rattle.planning.specs.Search.{Memory, label}
use Rattle.planning.specs.Task.{Model, TaskLaws}
use Rattle.planning.proofs.Labels.{NotAfter, shift, not_after_trans, not_after_cost, tagged_from, zero_from, shift_zero, shift_shift, shift_front, shift_not_after}
use Rattle.planning.proofs.Offers.{none_some, mark, Covered}
use Rattle.planning.proofs.Invariant.{Invariant, Rooted, Entered, Settled, All, Way}

-- an entry waits that is not after z
pub record Ahead {K : Type 0} (a : Algebra K) (m : Memory K) (z : Label K) : Type 0 where
  pub state : ℕ
  pub entry : Label K
  pub waits : m.waiting state ≡ Some entry
  pub not_after : NotAfter a entry z

module _ {K : Type 0} (t : Model) (a : Algebra K) (h : Estimates K) (l : CostLaws a) (strict : Strict a) (laws : TaskLaws t) (admissible : Admissible t a h) (s action : ℕ) (m : Memory K) (i : Invariant t a h s action (All t a h) m) where
  -- the entry of a state on a solution
  at_entry : (p : ℕ) (actions : List ℕ) (k : K) (x z : Label K) → Solution t a p actions k → Covered a m p x → m.waiting p ≡ Some z → Ahead a m (shift a x k)
  at_entry p actions k x z solution c w = record { state = p; entry = z; waits = w; not_after = rw f.front (not_after_trans a l (shift a f.label f.estimate) (shift a f.label k) (shift a x k) (shift_front a l f.label f.estimate k low) (shift_not_after a l strict f.label x k below)) }
    where
      f : Entered t a h m p z
      f = i.entries p z w

      e : AtMost a h p k
      e = admissible p actions k solution

      low : a.before k f.estimate ≡ false
      low =
          let same : e.0 ≡ f.estimate = cc (e.1, f.estimated) in
          subst (λ x. a.before k x ≡ false) same e.2

      below : NotAfter a f.label x
      below =
          let same : c.label ≡ f.label = cc (c.is, f.is) in
          subst (λ y. NotAfter a y x) same c.not_after

  -- a state on a solution that does not wait has offered all
  at_settled : (p : ℕ) (actions : List ℕ) (k : K) (y : Label K) → p < t.states → Solution t a p actions k → mark m p ≡ Some y → m.waiting p ≡ None → Settled t a h (All t a h) m p y
  at_settled p actions k y b solution is w =
      let e = admissible p actions k solution in
      i.settled p y e.0 b is w e.1

  pub frontier : {p : ℕ} {actions : List ℕ} {q : ℕ} {k : K} → Path t a p actions q k → t.goal q ≡ true → (x : Label K) → Covered a m p x → Ahead a m (shift a x k)
  frontier {p = p} stay goal x c = go (m.waiting p) refl
    where
      here : Solution t a p [] a.zero
      here = record { end = p; path = stay; goal = goal }

      go : (w : Option (Label K)) → m.waiting p ≡ w → Ahead a m (shift a x a.zero)
      go (Some z) w = at_entry p [] a.zero x z here c w
      go None w =
          let no_goal = (at_settled p [] a.zero c.label (laws.goal p goal) here c.is w).no_goal in
          absurd (both_ways (t.goal p) no_goal goal)
  frontier {p = p} {q = q} (step {action = b} {actions = bs} {k = k} to e path) goal x c = go (m.waiting p) refl (frontier path goal)
    where
      here : Solution t a p (b ∷ bs) (a.plus (a.charge to.coins) k)
      here = record { end = q; path = step to e path; goal = goal }

      go : (w : Option (Label K)) → m.waiting p ≡ w → ((x : Label K) → Covered a m to.state x → Ahead a m (shift a x k)) → Ahead a m (shift a x (a.plus (a.charge to.coins) k))
      go (Some z) w next = at_entry p (b ∷ bs) (a.plus (a.charge to.coins) k) x z here c w
      go None w next =
          let far = next (shift a c.label (a.charge to.coins)) ((at_settled p (b ∷ bs) (a.plus (a.charge to.coins) k) c.label (laws.step p b to e).from here c.is w).offered b to tt e) in
          let near : NotAfter a far.entry (shift a c.label (a.plus (a.charge to.coins) k)) = subst (NotAfter a far.entry) (shift_shift a l c.label (a.charge to.coins) k) far.not_after in
          record { state = far.state; entry = far.entry; waits = far.waits; not_after = not_after_trans a l far.entry (shift a c.label (a.plus (a.charge to.coins) k)) (shift a x (a.plus (a.charge to.coins) k)) near (shift_not_after a l strict c.label x (a.plus (a.charge to.coins) k) c.not_after) }

  pub through : {p b : ℕ} {bs : List ℕ} {q : ℕ} {k : K} → ((to : Transition) → t.transition p b ≡ Some to → Covered a m to.state (record { cost = a.charge to.coins; tagged = true })) → Path t a p (b ∷ bs) q k → t.goal q ≡ true → Ahead a m (record { cost = k; tagged = true })
  through c (step to e path) goal = frontier path goal (record { cost = a.charge to.coins; tagged = true }) (c to e)

  module _ (j : Rooted t a h s action m) where
    pub nothing_waits : Emptied m.waiting → Solvable t a s → ⊥
    nothing_waits w solvable =
        let far = frontier solvable.2.path solvable.2.goal (record { cost = a.zero; tagged = false }) j.root in
        none_some (w far.state) far.waits

    -- a goal that is taken
    module _ (p : ℕ) (r : Record K) (z : Label K) (is : mark m p ≡ Some (label r)) (f : First a m.waiting p z) (goal : t.goal p ≡ true) where
      front : z ≡ label r
      front =
          let entered = i.entries p z f.waits in
          let low = admissible p [] a.zero (record { end = p; path = stay; goal = goal }) in
          let same : entered.label ≡ label r = cc (entered.is, is) in
          let none : entered.estimate ≡ a.zero = cc (zero_from a l low.0 low.2, low.1, entered.estimated) in
          entered.front ∙ ap (shift a entered.label) none ∙ shift_zero a l entered.label ∙ same

      not_after_front : (x : Label K) → Ahead a m x → NotAfter a (label r) x
      not_after_front x far = subst (λ z. NotAfter a z x) front (not_after_trans a l z far.entry x (f.least far.state far.entry far.waits) far.not_after)

      way : Way t a s action p (label r)
      way = i.ways p (label r) (laws.goal p goal) is

      cheapest : Cheapest t a s way.actions r.cost
      cheapest = record { solution = record { end = p; path = way.path; goal = goal }; least = least }
        where
          least : (others : List ℕ) (k : K) → Solution t a s others k → a.before k r.cost ≡ false
          least others k o =
              let far = frontier o.path o.goal (record { cost = a.zero; tagged = false }) j.root in
              let low = not_after_cost a l (label r) (shift a (record { cost = a.zero; tagged = false }) k) (not_after_front (shift a (record { cost = a.zero; tagged = false }) k) far) in
              subst (λ k. a.before k r.cost ≡ false) (l.zero_left k) low

      pub tagged_goal : r.tagged ≡ true → Optimal t a s action
      tagged_goal e =
          let begins = way.begins e in
          (begins.0, r.cost, subst (λ actions. Cheapest t a s actions r.cost) begins.1 cheapest)

      pub untagged_goal : r.tagged ≡ false → Solvable t a s × (Optimal t a s action → ⊥)
      untagged_goal e = ((way.actions, r.cost, cheapest.solution), other)
        where
          other : Optimal t a s action → ⊥
          other o =
              let best = o.2 in
              let far = through j.branch best.solution.path best.solution.goal in
              let tag = tagged_from a l (label r) o.1 (not_after_front (record { cost = o.1; tagged = true }) far) (best.least way.actions r.cost cheapest.solution) in
              both_ways r.tagged e tag
