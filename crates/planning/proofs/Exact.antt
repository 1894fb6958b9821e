-- Sizes stay small while a marking has its own things, so that the computed sums are exact.
use Rattle.std.proofs.Common.{◌≡◌, ℕ, suc, ◌+◌, ◌*◌, ◌^◌, ◌<◌, ◌≤◌, Bool, true, false, List, Some, None, sym, refl, ap, ◌∙◌, subst, arith}
use Rattle.std.specs.List.{slice_get}
use Rattle.planning.specs.declared.cost.Record.{Record}
use Rattle.planning.specs.declared.status.Status.{Status}
use Rattle.planning.specs.declared.status.Status.TheVariants.{Open}
use Rattle.planning.specs.declared.task.Transition.{Transition}
use Rattle.planning.specs.Costs.{Algebra, CostLaws}
use Rattle.planning.specs.Estimates.{Estimates, Bounded}
use Rattle.planning.specs.Labels.{Label}
use Rattle.planning.specs.Lists.{Waiting, Put}
use Rattle.planning.specs.Search.{Memory, Configuration, label, Recorded, Offered, offer, Swept, none, more, Turn, Runs, still, turn, Started, Onward, nothing_waits, at_limit, goes_on}
use Rattle.planning.specs.Task.{Model, TaskLaws}
use Rattle.planning.proofs.Offers.{none_some, known, mark, mark_from, same_memory, Each, as_was, took, each, along_sweep}
use Rattle.planning.proofs.Invariant.{blank_marks}
use Rattle.planning.proofs.Verdicts.{closed_not_open}

onward_below : {K : Type 0} (w : Waiting K) (n k : ℕ) (s : Status) → Onward w n k s → s ≡ Open → n < k
onward_below w n k s (nothing_waits _) e = grind arith
onward_below w n k s (at_limit _ _) e = grind arith
onward_below w n k s (goes_on _ b) e = b

module _ {K : Type 0} (t : Model) (a : Algebra K) (h : Estimates K) (l : CostLaws a) (laws : TaskLaws t) (bounded : Bounded a h) where
  -- the costs of all known states are of at most that size
  abbrev pub Sized : ℕ → Memory K → Type 0
  Sized b m = (p : ℕ) (y : Label K) → p < t.states → mark m p ≡ Some y → a.size y.cost ≤ b

  -- small enough to add an estimate
  abbrev Small : ℕ → Type 0
  Small b = b + 2 ^ 40 ≤ 2 ^ 62

  pub offer_exact : (b q : ℕ) (x : Label K) (m m' : Memory K) → a.size x.cost ≤ b → Small b → Offered a a.computed h q x m m' → Offered a a.plus h q x m m'
  offer_exact b q x m m' small room o = record { found = o.found; at = o.at; taken = λ e. recorded (o.taken e); passed = o.passed }
    where
      recorded : Recorded a.computed h q x m m' → Recorded a.plus h q x m m'
      recorded r = record { table = r.table; dead_end = r.dead_end; put = λ e f. subst (λ k. Put m.waiting m'.waiting q k x.tagged) (l.exact x.cost e (let low = bounded q e f in omega arith)) (r.put e f) }

  offer_sized : (b q : ℕ) (x : Label K) (m m' : Memory K) → a.size x.cost ≤ b → Offered a a.plus h q x m m' → Sized b m → Sized b m'
  offer_sized b q x m m' small o i p y w e = go (each a a.plus h q x m m' o p)
    where
      go : Each a a.plus h q x m m' p → a.size y.cost ≤ b
      go (as_was k _) = i p y w (sym k ∙ e)
      go (took here new) =
          let same : x ≡ y = cc (e, new.mark) in
          subst (λ y. a.size y.cost ≤ b) same small

  -- what one action offers by computed sums is what it offers by exact ones
  offer_same : (b : ℕ) (y : Label K) (p n : ℕ) (to : Transition) → a.size y.cost + 1000000 ≤ b → Small b → t.transition p n ≡ Some to → (offer a a.computed y to ≡ offer a a.plus y to) × (a.size (offer a a.plus y to).cost ≤ b)
  offer_same b y p n to small room e =
      let coins = l.size_charge to.coins (laws.step p n to e).coins in
      let sum = l.size_plus y.cost (a.charge to.coins) in
      (ap {B = Label K} (λ k. record { cost = k; tagged = y.tagged }) (l.exact y.cost (a.charge to.coins) (omega arith)), omega arith)

  module _ (b p : ℕ) (y : Label K) (m : Memory K) (small : a.size y.cost + 1000000 ≤ b) (room : Small b) where
    abbrev Sweeping : ℕ → Memory K → Type 0
    Sweeping n d = Swept t a a.plus h p y m n d × Sized b d

    idle : (n : ℕ) (d : Memory K) → t.transition p n ≡ None → Sweeping n d → Sweeping (suc n) d
    idle n d e i = (more i.0 (record { inapplicable = λ _. record { table = refl; waiting = λ _. refl }; applicable = λ to f. absurd (none_some e f) }), i.1)

    sweeping : (n : ℕ) (d d' : Memory K) (to : Transition) → t.transition p n ≡ Some to → Offered a a.computed h to.state (offer a a.computed y to) d d' → Sweeping n d → Sweeping (suc n) d'
    sweeping n d d' to e o i = (more i.0 (record { inapplicable = λ f. absurd (none_some f e); applicable = applicable }), offer_sized b to.state (offer a a.plus y to) d d' same.1 exact i.1)
      where
        same : (offer a a.computed y to ≡ offer a a.plus y to) × (a.size (offer a a.plus y to).cost ≤ b)
        same = offer_same b y p n to small room e

        exact : Offered a a.plus h to.state (offer a a.plus y to) d d'
        exact = offer_exact b to.state (offer a a.plus y to) d d' same.1 room (subst (λ x. Offered a a.computed h to.state x d d') same.0 o)

        applicable : (at : Transition) → t.transition p n ≡ Some at → Offered a a.plus h at.state (offer a a.plus y at) d d'
        applicable at f =
            let this : to ≡ at = cc (e, f) in
            subst (λ at. Offered a a.plus h at.state (offer a a.plus y at) d d') this exact

    sweep_exact : (n : ℕ) (d : Memory K) → Sized b m → Swept t a a.computed h p y m n d → Sweeping n d
    sweep_exact n d i w = along_sweep t a a.computed h p y m Sweeping (none, i) idle sweeping n d w

  -- the size of costs after n turns
  abbrev pub after : ℕ → ℕ
  after n = (n + 1) * 1000000

  module _ (d e : Configuration K) (n : ℕ) (few : n < 100000000) (i : Sized (after n) d.memory) (o : Turn t a a.computed h d e) where
    small : a.size o.found.cost + 1000000 ≤ after (suc n)
    small =
        let low = i o.state (label o.found) o.within (mark_from d.memory o.state o.found o.at o.known) in
        omega arith

    rest_sized : Sized (after (suc n)) o.rest
    rest_sized p y b f =
        let low = i p y b (ap (λ z. known (slice_get z p)) (sym o.table) ∙ f) in
        omega arith

    swept : t.goal o.state ≡ false → Swept t a a.plus h o.state (label o.found) o.rest t.actions e.memory × Sized (after (suc n)) e.memory
    swept g = sweep_exact (after (suc n)) o.state (label o.found) o.rest small (omega arith) t.actions e.memory rest_sized (o.expands g).swept

    pub turn_exact : Turn t a a.plus h d e
    turn_exact = record { state = o.state; entry = o.entry; first = o.first; within = o.within; found = o.found; at = o.at; known = o.known; rest = o.rest; table = o.table; removed = o.removed; closes = o.closes; expands = λ g. record { swept = (swept g).0; status = (o.expands g).status }; counted = o.counted }

    pub turn_sized : Sized (after (suc n)) e.memory
    turn_sized = go (t.goal o.state) refl
      where
        go : (b : Bool) → t.goal o.state ≡ b → Sized (after (suc n)) e.memory
        go true g = subst (Sized (after (suc n))) (sym (same_memory o.rest e.memory (o.closes g).memory)) rest_sized
        go false g = (swept g).1

  -- what keeps the sums of a configuration exact
  pub record Kept (c : Configuration K) : Type 0 where
    pub sized : Sized (after c.numbers.turns) c.memory
    pub below_limit : c.numbers.status ≡ Open → c.numbers.turns < c.numbers.limit
    pub few_turns : c.numbers.limit ≤ 100000000

  turn_kept : (d e : Configuration K) → Kept d → d.numbers.status ≡ Open → Turn t a a.computed h d e → Turn t a a.plus h d e × Kept e
  turn_kept d e i f o = (turn_exact d e d.numbers.turns few i.sized o, record { sized = subst (λ n. Sized (after n) e.memory) count (turn_sized d e d.numbers.turns few i.sized o); below_limit = go (t.goal o.state) refl; few_turns = rw o.counted.limit i.few_turns })
    where
      few : d.numbers.turns < 100000000
      few = omega (arith, i.below_limit f, i.few_turns)

      count : suc d.numbers.turns ≡ e.numbers.turns
      count = omega (arith, o.counted.turns)

      go : (b : Bool) → t.goal o.state ≡ b → e.numbers.status ≡ Open → e.numbers.turns < e.numbers.limit
      go true g s = absurd (closed_not_open o.found.tagged (sym (o.closes g).status ∙ s))
      go false g s = onward_below e.memory.waiting e.numbers.turns e.numbers.limit e.numbers.status (o.expands g).status s

  pub runs_exact : (c : Configuration K) → Kept c → (k : ℕ) (e : Configuration K) → Runs t a a.computed h c k e → Runs t a a.plus h c k e × Kept e
  runs_exact c i k e still = (still, i)
  runs_exact c i k e (turn {d = d} runs f o) =
      let before = runs_exact c i _ d runs in
      let last = turn_kept d e before.1 f o in
      (turn before.0 f last.0, last.1)

  module _ (s action limit : ℕ) (table : List (Record K)) (c : Configuration K) (o : Started t a a.computed h s action limit table c) where
    untagged : Offered a a.plus h s (record { cost = a.zero; tagged = false }) o.empty o.between
    untagged = offer_exact 1000000 s _ o.empty o.between (omega (arith, l.size_zero)) (omega arith) o.untagged

    charge : a.size (a.charge o.to.coins) ≤ 1000000
    charge = l.size_charge o.to.coins (laws.step s action o.to o.startable.leads).coins

    tagged : Offered a a.plus h o.to.state (record { cost = a.charge o.to.coins; tagged = true }) o.between c.memory
    tagged = offer_exact 1000000 o.to.state _ o.between c.memory charge (omega arith) o.tagged

    pub started_exact : Started t a a.plus h s action limit table c
    started_exact = record { to = o.to; startable = o.startable; empty = o.empty; is_empty = o.is_empty; between = o.between; untagged = untagged; tagged = tagged; status = o.status; turns = o.turns; limit_kept = o.limit_kept; state_kept = o.state_kept; action_kept = o.action_kept }

    pub started_kept : Kept c
    started_kept = record { sized = subst (λ n. Sized (after n) c.memory) (sym o.turns) sized; below_limit = λ e. rw (o.turns, o.limit_kept) (onward_below c.memory.waiting 0 limit c.numbers.status o.status e); few_turns = omega (arith, o.limit_kept, o.startable.few_turns) }
      where
        empty : Sized 1000000 o.empty
        empty p y b e = absurd (none_some (blank_marks t a table o.empty o.is_empty p b) e)

        sized : Sized 1000000 c.memory
        sized = offer_sized 1000000 o.to.state _ o.between c.memory charge tagged (offer_sized 1000000 s _ o.empty o.between (omega (arith, l.size_zero)) untagged empty)
