-- A whole marking: a start, then advances until it is not open.
use Rattle.std.proofs.Common.{◌≡◌, ℕ, ◌+◌, ◌-◌, ◌<◌, ◌≤◌, Bool, true, false, ◌⊎◌, List, sym, refl, ap, ◌∙◌, subst, inl, inr, arith}
use Rattle.planning.specs.declared.cost.Record.{Record}
use Rattle.planning.specs.declared.status.Status.{Status}
use Rattle.planning.specs.declared.status.Status.TheVariants.{Fresh, Open, Best, Other, Stuck, Spent}
use Rattle.planning.specs.Costs.{Algebra}
use Rattle.planning.specs.Estimates.{Estimates, Bounded}
use Rattle.planning.specs.Histories.{Owned, never, own, configuration, History, started, advanced}
use Rattle.planning.specs.Lists.{Waiting}
use Rattle.planning.specs.Search.{Numbers, Memory, Configuration, Started, Runs, still, turn, Turn, Advanced, Onward, nothing_waits, at_limit, goes_on, verdict_of}
use Rattle.planning.specs.Task.{Model, TaskLaws}
use Rattle.planning.specs.Theorem.{is_verdict, Reached, Meaning, Theorem}
use Rattle.planning.proofs.Histories.{runs_turns, runs_limit}
use Rattle.marker.specs.Marked.{is_end, Marked}

onward_begun : {K : Type 0} (w : Waiting K) (n k : ℕ) (s : Status) → Onward w n k s → s ≡ Fresh → ⊥
onward_begun w n k s (nothing_waits _) e = grind arith
onward_begun w n k s (at_limit _ _) e = grind arith
onward_begun w n k s (goes_on _ _) e = grind arith

verdict_begun : (b : Bool) → verdict_of b ≡ Fresh → ⊥
verdict_begun true e = grind arith
verdict_begun false e = grind arith

module _ {K : Type 0} (t : Model) (a : Algebra K) (sum : K → K → K) (h : Estimates K) where
  turn_begun : (c e : Configuration K) → Turn t a sum h c e → e.numbers.status ≡ Fresh → ⊥
  turn_begun c e o = go (t.goal o.state) refl
    where
      go : (b : Bool) → t.goal o.state ≡ b → e.numbers.status ≡ Fresh → ⊥
      go true g f = verdict_begun o.found.tagged (sym (o.closes g).status ∙ f)
      go false g f = onward_begun e.memory.waiting e.numbers.turns e.numbers.limit e.numbers.status (o.expands g).status f

  runs_begun : (c : Configuration K) → (c.numbers.status ≡ Fresh → ⊥) → (k : ℕ) (e : Configuration K) → Runs t a sum h c k e → e.numbers.status ≡ Fresh → ⊥
  runs_begun c b k e still = b
  runs_begun c b k e (turn {d = d} _ _ o) = turn_begun d e o

  runs_marked : (c : Configuration K) (k : ℕ) (e : Configuration K) → Runs t a sum h c k e → (e.numbers.state ≡ c.numbers.state) × (e.numbers.action ≡ c.numbers.action)
  runs_marked c k e still = (refl, refl)
  runs_marked c k e (turn {k = j} {d = d} runs _ o) =
      let before = runs_marked c j d runs in
      (o.counted.state ∙ before.0, o.counted.action ∙ before.1)

  runs_none : (c : Configuration K) (k : ℕ) (e : Configuration K) → Runs t a sum h c k e → k ≡ 0 → e.numbers.status ≡ c.numbers.status
  runs_none c k e still z = refl
  runs_none c k e (turn {k = j} _ _ _) z = absurd (omega arith)

  -- an advance of an open marking makes a turn
  pub advance_falls : (budget : ℕ) (c e : Configuration K) → Advanced t a sum h budget c e → 1 ≤ budget → c.numbers.status ≡ Open → c.numbers.turns < c.numbers.limit → e.numbers.limit - e.numbers.turns < c.numbers.limit - c.numbers.turns
  advance_falls budget c e d some opened room =
      let turns = runs_turns t a sum h c d.made e d.runs in
      let limit = runs_limit t a sum h c d.made e d.runs in
      let made : d.made ≡ 0 → ⊥ = λ z. let all = d.all (runs_none c d.made e d.runs z ∙ opened) in omega arith in
      omega (arith, made)

module _ {K : Type 0} (a : Algebra K) (n : Numbers) (o : Owned K) (r : Reached a n o) where
  -- a marking that has its own things was started
  pub reached_begun : n.status ≡ Fresh → ⊥
  reached_begun = runs_begun o.task a a.plus o.estimates r.first (onward_begun r.first.memory.waiting 0 o.limit r.first.numbers.status r.started.status) n.turns (configuration n o) r.runs

  -- its numbers are the start's, but for status and turns
  pub reached_numbers : record { status = n.status; turns = n.turns; limit = o.limit; state = o.state; action = o.action } ≡ n
  reached_numbers =
      let marked = runs_marked o.task a a.plus o.estimates r.first n.turns (configuration n o) r.runs in
      let limit = sym (runs_limit o.task a a.plus o.estimates r.first n.turns (configuration n o) r.runs ∙ r.started.limit_kept) in
      let state = sym (marked.0 ∙ r.started.state_kept) in
      let action = sym (marked.1 ∙ r.started.action_kept) in
      λ i. record { status = n.status; turns = n.turns; limit = limit i; state = state i; action = action i }

module _ {K : Type 0} (t : Model) (a : Algebra K) (h : Estimates K) (state action limit : ℕ) where
  abbrev pub owned : ℕ → Memory K → Owned K
  owned granted m = record { task = t; estimates = h; memory = m; state = state; action = action; limit = limit; granted = granted }

  -- a marking under way: its history, and that it is open, has a verdict or was granted enough turns
  pub record Going (n : Numbers) (m : Memory K) : Type 0 where
    pub granted : ℕ
    pub history : History a n (own (owned granted m))
    pub on : (n.status ≡ Open) ⊎ ((is_verdict n.status ≡ true) ⊎ (t.states ≤ granted))

  started_on : (w : Waiting K) (s : Status) → 1 ≤ limit → Onward w 0 limit s → (s ≡ Open) ⊎ ((is_verdict s ≡ true) ⊎ (t.states ≤ 0))
  started_on w s some (nothing_waits _) = inr (inl refl)
  started_on w s some (at_limit _ b) = absurd (omega arith)
  started_on w s some (goes_on _ _) = inl refl

  pub going_start : (n : Numbers) (table : List (Record K)) (c : Configuration K) → History a n never → Started t a a.computed h state action limit table c → Going c.numbers c.memory
  going_start n table c past o = record { granted = 0; history = started past o; on = started_on c.memory.waiting c.numbers.status o.startable.some_turn o.status }

  pub going_on : (n : Numbers) (m : Memory K) (budget : ℕ) (c : Configuration K) → t.states ≤ budget → Going n m → Advanced t a a.computed h budget (record { numbers = n; memory = m }) c → Going c.numbers c.memory
  going_on n m budget c enough past d = record { granted = past.granted + budget; history = advanced past.history d; on = inr (inr (omega arith)) }

  -- a marking that is not open any more has what is promised of its answer
  pub going_end : Theorem a → TaskLaws t → Bounded a h → (n : Numbers) (m : Memory K) (told : Status × ℕ) → told.0 ≡ n.status → told.1 ≡ n.turns → (told.0 ≡ Open → ⊥) → Going n m → Marked t a h m state action limit told
  going_end theorem laws bounded n m told status turns closed past =
      let promised = theorem.promised n (owned past.granted m) laws bounded past.history in
      let begun = reached_begun a n (owned past.granted m) promised.reached in
      let numbers = reached_numbers a n (owned past.granted m) promised.reached in
      let same : record { status = told.0; turns = told.1; limit = limit; state = state; action = action } ≡ n = (λ i. record { status = status i; turns = turns i; limit = limit; state = state; action = action }) ∙ numbers in
      record {
        ended = ended told.0 (λ e. begun (sym status ∙ e)) closed;
        reached = subst (λ n. Reached a n (owned 0 m)) (sym same) (record { table = promised.reached.table; first = promised.reached.first; started = promised.reached.started; runs = promised.reached.runs });
        meaning = λ admissible verdict. subst (Meaning t a state action) (sym status) (promised.meaning admissible (ap is_verdict (sym status) ∙ verdict));
        verdict = λ consistent enough.
            let ends = promised.ends consistent enough in
            (ap is_verdict status ∙ settled ends.verdict past.on, omega (arith, ends.few_turns, turns));
      }
    where
      ended : (s : Status) → (s ≡ Fresh → ⊥) → (s ≡ Open → ⊥) → is_end s ≡ true
      ended Fresh f o = absurd (f refl)
      ended Open f o = absurd (o refl)
      ended Best f o = refl
      ended Other f o = refl
      ended Stuck f o = refl
      ended Spent f o = refl

      settled : (t.states ≤ past.granted → is_verdict n.status ≡ true) → (n.status ≡ Open) ⊎ ((is_verdict n.status ≡ true) ⊎ (t.states ≤ past.granted)) → is_verdict n.status ≡ true
      settled v (inl e) = absurd (closed (status ∙ e))
      settled v (inr (inl e)) = e
      settled v (inr (inr b)) = v b
