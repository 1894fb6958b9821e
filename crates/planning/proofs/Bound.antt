-- With consistent estimates no state is taken twice: the states that are unknown or wait become fewer with every turn.
use Rattle.std.proofs.Common.{◌≡◌, ℕ, zero, suc, ◌+◌, ◌<◌, ◌≤◌, Bool, true, false, List, Some, None, Option, sym, refl, ap, ◌∙◌, subst, subst₂, le_refl, arith}
use native.Mathlib.Decide.{ℕ_discrete}
use Rattle.std.specs.List.{slice_get}
use Rattle.std.proofs.lemmas.Bool.{both_ways}
use Rattle.planning.specs.declared.cost.Record.{Record}
use Rattle.planning.specs.declared.status.Status.{Status}
use Rattle.planning.specs.declared.status.Status.TheVariants.{Open}
use Rattle.planning.specs.declared.task.Transition.{Transition}
use Rattle.planning.specs.Costs.{Algebra, CostLaws, Strict}
use Rattle.planning.specs.Estimates.{Estimates, Consistent}
use Rattle.planning.specs.Labels.{Label, earlier}
use Rattle.planning.specs.Search.{Memory, Configuration, label, verdict_of, Offered, offer, Turn, Runs, still, turn, Started, Onward, nothing_waits, at_limit, goes_on, Waits}
use Rattle.planning.specs.Task.{Model, TaskLaws}
use Rattle.planning.specs.Theorem.{is_verdict, Ends}
use Rattle.planning.proofs.Labels.{NotAfter, shift, not_after_self, not_after_trans, shift_shift, shift_front, shift_earlier}
use Rattle.planning.proofs.Offers.{none_some, known, mark, mark_from, same_memory, Each, as_was, took, each, along_sweep}
use Rattle.planning.proofs.Invariant.{Invariant, All, blank_marks}
use Rattle.planning.proofs.Verdicts.{closed_not_open, Stage, going, done, runs_stage}

-- the sum of the first n values
abbrev pub total : (ℕ → ℕ) → ℕ → ℕ
total f zero = zero
total f (suc n) = total f n + f n

total_le : (f g : ℕ → ℕ) (n : ℕ) → ((p : ℕ) → p < n → f p ≤ g p) → total f n ≤ total g n
total_le f g zero h = omega arith
total_le f g (suc n) h =
    let rest = total_le f g n (λ p b. h p (omega arith)) in
    let here = h n (omega arith) in
    omega arith

total_lt : (f g : ℕ → ℕ) (n q : ℕ) → ((p : ℕ) → p < n → f p ≤ g p) → q < n → f q < g q → total f n < total g n
total_lt f g zero q h b c = omega arith
total_lt f g (suc n) q h b c = go (ℕ_discrete q n) (total_lt f g n q (λ p d. h p (omega arith)))
  where
    go : Dec (q ≡ n) → (q < n → f q < g q → total f n < total g n) → total f (suc n) < total g (suc n)
    go (yes e) ih =
        let rest = total_le f g n (λ p d. h p (omega arith)) in
        let here : f n < g n = subst (λ q. f q < g q) e c in
        omega arith
    go (no d) ih =
        let rest = ih (omega arith) c in
        let here = h n (omega arith) in
        omega arith

total_ones : (f : ℕ → ℕ) (n : ℕ) → ((p : ℕ) → f p ≤ 1) → total f n ≤ n
total_ones f zero h = omega arith
total_ones f (suc n) h =
    let rest = total_ones f n h in
    let here = h n in
    omega arith

-- whether a state is unknown or waits, from its label and its entry
abbrev live : {X Y : Type 0} → Option X → Option Y → ℕ
live None w = 1
live (Some x) None = 0
live (Some x) (Some y) = 1

live_one : {X Y : Type 0} (x : Option X) (w : Option Y) → live x w ≤ 1
live_one None w = omega arith
live_one (Some x) None = omega arith
live_one (Some x) (Some y) = omega arith

live_known : {X Y : Type 0} (x : X) (y : Option X) (w : Option Y) → live (Some x) w ≤ live y w
live_known x None w = live_one (Some x) w
live_known x (Some y) None = omega arith
live_known x (Some y) (Some w) = omega arith

live_waits : {X Y : Type 0} (x : Option X) (w : Option Y) (y : Y) → w ≡ Some y → live x w ≡ 1
live_waits None w y e = refl
live_waits (Some x) None y e = absurd (none_some refl e)
live_waits (Some x) (Some w) y e = refl

live_closed : {X Y : Type 0} (x : Option X) (w : Option Y) → ((y : X) → x ≡ Some y → w ≡ None → ⊥) → live x w ≡ 1
live_closed None w d = refl
live_closed (Some x) None d = absurd (d x refl refl)
live_closed (Some x) (Some y) d = refl

-- how many states below n are unknown or wait
abbrev pub left : {K : Type 0} → ℕ → Memory K → ℕ
left n m = total (λ p. live (mark m p) (m.waiting p)) n

module _ {K : Type 0} (t : Model) (a : Algebra K) (h : Estimates K) where
  -- the fronts of known states that do not wait are not after z, and those of waiting ones not before it
  pub record Split (z : Label K) (m : Memory K) : Type 0 where
    pub closed : (p : ℕ) (y : Label K) (e : K) → p < t.states → mark m p ≡ Some y → m.waiting p ≡ None → h p ≡ Some e → NotAfter a (shift a y e) z
    pub waiting : (p : ℕ) (x : Label K) → m.waiting p ≡ Some x → NotAfter a z x

  -- so every waiting entry splits them
  abbrev pub Sorted : Memory K → Type 0
  Sorted m = (q : ℕ) (z : Label K) → m.waiting q ≡ Some z → (p : ℕ) (y : Label K) (e : K) → p < t.states → mark m p ≡ Some y → m.waiting p ≡ None → h p ≡ Some e → NotAfter a (shift a y e) z

  module _ (l : CostLaws a) (strict : Strict a) (z : Label K) (q : ℕ) (x : Label K) (m m' : Memory K) (later : (e : K) → h q ≡ Some e → NotAfter a z (shift a x e)) (o : Offered a a.plus h q x m m') (i : Split z m) where
    closed_more : (p : ℕ) (y : Label K) (e : K) → Each a a.plus h q x m m' p → p < t.states → mark m' p ≡ Some y → m'.waiting p ≡ None → h p ≡ Some e → NotAfter a (shift a y e) z
    closed_more p y e (as_was k w) b f g d = i.closed p y e b (sym k ∙ f) (sym w ∙ g) d
    closed_more p y e (took here new) b f g d = absurd (none_some g (new.put e d))

    waiting_more : (p : ℕ) (y : Label K) → Each a a.plus h q x m m' p → m'.waiting p ≡ Some y → NotAfter a z y
    waiting_more p y (as_was k w) f = i.waiting p y (sym w ∙ f)
    waiting_more p y (took here new) f = go (h p) refl
      where
        go : (w : Option K) → h p ≡ w → NotAfter a z y
        go None d = i.waiting p y (sym (new.dead_end d) ∙ f)
        go (Some e) d =
            let same : shift a x e ≡ y = cc (f, new.put e d) in
            subst (NotAfter a z) same (later e (sym (ap h here) ∙ d))

    pub offer_split : Split z m'
    offer_split = record { closed = λ p y e. closed_more p y e (each a a.plus h q x m m' o p); waiting = λ p y. waiting_more p y (each a a.plus h q x m m' o p) }

    live_less : (p : ℕ) → p < t.states → Each a a.plus h q x m m' p → live (mark m' p) (m'.waiting p) ≤ live (mark m p) (m.waiting p)
    live_less p b (as_was k w) = rw (k, w) (omega arith)
    live_less p b (took here new) = go (h p) refl
      where
        go : (w : Option K) → h p ≡ w → live (mark m' p) (m'.waiting p) ≤ live (mark m p) (m.waiting p)
        go None d = rw (new.mark, new.dead_end d) (live_known x (mark m p) (m.waiting p))
        go (Some e) d = rw (live_closed (mark m p) (m.waiting p) again) (live_one (mark m' p) (m'.waiting p))
          where
            again : (y : Label K) → mark m p ≡ Some y → m.waiting p ≡ None → ⊥
            again y f g =
                let first = not_after_trans a l (shift a y e) z (shift a x e) (i.closed p y e b f g d) (later e (sym (ap h here) ∙ d)) in
                both_ways (earlier a (shift a x e) (shift a y e)) first (shift_earlier a l strict x y e (new.earlier y f))

    pub offer_left : left t.states m' ≤ left t.states m
    offer_left = total_le (λ p. live (mark m' p) (m'.waiting p)) (λ p. live (mark m p) (m.waiting p)) t.states (λ p b. live_less p b (each a a.plus h q x m m' o p))

  -- after some turns
  pub record Few (c : Configuration K) : Type 0 where
    pub few : c.numbers.turns + left t.states c.memory ≤ t.states
    pub sorted : c.numbers.status ≡ Open → Sorted c.memory

  module _ (l : CostLaws a) (strict : Strict a) (consistent : Consistent t a h) where
    module _ (s action : ℕ) (d e : Configuration K) (i : Invariant t a h s action (All t a h) d.memory) (few : Few d) (goes : d.numbers.status ≡ Open) (o : Turn t a a.plus h d e) where
      abbrev y : Label K
      y = label o.found

      is : mark d.memory o.state ≡ Some y
      is = mark_from d.memory o.state o.found o.at o.known

      marks : (q : ℕ) → mark o.rest q ≡ mark d.memory q
      marks q = ap (λ z. known (slice_get z q)) o.table

      front : (e : K) → h o.state ≡ Some e → shift a y e ≡ o.entry
      front e f =
          let entered = i.entries o.state o.entry o.first.waits in
          let label : entered.label ≡ y = cc (entered.is, is) in
          let estimate : entered.estimate ≡ e = cc (entered.estimated, f) in
          cc (entered.front, label, estimate)

      live_rest : (q : ℕ) → Dec (q ≡ o.state) → live (mark o.rest q) (o.rest.waiting q) ≤ live (mark d.memory q) (d.memory.waiting q)
      live_rest q (yes f) = rw (f, marks o.state, is, o.removed.here) (omega arith)
      live_rest q (no f) = rw (marks q, o.removed.others q f) (omega arith)

      rest_left : left t.states o.rest < left t.states d.memory
      rest_left = total_lt (λ p. live (mark o.rest p) (o.rest.waiting p)) (λ p. live (mark d.memory p) (d.memory.waiting p)) t.states o.state (λ q _. live_rest q (ℕ_discrete q o.state)) o.within (rw (marks o.state, o.removed.here, is, o.first.waits) (omega arith))

      rest_split : Split o.entry o.rest
      rest_split = record { closed = λ p y e b f g k. closed p y e b f g k (ℕ_discrete p o.state); waiting = λ p x f. waiting p x f (ℕ_discrete p o.state) }
        where
          closed : (p : ℕ) (x : Label K) (e : K) → p < t.states → mark o.rest p ≡ Some x → o.rest.waiting p ≡ None → h p ≡ Some e → Dec (p ≡ o.state) → NotAfter a (shift a x e) o.entry
          closed p x e b f g k (yes j) =
              let same : y ≡ x = cc (marks p, is, f, j) in
              let at : shift a x e ≡ o.entry = ap (λ x. shift a x e) (sym same) ∙ front e (sym (ap h j) ∙ k) in
              subst (λ x. NotAfter a x o.entry) (sym at) (not_after_self a l o.entry)
          closed p x e b f g k (no j) = few.sorted goes o.state o.entry o.first.waits p x e b (sym (marks p) ∙ f) (sym (o.removed.others p j) ∙ g) k

          waiting : (p : ℕ) (x : Label K) → o.rest.waiting p ≡ Some x → Dec (p ≡ o.state) → NotAfter a o.entry x
          waiting p x f (yes j) = absurd (none_some (ap o.rest.waiting j ∙ o.removed.here) f)
          waiting p x f (no j) = o.first.least p x (sym (o.removed.others p j) ∙ f)

      later : (n : ℕ) (to : Transition) → t.transition o.state n ≡ Some to → (e : K) → h to.state ≡ Some e → NotAfter a o.entry (shift a (offer a a.plus y to) e)
      later n to f e g =
          let low = consistent o.state n to f e g in
          subst₂ (NotAfter a) (front low.0 low.1) (sym (shift_shift a l y (a.charge to.coins) e)) (shift_front a l y low.0 (a.plus (a.charge to.coins) e) low.2)

      -- what the sweep keeps
      abbrev Sweeping : ℕ → Memory K → Type 0
      Sweeping n m = Split o.entry m × (left t.states m ≤ left t.states o.rest)

      sweeping : (n : ℕ) (m m' : Memory K) (to : Transition) → t.transition o.state n ≡ Some to → Offered a a.plus h to.state (offer a a.plus y to) m m' → Sweeping n m → Sweeping (suc n) m'
      sweeping n m m' to f k j =
          let x = offer a a.plus y to in
          let less = offer_left l strict o.entry to.state x m m' (later n to f) k j.0 in
          (offer_split l strict o.entry to.state x m m' (later n to f) k j.0, omega (arith, less, j.1))

      sorted_from : (m : Memory K) → Split o.entry m → Sorted m
      sorted_from m j q z w p x e b f g k = not_after_trans a l (shift a x e) o.entry z (j.closed p x e b f g k) (j.waiting q z w)

      pub turn_few : Few e
      turn_few = go (t.goal o.state) refl
        where
          go : (b : Bool) → t.goal o.state ≡ b → Few e
          go true g = record { few = subst (λ m. e.numbers.turns + left t.states m ≤ t.states) (sym (same_memory o.rest e.memory (o.closes g).memory)) (omega (arith, rest_left, few.few, o.counted.turns)); sorted = λ f. absurd (closed_not_open o.found.tagged (sym (o.closes g).status ∙ f)) }
          go false g =
              let end = along_sweep t a a.plus h o.state y o.rest Sweeping (rest_split, le_refl _) (λ n d _ j. j) sweeping t.actions e.memory (o.expands g).swept in
              record { few = omega (arith, end.1, rest_left, few.few, o.counted.turns); sorted = λ _. sorted_from e.memory end.0 }

  -- at the start no known state is closed
  abbrev NoneClosed : Memory K → Type 0
  NoneClosed m = (p : ℕ) (y : Label K) (e : K) → p < t.states → mark m p ≡ Some y → m.waiting p ≡ None → h p ≡ Some e → ⊥

  offer_none_closed : (q : ℕ) (x : Label K) (m m' : Memory K) → Offered a a.plus h q x m m' → NoneClosed m → NoneClosed m'
  offer_none_closed q x m m' o i p y e b f g k = go (each a a.plus h q x m m' o p)
    where
      go : Each a a.plus h q x m m' p → ⊥
      go (as_was j w) = i p y e b (sym j ∙ f) (sym w ∙ g) k
      go (took here new) = none_some g (new.put e k)

  module _ (s action limit : ℕ) (table : List (Record K)) (c : Configuration K) (o : Started t a a.plus h s action limit table c) where
    none_closed : NoneClosed c.memory
    none_closed = offer_none_closed o.to.state _ o.between c.memory o.tagged (offer_none_closed s _ o.empty o.between o.untagged (λ p y e b f _ _. none_some (blank_marks t a table o.empty o.is_empty p b) f))

    pub started_few : Few c
    started_few = record { few = rw o.turns (omega (arith, total_ones (λ p. live (mark c.memory p) (c.memory.waiting p)) t.states (λ p. live_one (mark c.memory p) (c.memory.waiting p)))); sorted = λ _ q z _ p y e b f g k. absurd (none_closed p y e b f g k) }

  module _ (l : CostLaws a) (strict : Strict a) (laws : TaskLaws t) (consistent : Consistent t a h) (s action : ℕ) (c : Configuration K) (first : Stage t a h s action c) (few : Few c) where
    turn_more : (d e : Configuration K) → Stage t a h s action d → Few d → d.numbers.status ≡ Open → Turn t a a.plus h d e → Few e
    turn_more d e (going i j _) b f o = turn_few l strict consistent s action d e i b f o
    turn_more d e (done tag g _) b f o = absurd (closed_not_open tag (sym g ∙ f))

    pub runs_few : (k : ℕ) (e : Configuration K) → Runs t a a.plus h c k e → Few e
    runs_few k e still = few
    runs_few k e (turn {d = d} runs f o) = turn_more d e (runs_stage t a h s action l strict laws c first _ d runs) (runs_few _ d runs) f o

  -- while an entry waits, there are fewer turns than states
  waits_few : (s action : ℕ) (c : Configuration K) → Invariant t a h s action (All t a h) c.memory → Waits c.memory.waiting → Few c → c.numbers.turns < t.states
  waits_few s action c i w few =
      let here = i.entries w.state w.entry w.waits in
      let some = total_lt (λ _. 0) (λ p. live (mark c.memory p) (c.memory.waiting p)) t.states w.state (λ p _. omega arith) here.within (rw (live_waits (mark c.memory w.state) (c.memory.waiting w.state) w.entry w.waits) (omega arith)) in
      omega (arith, some, few.few)

  onward_ends : (s action granted : ℕ) (c : Configuration K) → Invariant t a h s action (All t a h) c.memory → Few c → t.states ≤ c.numbers.limit → (st : Status) → Onward c.memory.waiting c.numbers.turns c.numbers.limit st → (st ≡ Open → granted ≤ c.numbers.turns) → t.states ≤ granted → is_verdict st ≡ true
  onward_ends s action granted c i few b st (nothing_waits w) g d = refl
  onward_ends s action granted c i few b st (at_limit w k) g d =
      let less = waits_few s action c i w few in
      absurd (omega arith)
  onward_ends s action granted c i few b st (goes_on w k) g d =
      let less = waits_few s action c i w few in
      let used = g refl in
      absurd (omega arith)

  pub ends : (s action granted : ℕ) (c : Configuration K) → Stage t a h s action c → Few c → t.states ≤ c.numbers.limit → (c.numbers.status ≡ Open → granted ≤ c.numbers.turns) → Ends t.states granted c.numbers
  ends s action granted c stage few b g = record { few_turns = omega (arith, few.few); verdict = verdict stage }
    where
      closed : (tag : Bool) → is_verdict (verdict_of tag) ≡ true
      closed true = refl
      closed false = refl

      verdict : Stage t a h s action c → t.states ≤ granted → is_verdict c.numbers.status ≡ true
      verdict (going i j o) d = onward_ends s action granted c i few b c.numbers.status o g d
      verdict (done tag e _) d = ap is_verdict e ∙ closed tag
