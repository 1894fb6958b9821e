-- What a search keeps: every label is the cost of a path, and every state that neither waits nor is a dead end has offered all.
use Rattle.std.proofs.Common.{◌≡◌, ℕ, zero, suc, ◌<◌, true, false, List, [], ◌∷◌, ◌++◌, Some, None, Option, sym, refl, ap, ◌∙◌, subst, arith}
use native.Mathlib.Decide.{ℕ_discrete}
use Rattle.std.specs.List.{slice_get}
use Rattle.planning.specs.declared.cost.Record.{Record}
use Rattle.planning.specs.declared.task.Transition.{Transition}
use Rattle.planning.specs.Costs.{Algebra, CostLaws}
use Rattle.planning.specs.Estimates.{Estimates}
use Rattle.planning.specs.Labels.{Label}
use Rattle.planning.specs.Paths.{Path, stay, step}
use Rattle.planning.specs.Lists.{Changed}
use Rattle.planning.specs.Search.{Memory, Configuration, label, blank, Cleared, Offered, offer, Swept, Started}
use Rattle.planning.specs.Task.{Model, TaskLaws}
use Rattle.planning.proofs.Labels.{shift}
use Rattle.planning.proofs.Offers.{none_some, known, mark, mark_from, nth_replicate, Covered, Each, as_was, took, each, covers, covered_keeps, along_sweep}

module _ {K : Type 0} (t : Model) (a : Algebra K) where
  -- one more action at the end of a path
  pub path_more : CostLaws a → {p : ℕ} {actions : List ℕ} {q : ℕ} {k : K} (action : ℕ) (to : Transition) → Path t a p actions q k → t.transition q action ≡ Some to → Path t a p (actions ++ action ∷ []) to.state (a.plus k (a.charge to.coins))
  path_more l action to stay e = subst (Path t a _ (action ∷ []) to.state) (l.zero_right _ ∙ sym (l.zero_left _)) (step to e stay)
  path_more l action to (step {action = b} {actions = bs} {k = k} at f path) e = subst (Path t a _ (b ∷ bs ++ action ∷ []) to.state) (sym (l.assoc (a.charge at.coins) k (a.charge to.coins))) (step at f (path_more l action to path e))

  -- a path from s to p whose cost and tag are y's: if tagged, it begins with the action
  pub record Way (s action p : ℕ) (y : Label K) : Type 0 where
    pub actions : List ℕ
    pub path : Path t a s actions p y.cost
    pub begins : y.tagged ≡ true → (rest : List ℕ) × (actions ≡ action ∷ rest)

  pub way_more : CostLaws a → (s action p b : ℕ) (y : Label K) (to : Transition) → Way s action p y → t.transition p b ≡ Some to → Way s action to.state (shift a y (a.charge to.coins))
  way_more l s action p b y to w e = record { actions = w.actions ++ b ∷ []; path = path_more l b to w.path e; begins = λ g. ((w.begins g).0 ++ b ∷ [], ap (λ z. z ++ b ∷ []) (w.begins g).1) }

  -- nothing is known of the states of the task in a cleared table
  pub blank_marks : (old : List (Record K)) (m : Memory K) → Cleared t a old m → (p : ℕ) → p < t.states → mark m p ≡ None
  blank_marks old m c p b = ap (λ z. known (slice_get z p)) c.table ∙ ap known (nth_replicate t.states p (blank a) _ b)

module _ {K : Type 0} (t : Model) (a : Algebra K) (h : Estimates K) where
  -- what a waiting entry z of p is: p is known, no dead end, and z is its label with the estimate added
  pub record Entered (m : Memory K) (p : ℕ) (z : Label K) : Type 0 where
    pub within : p < t.states
    pub label : Label K
    pub is : mark m p ≡ Some label
    pub estimate : K
    pub estimated : h p ≡ Some estimate
    pub front : z ≡ shift a label estimate

  -- p is no goal and has offered by each action that is paid
  pub record Settled (Paid : ℕ → ℕ → Type 0) (m : Memory K) (p : ℕ) (y : Label K) : Type 0 where
    pub no_goal : t.goal p ≡ false
    pub offered : (b : ℕ) (to : Transition) → Paid p b → t.transition p b ≡ Some to → Covered a m to.state (shift a y (a.charge to.coins))

  pub record Invariant (s action : ℕ) (Paid : ℕ → ℕ → Type 0) (m : Memory K) : Type 0 where
    pub ways : (p : ℕ) (y : Label K) → p < t.states → mark m p ≡ Some y → Way t a s action p y
    pub entries : (p : ℕ) (z : Label K) → m.waiting p ≡ Some z → Entered m p z
    pub settled : (p : ℕ) (y : Label K) (e : K) → p < t.states → mark m p ≡ Some y → m.waiting p ≡ None → h p ≡ Some e → Settled Paid m p y

  -- the two offers of the start stand
  pub record Rooted (s action : ℕ) (m : Memory K) : Type 0 where
    pub root : Covered a m s (record { cost = a.zero; tagged = false })
    pub branch : (to : Transition) → t.transition s action ≡ Some to → Covered a m to.state (record { cost = a.charge to.coins; tagged = true })

  -- an offer to a state keeps it
  module _ (l : CostLaws a) (s action : ℕ) (q : ℕ) (x : Label K) (m m' : Memory K) (within : q < t.states) (way : Way t a s action q x) (o : Offered a a.plus h q x m m') where
    offer_ways : ((p : ℕ) (y : Label K) → p < t.states → mark m p ≡ Some y → Way t a s action p y) → (p : ℕ) (y : Label K) → Each a a.plus h q x m m' p → p < t.states → mark m' p ≡ Some y → Way t a s action p y
    offer_ways i p y (as_was k w) b e = i p y b (sym k ∙ e)
    offer_ways i p y (took here new) b e =
        let same : x ≡ y = cc new.mark in
        subst (λ p. Way t a s action p y) (sym here) (subst (Way t a s action q) same way)

    offer_entries : ((p : ℕ) (z : Label K) → m.waiting p ≡ Some z → Entered m p z) → (p : ℕ) (z : Label K) → Each a a.plus h q x m m' p → m'.waiting p ≡ Some z → Entered m' p z
    offer_entries i p z (as_was k w) e =
        let f = i p z (sym w ∙ e) in
        record { within = f.within; label = f.label; is = k ∙ f.is; estimate = f.estimate; estimated = f.estimated; front = f.front }
    offer_entries i p z (took here new) e = go (h p) refl
      where
        go : (w : Option K) → h p ≡ w → Entered m' p z
        go None d =
            let f = i p z (sym (new.dead_end d) ∙ e) in
            absurd (none_some d f.estimated)
        go (Some w) d = record { within = subst (λ p. p < t.states) (sym here) within; label = x; is = new.mark; estimate = w; estimated = d; front = cc (e, new.put w d) }

    offer_settled : (Paid : ℕ → ℕ → Type 0) → ((p : ℕ) (y : Label K) (e : K) → p < t.states → mark m p ≡ Some y → m.waiting p ≡ None → h p ≡ Some e → Settled Paid m p y) → (p : ℕ) (y : Label K) (e : K) → Each a a.plus h q x m m' p → p < t.states → mark m' p ≡ Some y → m'.waiting p ≡ None → h p ≡ Some e → Settled Paid m' p y
    offer_settled Paid i p y e (as_was k w) b f g d =
        let old = i p y e b (sym k ∙ f) (sym w ∙ g) d in
        record { no_goal = old.no_goal; offered = λ c to paid f. covered_keeps a a.plus h q x m m' l o to.state (shift a y (a.charge to.coins)) (old.offered c to paid f) }
    offer_settled Paid i p y e (took here new) b f g d =
        absurd (none_some g (new.put e d))

    pub offer_keeps : (Paid : ℕ → ℕ → Type 0) → Invariant s action Paid m → Invariant s action Paid m'
    offer_keeps Paid i = record { ways = λ p y. offer_ways i.ways p y (each a a.plus h q x m m' o p); entries = λ p z. offer_entries i.entries p z (each a a.plus h q x m m' o p); settled = λ p y e. offer_settled Paid i.settled p y e (each a a.plus h q x m m' o p) }

    pub offer_rooted : Rooted s action m → Rooted s action m'
    offer_rooted i = record { root = covered_keeps a a.plus h q x m m' l o s (record { cost = a.zero; tagged = false }) i.root; branch = λ to e. covered_keeps a a.plus h q x m m' l o to.state (record { cost = a.charge to.coins; tagged = true }) (i.branch to e) }

  -- the pairs that are paid while p is being expanded: all but p's own actions from n on
  abbrev pub Below : ℕ → ℕ → ℕ → ℕ → Type 0
  Below p n q b = q ≡ p → b < n

  abbrev pub All : ℕ → ℕ → Type 0
  All q b = Unit {0}

  -- while p is expanded with the label x: if p does not wait, that is its label
  pub record Expanding (s action p : ℕ) (x : Label K) (n : ℕ) (m : Memory K) : Type 0 where
    pub invariant : Invariant s action (Below p n) m
    pub rooted : Rooted s action m
    pub unchanged : m.waiting p ≡ None → mark m p ≡ Some x

  -- what is paid for one more action of p
  settled_more : (p : ℕ) (x : Label K) (n : ℕ) (m : Memory K) → ((to : Transition) → t.transition p n ≡ Some to → Covered a m to.state (shift a x (a.charge to.coins))) → (q : ℕ) (y : Label K) → (q ≡ p → y ≡ x) → Settled (Below p n) m q y → Settled (Below p (suc n)) m q y
  settled_more p x n m new q y same old = record { no_goal = old.no_goal; offered = λ b to paid e. go b to paid e (ℕ_discrete q p) (ℕ_discrete b n) }
    where
      go : (b : ℕ) (to : Transition) → (q ≡ p → b < suc n) → t.transition q b ≡ Some to → Dec (q ≡ p) → Dec (b ≡ n) → Covered a m to.state (shift a y (a.charge to.coins))
      go b to paid e (no d) f = old.offered b to (λ g. absurd (d g)) e
      go b to paid e (yes g) (no f) = old.offered b to (λ _. let c = paid g in omega arith) e
      go b to paid e (yes g) (yes f) = subst (λ y. Covered a m to.state (shift a y (a.charge to.coins))) (sym (same g)) (new to (cc (e, g, f)))

  expanding_more : (s action p : ℕ) (x : Label K) (n : ℕ) (m : Memory K) → ((to : Transition) → t.transition p n ≡ Some to → Covered a m to.state (shift a x (a.charge to.coins))) → Expanding s action p x n m → Expanding s action p x (suc n) m
  expanding_more s action p x n m new i = record { invariant = record { ways = i.invariant.ways; entries = i.invariant.entries; settled = settled }; rooted = i.rooted; unchanged = i.unchanged }
    where
      settled : (q : ℕ) (y : Label K) (e : K) → q < t.states → mark m q ≡ Some y → m.waiting q ≡ None → h q ≡ Some e → Settled (Below p (suc n)) m q y
      settled q y e b f w d = settled_more p x n m new q y same (i.invariant.settled q y e b f w d)
        where
          same : q ≡ p → y ≡ x
          same g =
              let here = i.unchanged (subst (λ q. m.waiting q ≡ None) g w) in
              cc (f, here, g)

  module _ (l : CostLaws a) (laws : TaskLaws t) (s action p : ℕ) (x : Label K) (e : K) (estimated : h p ≡ Some e) (way : Way t a s action p x) where
    expanding_offer : (n : ℕ) (m m' : Memory K) (to : Transition) → t.transition p n ≡ Some to → Offered a a.plus h to.state (offer a a.plus x to) m m' → Expanding s action p x n m → Expanding s action p x (suc n) m'
    expanding_offer n m m' to f o i = expanding_more s action p x n m' new (record { invariant = offer_keeps l s action to.state z m m' (laws.step p n to f).into (way_more t a l s action p n x to way f) o (Below p n) i.invariant; rooted = offer_rooted l s action to.state z m m' (laws.step p n to f).into (way_more t a l s action p n x to way f) o i.rooted; unchanged = unchanged (each a a.plus h to.state z m m' o p) })
      where
        z : Label K
        z = offer a a.plus x to

        new : (at : Transition) → t.transition p n ≡ Some at → Covered a m' at.state (shift a x (a.charge at.coins))
        new at g =
            let same : to ≡ at = cc (f, g) in
            subst (λ at. Covered a m' at.state (shift a x (a.charge at.coins))) same (covers a a.plus h to.state z m m' l o)

        unchanged : Each a a.plus h to.state z m m' p → m'.waiting p ≡ None → mark m' p ≡ Some x
        unchanged (as_was k w) g = k ∙ i.unchanged (sym w ∙ g)
        unchanged (took here new) g = cc (g, new.put e estimated)

    -- the whole sweep
    pub expanded : (m m' : Memory K) → Swept t a a.plus h p x m t.actions m' → Expanding s action p x zero m → Invariant s action All m' × Rooted s action m'
    expanded m m' w i = (record { ways = end.invariant.ways; entries = end.invariant.entries; settled = λ q y e b f w d. all q y (end.invariant.settled q y e b f w d) }, end.rooted)
      where
        idle : (n : ℕ) (d : Memory K) → t.transition p n ≡ None → Expanding s action p x n d → Expanding s action p x (suc n) d
        idle n d f i = expanding_more s action p x n d (λ to g. absurd (none_some f g)) i

        end : Expanding s action p x t.actions m'
        end = along_sweep t a a.plus h p x m (Expanding s action p x) i idle expanding_offer t.actions m' w

        all : (q : ℕ) (y : Label K) → Settled (Below p t.actions) m' q y → Settled All m' q y
        all q y s = record { no_goal = s.no_goal; offered = λ b to _ f. s.offered b to (λ _. (laws.step q b to f).by) f }

  -- the state whose entry is removed is the one to expand, if it is no goal
  pub removed : (s action p : ℕ) (r : Record K) (m rest : Memory K) → slice_get m.table p ≡ Some r → r.known ≡ true → t.goal p ≡ false → rest.table ≡ m.table → Changed m.waiting rest.waiting p None → Invariant s action All m → Rooted s action m → Expanding s action p (label r) zero rest
  removed s action p r m rest at isKnown no_goal table change i j = record { invariant = record { ways = λ q y b e. i.ways q y b (sym (marks q) ∙ e); entries = λ q z e. entries q z e (ℕ_discrete q p); settled = λ q y e b f w d. settled q y e b f w d (ℕ_discrete q p) }; rooted = record { root = covered s (record { cost = a.zero; tagged = false }) j.root; branch = λ to e. covered to.state (record { cost = a.charge to.coins; tagged = true }) (j.branch to e) }; unchanged = λ _. marks p ∙ mark_from m p r at isKnown }
    where
      marks : (q : ℕ) → mark rest q ≡ mark m q
      marks q = ap (λ z. known (slice_get z q)) table

      covered : (q : ℕ) (x : Label K) → Covered a m q x → Covered a rest q x
      covered q x c = record { label = c.label; is = marks q ∙ c.is; not_after = c.not_after }

      entries : (q : ℕ) (z : Label K) → rest.waiting q ≡ Some z → Dec (q ≡ p) → Entered rest q z
      entries q z e (yes f) = absurd (none_some (ap rest.waiting f ∙ change.here) e)
      entries q z e (no d) =
          let f = i.entries q z (sym (change.others q d) ∙ e) in
          record { within = f.within; label = f.label; is = marks q ∙ f.is; estimate = f.estimate; estimated = f.estimated; front = f.front }

      settled : (q : ℕ) (y : Label K) (e : K) → q < t.states → mark rest q ≡ Some y → rest.waiting q ≡ None → h q ≡ Some e → Dec (q ≡ p) → Settled (Below p zero) rest q y
      settled q y e b f w d (yes g) = record { no_goal = ap t.goal g ∙ no_goal; offered = λ c to paid _. absurd (let k = paid g in omega arith) }
      settled q y e b f w d (no g) =
          let old = i.settled q y e b (sym (marks q) ∙ f) (sym (change.others q g) ∙ w) d in
          record { no_goal = old.no_goal; offered = λ c to _ k. covered to.state (shift a y (a.charge to.coins)) (old.offered c to tt k) }

  empty_invariant : (s action : ℕ) (old : List (Record K)) (m : Memory K) → Cleared t a old m → Invariant s action All m
  empty_invariant s action old m c = record { ways = λ p y b e. absurd (none_some (blank_marks t a old m c p b) e); entries = λ p z e. absurd (none_some (c.waiting p) e); settled = λ p y e b f _ _. absurd (none_some (blank_marks t a old m c p b) f) }

  module _ (l : CostLaws a) (laws : TaskLaws t) (s action limit : ℕ) (table : List (Record K)) (c : Configuration K) (o : Started t a a.plus h s action limit table c) where
    root_way : Way t a s action s (record { cost = a.zero; tagged = false })
    root_way = record { actions = []; path = stay; begins = λ e. grind arith }

    branch_way : Way t a s action o.to.state (record { cost = a.charge o.to.coins; tagged = true })
    branch_way = record { actions = action ∷ []; path = subst (Path t a s (action ∷ []) o.to.state) (l.zero_right _) (step o.to o.startable.leads stay); begins = λ _. ([], refl) }

    pub started_invariant : Invariant s action All c.memory
    started_invariant =
        let at = laws.step s action o.to o.startable.leads in
        let mid = offer_keeps l s action s _ o.empty o.between at.from root_way o.untagged All (empty_invariant s action table o.empty o.is_empty) in
        offer_keeps l s action o.to.state _ o.between c.memory at.into branch_way o.tagged All mid

    pub started_rooted : Rooted s action c.memory
    started_rooted = record { root = covered_keeps a a.plus h o.to.state _ o.between c.memory l o.tagged s (record { cost = a.zero; tagged = false }) (covers a a.plus h s _ o.empty o.between l o.untagged); branch = branch }
      where
        branch : (to : Transition) → t.transition s action ≡ Some to → Covered a c.memory to.state (record { cost = a.charge to.coins; tagged = true })
        branch to e =
            let same : o.to ≡ to = cc (e, o.startable.leads) in
            subst (λ to. Covered a c.memory to.state (record { cost = a.charge to.coins; tagged = true })) same (covers a a.plus h o.to.state _ o.between c.memory l o.tagged)
