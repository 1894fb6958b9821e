-- What every history keeps: a marking with its own things is where a start and its turns lead, by exact sums.
use Rattle.std.proofs.Common.{◌≡◌, ℕ, ◌+◌, ◌≤◌, sym, refl, ◌∙◌, subst, add-zero, add-suc, arith}
use Rattle.planning.specs.declared.status.Status.TheVariants.{Open}
use Rattle.planning.specs.Costs.{Algebra, CostLaws}
use Rattle.planning.specs.Estimates.{Estimates, Bounded}
use Rattle.planning.specs.Histories.{Owned, Holding, never, strayed, own, configuration, granting, History, fresh, refused, looked, started, advanced, stopped, strays}
use Rattle.planning.specs.Search.{Numbers, Configuration, Runs, still, turn}
use Rattle.planning.specs.Task.{Model, TaskLaws}
use Rattle.planning.specs.Theorem.{Reached, Unstarted}
use Rattle.planning.proofs.Exact.{Kept, runs_exact, started_exact, started_kept}

module _ {K : Type 0} (t : Model) (a : Algebra K) (sum : K → K → K) (h : Estimates K) where
  pub runs_turns : (c : Configuration K) (k : ℕ) (e : Configuration K) → Runs t a sum h c k e → e.numbers.turns ≡ c.numbers.turns + k
  runs_turns c k e still = omega arith
  runs_turns c k e (turn {k = j} {d = d} runs _ o) =
      let before = runs_turns c j d runs in
      omega (arith, before, o.counted.turns)

  pub runs_limit : (c : Configuration K) (k : ℕ) (e : Configuration K) → Runs t a sum h c k e → e.numbers.limit ≡ c.numbers.limit
  runs_limit c k e still = refl
  runs_limit c k e (turn {k = j} {d = d} runs _ o) = o.counted.limit ∙ runs_limit c j d runs

  -- who ends open was open before
  pub runs_open : (c : Configuration K) (k : ℕ) (e : Configuration K) → Runs t a sum h c k e → e.numbers.status ≡ Open → c.numbers.status ≡ Open
  runs_open c k e still f = f
  runs_open c k e (turn {k = j} {d = d} runs g _) f = runs_open c j d runs g

  pub runs_append : (c : Configuration K) (j : ℕ) (d : Configuration K) (k : ℕ) (e : Configuration K) → Runs t a sum h c j d → Runs t a sum h d k e → Runs t a sum h c (j + k) e
  runs_append c j d k e before still = subst (λ n. Runs t a sum h c n e) (sym (add-zero j)) before
  runs_append c j d k e before (turn {k = i} {d = f} runs g o) = subst (λ n. Runs t a sum h c n e) (sym (add-suc j i)) (turn (runs_append c j d i f before runs) g o)

module _ {K : Type 0} (a : Algebra K) (l : CostLaws a) where
  pub record Held (n : Numbers) (o : Owned K) (laws : TaskLaws o.task) (bounded : Bounded a o.estimates) : Type 0 where
    pub reached : Reached a n o
    pub kept : Kept o.task a o.estimates l laws bounded (configuration n o)
    pub limit : n.limit ≡ o.limit
    pub granted : n.status ≡ Open → o.granted ≤ n.turns

  abbrev pub Holds : Numbers → Holding K → Type 0
  Holds n never = Unstarted n
  Holds n strayed = Unit {0}
  Holds n (own o) = (laws : TaskLaws o.task) (bounded : Bounded a o.estimates) → Held n o laws bounded

  -- turns of an own marking, and what was granted for them
  held_runs : (n : Numbers) (o : Owned K) (laws : TaskLaws o.task) (bounded : Bounded a o.estimates) → Held n o laws bounded → (k : ℕ) (c : Configuration K) → Runs o.task a a.computed o.estimates (configuration n o) k c → (budget : ℕ) → (c.numbers.status ≡ Open → budget ≤ k) → Held c.numbers (granting o budget c.memory) laws bounded
  held_runs n o laws bounded held k c runs budget used =
      let count = runs_turns o.task a a.computed o.estimates (configuration n o) k c runs in
      let exact = runs_exact o.task a o.estimates l laws bounded (configuration n o) held.kept k c runs in
      let whole = runs_append o.task a a.plus o.estimates held.reached.first n.turns (configuration n o) k c held.reached.runs exact.0 in
      record { reached = record { table = held.reached.table; first = held.reached.first; started = held.reached.started; runs = subst (λ n. Runs o.task a a.plus o.estimates held.reached.first n c) (sym count) whole }; kept = exact.1; limit = runs_limit o.task a a.computed o.estimates (configuration n o) k c runs ∙ held.limit; granted = λ f. let before = held.granted (runs_open o.task a a.computed o.estimates (configuration n o) k c runs f) in let all = used f in omega arith }

  pub holds : (n : Numbers) (had : Holding K) → History a n had → Holds n had
  holds n had fresh = record { status = refl; turns = refl }
  holds n had (refused past) = holds n had past
  holds n had (looked past) = holds n had past
  holds n had (started {t = t} {h = h} {state = s} {action = action} {limit = limit} {table = table} {c = c} past o) = λ laws bounded. record { reached = record { table = table; first = c; started = started_exact t a h l laws bounded s action limit table c o; runs = subst (λ n. Runs t a a.plus h c n c) (sym o.turns) still }; kept = started_kept t a h l laws bounded s action limit table c o; limit = o.limit_kept; granted = λ _. omega arith }
  holds n had (advanced {n = before} {o = o} {budget = budget} {c = c} past d) = λ laws bounded. held_runs before o laws bounded (holds before (own o) past laws bounded) d.made c d.runs budget (λ f. let all = d.all f in omega arith)
  holds n had (stopped {n = before} {o = o} {c = c} past d) = λ laws bounded. held_runs before o laws bounded (holds before (own o) past laws bounded) d.made c d.runs 0 (λ _. omega arith)
  holds n had (strays past _) = tt
