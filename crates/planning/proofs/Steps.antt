-- Ways to show the relations of the search from what code has done.
use Rattle.std.proofs.Common.{◌≡◌, ℕ, zero, suc, ◌+◌, ◌<◌, ◌≤◌, true, false, List, [], ◌∷◌, length, set, Some, None, Option, refl, ap, subst, add-one, arith}
use Rattle.std.specs.List.{slice_get}
use Rattle.planning.specs.declared.cost.Record.{Record}
use Rattle.planning.specs.declared.open_list.Entry.{Entry}
use Rattle.planning.specs.declared.status.Status.TheVariants.{Open}
use Rattle.planning.specs.declared.task.Transition.{Transition}
use Rattle.planning.specs.Costs.{Algebra}
use Rattle.planning.specs.Estimates.{Estimates}
use Rattle.planning.specs.Labels.{Label}
use Rattle.planning.specs.Lists.{Waiting, Changed, Put, Least, Taken}
use Rattle.planning.specs.Search.{Memory, Configuration, blank, cleared, takes, Offered, offer, Swept, more, Turn, Runs, turn}
use Rattle.planning.specs.Task.{Model}

-- the record that a taken offer leaves
abbrev pub recorded : {K : Type 0} → Label K → Record K
recorded x = record { cost = x.cost; tagged = x.tagged; known = true }

module _ {K : Type 0} (a : Algebra K) (sum : K → K → K) (h : Estimates K) (q : ℕ) (x : Label K) (xs : List (Record K)) (w : Waiting K) (found : Record K) (at : slice_get xs q ≡ Some found) where
  pub offer_passed : takes a found x ≡ false → Offered a sum h q x (record { table = xs; waiting = w }) (record { table = xs; waiting = w })
  offer_passed e = record { found = found; at = at; taken = λ f. absurd (grind arith); passed = λ _. record { table = refl; waiting = λ _. refl } }

  pub offer_dead_end : takes a found x ≡ true → h q ≡ None → Offered a sum h q x (record { table = xs; waiting = w }) (record { table = set xs q (recorded x); waiting = w })
  offer_dead_end e d = record { found = found; at = at; taken = λ _. record { table = refl; dead_end = λ _ _. refl; put = λ e f. absurd (grind arith) }; passed = λ f. absurd (grind arith) }

  pub offer_put : (w' : Waiting K) (e : K) → takes a found x ≡ true → h q ≡ Some e → Put w w' q (sum x.cost e) x.tagged → Offered a sum h q x (record { table = xs; waiting = w }) (record { table = set xs q (recorded x); waiting = w' })
  offer_put w' e f d p = record { found = found; at = at; taken = λ _. record { table = refl; dead_end = λ g. absurd (grind arith); put = λ k g. subst (λ k. Put w w' q (sum x.cost k) x.tagged) (same k g) p }; passed = λ g. absurd (grind arith) }
    where
      same : (k : K) → h q ≡ Some k → e ≡ k
      same k g = cc (d, g)

module _ {K : Type 0} {t : Model} {a : Algebra K} {sum : K → K → K} {h : Estimates K} {p : ℕ} {y : Label K} {m : Memory K} {n : ℕ} {d : Memory K} where
  -- an action that is not applicable
  pub swept_idle : Swept t a sum h p y m n d → t.transition p n ≡ None → Swept t a sum h p y m (n + 1) d
  swept_idle w e = rw add-one (more w (record { inapplicable = λ _. record { table = refl; waiting = λ _. refl }; applicable = λ to f. absurd (grind arith) }))

  pub swept_offer : {d' : Memory K} (to : Transition) (x : Label K) → Swept t a sum h p y m n d → t.transition p n ≡ Some to → x ≡ offer a sum y to → Offered a sum h to.state x d d' → Swept t a sum h p y m (n + 1) d'
  swept_offer {d' = d'} to x w e f o = rw add-one (more w (record { inapplicable = λ g. absurd (grind arith); applicable = λ at g. subst (λ at. Offered a sum h at.state (offer a sum y at) d d') (same at g) (subst (λ x. Offered a sum h to.state x d d') f o) }))
    where
      same : (at : Transition) → t.transition p n ≡ Some at → to ≡ at
      same at g = cc (e, g)

  pub swept_to : {k : ℕ} → n ≡ k → Swept t a sum h p y m n d → Swept t a sum h p y m k d
  swept_to e w = subst (λ n. Swept t a sum h p y m n d) e w

module _ {K : Type 0} {t : Model} {a : Algebra K} {sum : K → K → K} {h : Estimates K} {c : Configuration K} {k : ℕ} {d : Configuration K} where
  pub runs_more : {e : Configuration K} → Runs t a sum h c k d → d.numbers.status ≡ Open → Turn t a sum h d e → Runs t a sum h c (k + 1) e
  runs_more runs f o = rw add-one (turn runs f o)

  pub runs_to : {j : ℕ} → k ≡ j → Runs t a sum h c k d → Runs t a sum h c j d
  runs_to e runs = subst (λ n. Runs t a sum h c n d) e runs

module _ {K : Type 0} (a : Algebra K) where
  cleared_suc : (i : ℕ) (xs : List (Record K)) → i < length xs → set (cleared a i xs) i (blank a) ≡ cleared a (suc i) xs
  cleared_suc i [] b = absurd (omega arith)
  cleared_suc zero (x ∷ xs) b = refl
  cleared_suc (suc i) (x ∷ xs) b = ap {B = List (Record K)} (λ z. blank a ∷ z) (cleared_suc i xs (omega arith))

  -- one more record made blank
  pub cleared_more : (i : ℕ) (xs : List (Record K)) → i < length xs → set (cleared a i xs) i (blank a) ≡ cleared a (i + 1) xs
  cleared_more i xs b = rw add-one (cleared_suc i xs b)

  pub length-cleared : (i : ℕ) (xs : List (Record K)) → i ≤ length xs → length (cleared a i xs) ≡ length xs
  length-cleared zero xs b = refl
  length-cleared (suc i) [] b = absurd (omega arith)
  length-cleared (suc i) (x ∷ xs) b = ap suc (length-cleared i xs (omega arith))

-- what is taken is what was seen to be least
pub taken_least : {K : Type 0} (a : Algebra K) (w w' : Waiting K) (next : Option ℕ) (e : Entry K) (r : Option (Entry K)) → Least a w next (Some e) → Least a w next r → Taken w w' r → Changed w w' e.state None
taken_least a w w' next e None l k t = absurd (let z : ◌≡◌ {A = ℕ} 0 1 = cc (l.1, k.1) in omega arith)
taken_least a w w' next e (Some f) l k t = let same : f.state ≡ e.state = cc (l.1, k.1) in subst (λ p. Changed w w' p None) same t
