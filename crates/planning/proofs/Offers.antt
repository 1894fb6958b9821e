-- What an offer does, state by state: each state is as it was, or is the one that took the offer.
use Rattle.std.proofs.Common.{◌≡◌, ℕ, zero, suc, ◌<◌, Bool, true, false, cond, List, [], ◌∷◌, ◌++◌, set, replicate, Some, None, Option, sym, refl, ap, ◌∙◌, subst, le_of_suc-le-suc, not-suc-le-zero, arith}
use native.Mathlib.Decide.{ℕ_discrete}
use Rattle.std.specs.List.{slice_get}
use Rattle.planning.specs.declared.cost.Record.{Record}
use Rattle.planning.specs.declared.task.Transition.{Transition}
use Rattle.planning.specs.Costs.{Algebra, CostLaws}
use Rattle.planning.specs.Estimates.{Estimates}
use Rattle.planning.specs.Labels.{Label, earlier}
use Rattle.planning.specs.Search.{Memory, Same, label, takes, Recorded, Offered, offer, Swept, none, more}
use Rattle.planning.specs.Task.{Model}
use Rattle.planning.proofs.Labels.{NotAfter, not_after_self, not_after_trans, earlier_not_after}

pub none_some : {X : Type 0} {x : Option X} {y : X} → x ≡ None → x ≡ Some y → ⊥
none_some e f = grind arith

nth_set_same : {X : Type 0} (xs : List X) (q : ℕ) (r y : X) → slice_get xs q ≡ Some r → slice_get (set xs q y) q ≡ Some y
nth_set_same [] q r y e = cc
nth_set_same (x ∷ xs) zero r y e = refl
nth_set_same (x ∷ xs) (suc q) r y e = nth_set_same xs q r y e

nth_set_other : {X : Type 0} (xs : List X) (q p : ℕ) (y : X) → (p ≡ q → ⊥) → slice_get (set xs q y) p ≡ slice_get xs p
nth_set_other [] q p y d = refl
nth_set_other (x ∷ xs) zero zero y d = absurd (d refl)
nth_set_other (x ∷ xs) zero (suc p) y d = refl
nth_set_other (x ∷ xs) (suc q) zero y d = refl
nth_set_other (x ∷ xs) (suc q) (suc p) y d = nth_set_other xs q p y (λ e. d (ap suc e))

pub nth_replicate : {X : Type 0} (n p : ℕ) (x : X) (ys : List X) → p < n → slice_get (replicate n x ++ ys) p ≡ Some x
nth_replicate zero p x ys h = absurd (not-suc-le-zero h)
nth_replicate (suc n) zero x ys h = refl
nth_replicate (suc n) (suc p) x ys h = nth_replicate n p x ys (le_of_suc-le-suc h)

abbrev pub known : {K : Type 0} → Option (Record K) → Option (Label K)
known None = None
known (Some r) = cond r.known (Some (label r)) None

-- the label that is known of a state
abbrev pub mark : {K : Type 0} → Memory K → ℕ → Option (Label K)
mark m p = known (slice_get m.table p)

pub mark_from : {K : Type 0} (m : Memory K) (p : ℕ) (r : Record K) → slice_get m.table p ≡ Some r → r.known ≡ true → mark m p ≡ Some (label r)
mark_from m p r e k = ap known e ∙ ap (λ b. cond b (Some (label r)) None) k

pub same_memory : {K : Type 0} (m m' : Memory K) → Same m m' → m' ≡ m
same_memory m m' s = λ i. record { table = s.table i; waiting = λ p. s.waiting p i }

-- q is known, with a label that is not after x
pub record Covered {K : Type 0} (a : Algebra K) (m : Memory K) (q : ℕ) (x : Label K) : Type 0 where
  pub label : Label K
  pub is : mark m q ≡ Some label
  pub not_after : NotAfter a label x

-- p took the offer of x
pub record Took {K : Type 0} (a : Algebra K) (sum : K → K → K) (h : Estimates K) (x : Label K) (m m' : Memory K) (p : ℕ) : Type 0 where
  pub mark : mark m' p ≡ Some x
  pub earlier : (y : Label K) → Rattle.planning.proofs.Offers.mark m p ≡ Some y → earlier a x y ≡ true
  pub dead_end : h p ≡ None → m'.waiting p ≡ m.waiting p
  pub put : (e : K) → h p ≡ Some e → m'.waiting p ≡ Some (record { cost = sum x.cost e; tagged = x.tagged })

-- p is as it was, or it took the offer that was made to q
pub data Each {K : Type 0} (a : Algebra K) (sum : K → K → K) (h : Estimates K) (q : ℕ) (x : Label K) (m m' : Memory K) (p : ℕ) : Type 0 where
  as_was : mark m' p ≡ mark m p → m'.waiting p ≡ m.waiting p → Each a sum h q x m m' p
  took : p ≡ q → Took a sum h x m m' p → Each a sum h q x m m' p

module _ {K : Type 0} (a : Algebra K) (sum : K → K → K) (h : Estimates K) (q : ℕ) (x : Label K) (m m' : Memory K) where
  known_takes : (r : Record K) (y : Label K) → takes a r x ≡ true → known (Some r) ≡ Some y → earlier a x y ≡ true
  known_takes r y e k = grind arith

  known_passes : (r : Record K) → takes a r x ≡ false → r.known ≡ true
  known_passes r e = grind arith

  known_not_after : (r : Record K) → takes a r x ≡ false → earlier a x (label r) ≡ false
  known_not_after r e = grind arith

  recorded_here : (r : Record K) → slice_get m.table q ≡ Some r → takes a r x ≡ true → Recorded sum h q x m m' → Took a sum h x m m' q
  recorded_here r e t o = record { mark = ap (λ z. known (slice_get z q)) o.table ∙ ap known (nth_set_same m.table q r _ e); earlier = λ y k. known_takes r y t (sym (ap known e) ∙ k); dead_end = λ d. o.dead_end d q; put = λ e d. (o.put e d).here }

  recorded_other : (p : ℕ) → (p ≡ q → ⊥) → Recorded sum h q x m m' → (w : Option K) → h q ≡ w → Each a sum h q x m m' p
  recorded_other p d o None e = as_was (ap (λ z. known (slice_get z p)) o.table ∙ ap known (nth_set_other m.table q p _ d)) (o.dead_end e p)
  recorded_other p d o (Some w) e = as_was (ap (λ z. known (slice_get z p)) o.table ∙ ap known (nth_set_other m.table q p _ d)) ((o.put w e).others p d)

  each_taken : (o : Offered a sum h q x m m') (p : ℕ) → takes a o.found x ≡ true → Dec (p ≡ q) → Each a sum h q x m m' p
  each_taken o p t (yes e) = took e (subst (Took a sum h x m m') (sym e) (recorded_here o.found o.at t (o.taken t)))
  each_taken o p t (no d) = recorded_other p d (o.taken t) (h q) refl

  pub each : Offered a sum h q x m m' → (p : ℕ) → Each a sum h q x m m' p
  each o p = go (takes a o.found x) refl
    where
      go : (b : Bool) → takes a o.found x ≡ b → Each a sum h q x m m' p
      go true t = each_taken o p t (ℕ_discrete p q)
      go false t = as_was (ap (λ z. known (slice_get z p)) (o.passed t).table) ((o.passed t).waiting p)

  module _ (l : CostLaws a) where
    pub covers : Offered a sum h q x m m' → Covered a m' q x
    covers o = go (takes a o.found x) refl
      where
        go : (b : Bool) → takes a o.found x ≡ b → Covered a m' q x
        go true t = record { label = x; is = (recorded_here o.found o.at t (o.taken t)).mark; not_after = not_after_self a l x }
        go false t = record { label = label o.found; is = ap (λ z. known (slice_get z q)) (o.passed t).table ∙ mark_from m q o.found o.at (known_passes o.found t); not_after = known_not_after o.found t }

    improves : (p : ℕ) (y : Label K) → Each a sum h q x m m' p → mark m p ≡ Some y → Covered a m' p y
    improves p y (as_was k w) e = record { label = y; is = k ∙ e; not_after = not_after_self a l y }
    improves p y (took s o) e = record { label = x; is = o.mark; not_after = earlier_not_after a l x y (o.earlier y e) }

    pub covered_keeps : Offered a sum h q x m m' → (p : ℕ) (y : Label K) → Covered a m p y → Covered a m' p y
    covered_keeps o p y c =
        let better = improves p c.label (each o p) c.is in
        record { label = better.label; is = better.is; not_after = not_after_trans a l better.label c.label y better.not_after c.not_after }

-- what each attempt of a sweep keeps, the sweep keeps
module _ {K : Type 0} (t : Model) (a : Algebra K) (sum : K → K → K) (h : Estimates K) (p : ℕ) (y : Label K) (m : Memory K) (I : ℕ → Memory K → Type 0) where
  pub along_sweep : I zero m → ((n : ℕ) (d : Memory K) → t.transition p n ≡ None → I n d → I (suc n) d) → ((n : ℕ) (d e : Memory K) (to : Transition) → t.transition p n ≡ Some to → Offered a sum h to.state (offer a sum y to) d e → I n d → I (suc n) e) → (n : ℕ) (m' : Memory K) → Swept t a sum h p y m n m' → I n m'
  along_sweep base idle step zero m' none = base
  along_sweep base idle step (suc n) m' (more {m' = d} w o) = go (t.transition p n) refl (along_sweep base idle step n d w)
    where
      go : (to : Option Transition) → t.transition p n ≡ to → I n d → I (suc n) m'
      go None e i = idle n m' e (subst (I n) (sym (same_memory d m' (o.inapplicable e))) i)
      go (Some to) e i = step n d m' to e (o.applicable to e) i
