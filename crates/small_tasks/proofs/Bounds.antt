-- Costs to go, given as a table and checked by computation, bound the cost of every solution.
use Rattle.std.proofs.Common.{◌≡◌, ℕ, zero, suc, ◌^◌, ◌<◌, Bool, true, false, cond, not, ◌&&◌, ltb, List, [], ◌∷◌, Some, None, Option, sym, refl, ap, ◌∙◌, subst, arith}
use Rattle.std.specs.List.{slice_get}
use Rattle.std.proofs.lemmas.Bool.{and_parts, ltb-true}
use Rattle.planning.specs.declared.task.Transition.{Transition}
use Rattle.planning.specs.Costs.{Algebra, CostLaws}
use Rattle.planning.specs.Estimates.{Estimates, AtMost, Admissible, Consistent}
use Rattle.planning.specs.Paths.{Path, step, Solution, Cheapest}
use Rattle.planning.specs.Task.{Model}
use Rattle.planning.proofs.Admissibility.{consistent_admissible}
use Rattle.small_tasks.specs.Tasks.{Priced, led, task}
use Rattle.small_tasks.specs.Verdicts.{Suboptimal}

-- a cost to go, or none from where no goal can be reached
abbrev pub listed : {C : Type 0} → Option (Option C) → Option C
listed None = None
listed (Some cost) = cost

abbrev all : ℕ → (ℕ → Bool) → Bool
all zero f = true
all (suc n) f = all n f && f n

all_below : (n : ℕ) (f : ℕ → Bool) → all n f ≡ true → (i : ℕ) → i < n → f i ≡ true
all_below zero f e i b = absurd (omega arith)
all_below (suc n) f e i b =
    let parts = and_parts (all n f) (f n) e in
    let below = all_below n f parts.0 i in
    grind arith

abbrev each : {X : Type 0} → List X → (X → Bool) → Bool
each [] f = true
each (x ∷ xs) f = f x && each xs f

each_nth : {X : Type 0} (xs : List X) (f : X → Bool) → each xs f ≡ true → (i : ℕ) (x : X) → slice_get xs i ≡ Some x → f x ≡ true
each_nth [] f e i x at = absurd (let z : ◌≡◌ {A = ℕ} 0 1 = cc in omega arith)
each_nth (y ∷ ys) f e zero x at = let same : y ≡ x = cc in subst (λ z. f z ≡ true) same (and_parts (f y) (each ys f) e).0
each_nth (y ∷ ys) f e (suc i) x at = each_nth ys f (and_parts (f y) (each ys f) e).1 i x at

module _ {C : Type 0} (a : Algebra C) where
  -- a state's cost to go is not after the charge and the cost to go of where it leads
  abbrev falls : Option C → Option C → ℕ → Bool
  falls here None coins = true
  falls None (Some y) coins = false
  falls (Some x) (Some y) coins = not (a.before (a.plus (a.charge coins) y) x)

  abbrev keeps : Estimates C → ℕ → Option Transition → Bool
  keeps h p None = true
  keeps h p (Some to) = falls (h p) (h to.state) to.coins

  -- a goal has nothing to go
  abbrev ends : Bool → Option C → Bool
  ends false x = true
  ends true None = false
  ends true (Some x) = not (a.before a.zero x)

  not_true : (b : Bool) → not b ≡ true → b ≡ false
  not_true true e = cc
  not_true false e = refl

  falls_to : (p : Option C) (y : C) (coins : ℕ) → falls p (Some y) coins ≡ true → (x : C) × (p ≡ Some x) × (a.before (a.plus (a.charge coins) y) x ≡ false)
  falls_to None y coins e = absurd (let z : ◌≡◌ {A = ℕ} 0 1 = cc in omega arith)
  falls_to (Some x) y coins e = (x, refl, not_true _ e)

  ends_at : CostLaws a → (g : Bool) (p : Option C) → ends g p ≡ true → g ≡ true → p ≡ Some a.zero
  ends_at laws false p e f = absurd (let z : ◌≡◌ {A = ℕ} 0 1 = cc in omega arith)
  ends_at laws true None e f = absurd (let z : ◌≡◌ {A = ℕ} 0 1 = cc in omega arith)
  ends_at laws true (Some x) e f = ap Some (laws.total x a.zero (laws.zero_first x) (not_true _ e))

module _ {C : Type 0} (a : Algebra C) (laws : CostLaws a) (facts goal : ℕ) (rows : List Priced) (h : Estimates C) where
  abbrev t : Model
  t = task facts goal rows

  -- computed
  abbrev pub checked : Bool
  checked = all (2 ^ facts) (λ p. each rows (λ x. keeps a h p (led facts p (Some x))) && ends a (t.goal p) (h p))

  here : checked ≡ true → (p : ℕ) → ltb p (2 ^ facts) ≡ true → (each rows (λ x. keeps a h p (led facts p (Some x))) ≡ true) × (ends a (t.goal p) (h p) ≡ true)
  here e p b = and_parts _ _ (all_below (2 ^ facts) _ e p (ltb-true p (2 ^ facts) b))

  consistent : checked ≡ true → Consistent t a h
  consistent e p action to leads y there = go (ltb p (2 ^ facts)) refl (slice_get rows action) refl leads
    where
      go : (b : Bool) → ltb p (2 ^ facts) ≡ b → (o : Option Priced) → slice_get rows action ≡ o → cond b (led facts p o) None ≡ Some to → AtMost a h p (a.plus (a.charge to.coins) y)
      go false _ o _ f = absurd (let z : ◌≡◌ {A = ℕ} 0 1 = cc in omega arith)
      go true _ None _ f = absurd (let z : ◌≡◌ {A = ℕ} 0 1 = cc in omega arith)
      go true low (Some x) at f =
          let kept = each_nth rows (λ x. keeps a h p (led facts p (Some x))) (here e p low).0 action x at in
          let one : falls a (h p) (h to.state) to.coins ≡ true = ap (keeps a h p) (sym f) ∙ kept in
          falls_to a (h p) y to.coins (ap (λ o. falls a (h p) o to.coins) (sym there) ∙ one)

  -- a table that passes is a lower bound for every solution
  pub bounds : checked ≡ true → Admissible t a h
  bounds e = consistent_admissible t a laws h (λ p g. ends_at a laws (t.goal p) (h p) (here e p (inside p g)).1 g) (consistent e)
    where
      inside : (p : ℕ) → t.goal p ≡ true → ltb p (2 ^ facts) ≡ true
      inside p g = (and_parts (ltb p (2 ^ facts)) _ g).0

module _ {C : Type 0} {t : Model} {a : Algebra C} {h : Estimates C} where
  -- a solution that attains the bound is cheapest
  pub attained : Admissible t a h → (p : ℕ) (actions : List ℕ) (k : C) → h p ≡ Some k → Solution t a p actions k → Cheapest t a p actions k
  attained bound p actions k e s = record { solution = s; least = λ others j o. let m = bound p others j o in let same : m.0 ≡ k = cc (m.1, e) in subst (λ x. a.before j x ≡ false) same m.2 }

  -- an action after which every solution costs more than some solution without it
  pub beaten : CostLaws a → Admissible t a h → (p action : ℕ) (actions : List ℕ) (k : C) → Solution t a p actions k → (to : Transition) → t.transition p action ≡ Some to → (y : C) → h to.state ≡ Some y → a.before k (a.plus (a.charge to.coins) y) ≡ true → Suboptimal t a p action
  beaten laws bound p action actions k s to leads y there more = ((actions, k, s), λ o. go o.1 o.2.solution.end o.2.solution.goal o.2.solution.path (o.2.least actions k s))
    where
      go : {rest : List ℕ} (j : C) (q : ℕ) → t.goal q ≡ true → Path t a p (action ∷ rest) q j → a.before k j ≡ false → ⊥
      go {rest = rest} j q g (step {k = i} at e path) no_less =
          let m = bound at.state rest i (record { end = q; path = path; goal = g }) in
          let same : at ≡ to = cc (e, leads) in
          let same-y : m.0 ≡ y = cc (m.1, there, same) in
          let z = a.charge at.coins in
          let far : a.before (a.plus z i) (a.plus z y) ≡ false = laws.isotone_front y i z (subst (λ x. a.before i x ≡ false) same-y m.2) in
          let near : a.before k (a.plus z y) ≡ true = subst (λ (u : Transition). a.before k (a.plus (a.charge u.coins) y) ≡ true) (sym same) more in
          grind (arith, laws.transitive, laws.total)
