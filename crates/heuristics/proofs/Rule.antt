-- The rule of a table, from its numbers and back, under coins and under every cost that counts coins.
use Rattle.std.proofs.Common.{◌≡◌, ℕ, ◌<◌, Bool, List, get_or, Some, Decides, arith}
use Rattle.std.proofs.lemmas.Bool.Decides.{nat_tests}
use Rattle.planning.proofs.Admissibility.{consistent_admissible}
use Rattle.planning.specs.Costs.{Algebra, CostLaws}
use Rattle.planning.specs.Estimates.{ConsistentAt, Consistent}
use Rattle.planning.specs.Task.{Model, TaskLaws}
use Rattle.planning.specs.declared.task.Transition.{Transition}
use Rattle.costs.specs.Laws.{coins_counted_lem}
use Rattle.costs.specs.Coins.{coins_algebra}
use Rattle.costs.specs.Counted.{CountedLaws, coins_counted}
use Rattle.heuristics.specs.Checks.{ActionKept, FallsAtMost, StateKept, Kept, Trusted}
use Rattle.heuristics.specs.Tables.{meant, tabled}

meant_below : {K : Type 0} (count : ℕ → K) (n : ℕ) → n < 4294967295 → meant count n ≡ Some (count n)
meant_below count n small = grind (arith, nat_tests)

below_from_meant : {K : Type 0} (count : ℕ → K) (n : ℕ) (x : K) → meant count n ≡ Some x → n < 4294967295
below_from_meant count n x e = grind (arith, nat_tests)

-- the estimates fall by no more than the charge where the numbers do
pub consistent_from_falls : {K : Type 0} (a : Algebra K) (count : ℕ → K) → CountedLaws a count → (t : Model) (numbers : List ℕ) (p action : ℕ) (to : Transition) → t.transition p action ≡ Some to → FallsAtMost (get_or numbers p 0) to.coins (get_or numbers to.state 0) → ConsistentAt t a (tabled count numbers) p action
consistent_from_falls {K} a count laws t numbers p action to e falls to' e' y f =
    let same : to' ≡ to = cc in
    let m = get_or numbers to.state 0 in
    let n = get_or numbers p 0 in
    let there : meant count m ≡ Some y = rw same at f in
    let small = below_from_meant count m y there in
    let value = meant_below count m small in
    let kept = laws.charged to.coins m n (falls small).1 in
    (count n, meant_below count n (falls small).0, cc)

pub falls_from_kept : (t : Model) (numbers : List ℕ) (p action : ℕ) (to : Transition) → t.transition p action ≡ Some to → ActionKept t numbers p action → FallsAtMost (get_or numbers p 0) to.coins (get_or numbers to.state 0)
falls_from_kept t numbers p action to e h small =
    let (x, ex, px) = h to e (record { amount = get_or numbers to.state 0 }) (grind (arith, nat_tests)) in grind (arith, nat_tests)

-- no action from the number of actions on is applicable
pub actions_kept : (t : Model) → TaskLaws t → (numbers : List ℕ) (p : ℕ) → ((b : ℕ) → b < t.actions → ActionKept t numbers p b) → (b : ℕ) → ActionKept t numbers p b
actions_kept t laws numbers p below b to e = below b (laws.step p b to e).by to e

-- no state from the number of states on is a goal or has an applicable action
pub states_kept : (t : Model) → TaskLaws t → (numbers : List ℕ) → ((q : ℕ) → q < t.states → StateKept t numbers q) → Kept t numbers
states_kept t laws numbers below p =
    record {
      goal = λ e. (below p (laws.goal p e)).goal e;
      actions = λ action to e. (below p (laws.step p action to e).from).actions action to e;
    }

kept_consistent : {K : Type 0} (a : Algebra K) (count : ℕ → K) → CountedLaws a count → (t : Model) (numbers : List ℕ) → Kept t numbers → Consistent t a (tabled count numbers)
kept_consistent a count laws t numbers kept p action to e =
    consistent_from_falls a count laws t numbers p action to e
    (falls_from_kept t numbers p action to e ((kept p).actions action)) to e

-- a table that keeps the rule is admissible and consistent under every cost that counts coins
pub kept_trusted : {K : Type 0} (a : Algebra K) → CostLaws a → (count : ℕ → K) → CountedLaws a count → (t : Model) (numbers : List ℕ) → Kept t numbers → Trusted t a (tabled count numbers)
kept_trusted a laws count counted t numbers kept =
    let consistent = kept_consistent a count counted t numbers kept in
    record {
      admissible = consistent_admissible t a laws (tabled count numbers)
          (λ p goal. let zero = (kept p).goal goal in let none = counted.none in grind (arith, nat_tests))
          consistent;
      consistent = consistent;
    }

pub keeps_decides : (t : Model) (numbers : List ℕ) (p action : ℕ) (to : Transition) (here there : ℕ) (r : Bool) → t.transition p action ≡ Some to → here ≡ get_or numbers p 0 → there ≡ get_or numbers to.state 0 → Decides r (FallsAtMost here to.coins there) → Decides r (ActionKept t numbers p action)
keeps_decides t numbers p action to here there r e eh et falls = (
  λ yes-r. consistent_from_falls coins_algebra coins_counted coins_counted_lem t numbers p action to e (λ small. omega (arith, falls.0 yes-r (omega arith))),
  λ kept. falls.1 (λ small. omega (arith, falls_from_kept t numbers p action to e kept (omega arith))),
)
