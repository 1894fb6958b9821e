-- A finite-domain task keeps the ranges of a task.
use Rattle.std.proofs.Common.{◌≡◌, ℕ, ◌<◌, ◌≤◌, true, false, List, length, take, is_some, Some, None, Option, sym, refl, ap, arith}
use Rattle.std.specs.List.{AllByRecursion}
use Rattle.std.proofs.lemmas.List.{length-take}
use Rattle.std.proofs.lemmas.Bool.{and_parts}
use Rattle.planning.specs.declared.task.Transition.{Transition}
use Rattle.planning.specs.Task.{TaskLaws}
use Rattle.sheet_layout.specs.FiniteDomain.{ValidCount, product}
use Rattle.sheet_layout.proofs.FiniteDomainHeads.{CountsPassed, counts_told, product_some}
use Rattle.sheets.specs.FiniteDomainTasks.{decode, applicable, successor, performing, names, counts_of, finite_domain_model, finite_domain_tasks}
use Rattle.sheets.specs.declared.finite_domain.FiniteDomainAction.{FiniteDomainAction}
use Rattle.sheets.specs.declared.head.FiniteDomainHead.{FiniteDomainHead}
use Rattle.sheets.proofs.Numbering.{below_product, values_range, changed_range}
use Rattle.sheets.proofs.Ranges.{guarded, ranges}
use Rattle.sheets.specs.FiniteDomainReading.{finite_domain_reading}

-- a head that exists has passed the checks of its counts
pub head_told : (h : FiniteDomainHead) → CountsPassed h.variables h.actions (counts_of h)
head_told h = counts_told h.variables h.actions (counts_of h) (take h.variables h.start) (take h.variables h.goal) (none _ h.valid)
  where
    none : {X : Type 0} (o : Option X) → is_some o ≡ false → o ≡ None
    none None e = refl
    none (Some x) e = cc

-- where an action leads, and what it costs
led : (ns : List ℕ) → AllByRecursion ValidCount ns → (s : ℕ) (x : FiniteDomainAction) (coins : ℕ) (to : Transition) → performing ns (decode ns s) x coins ≡ Some to → (to.state < product ns) × (to.coins ≤ 1000000)
led ns v s x coins to e =
    let vs = decode ns s in
    let g = guarded (applicable ns vs x) (Some (successor ns vs x coins)) to e in
    let is : successor ns vs x coins ≡ to = cc g.1 in
    let named : names ns x.effects ≡ true = (and_parts (names ns x.effects) _ (and_parts (names ns x.preconditions) _ g.0).1).0 in
    let range = changed_range ns x.effects vs named (values_range ns s v) in
    (rw (sym (ap (λ t. t.state) is)) (below_product ns _ range), rw (sym (ap (λ t. t.coins) is)) (omega arith))

pub finite_domain_laws : (h : FiniteDomainHead) (actions : List FiniteDomainAction) (prices : List ℕ) → TaskLaws (finite_domain_model h actions prices)
finite_domain_laws h =
    let told = head_told h in
    ranges finite_domain_reading finite_domain_tasks h (product_some (counts_of h) told.counts) told.few_states told.some_action told.few_actions (led (counts_of h) told.counts)

-- a head has at most sixteen variables
pub few_variables : (h : FiniteDomainHead) → length (counts_of h) ≤ 16
few_variables h = let few = (head_told h).few_variables in omega (arith, length-take h.variables h.counts)
