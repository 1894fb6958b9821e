-- A task over the tables that a sheet filled is the task that the sheet's content describes.
use Rattle.std.proofs.Common.{◌≡◌, ℕ, zero, suc, ◌/◌, ◌^◌, ◌<◌, Bool, true, false, cond, ◌&&◌, ◌||◌, eqb, ltb, ◌⊎◌, List, [], ◌∷◌, ◌++◌, map, length, take, None, Option, sym, refl, ap, ◌∙◌, arith}
use Rattle.std.specs.List.{slice_get, AllZip}
use Rattle.std.proofs.lemmas.List.{length-map, take_at}
use Rattle.std.proofs.lemmas.Bool.{and_parts, ltb-true}
use Rattle.planning.specs.declared.task.Transition.{Transition}
use Rattle.sheet_layout.specs.Frame.{Action}
use Rattle.sheet_layout.specs.Strips.{StripsContent}
use Rattle.sheets.specs.Kinds.{Begins, listed, priced, TasksLaws}
use Rattle.sheets.specs.Reading.{HeadOf, tabled, strips_reading}
use Rattle.sheets.specs.StripsTasks.{performing, strips_over, strips_task_of, strips_tasks}
use Rattle.sheets.specs.FiniteDomainReading.{FiniteDomainHeadOf, entered, padded, finite_domain_reading}
use Rattle.sheets.specs.FiniteDomainTasks.{performing as doing, decode, holds, counts_of, finite_domain_over, finite_domain_task_of, finite_domain_tasks}
use Rattle.sheet_layout.specs.FiniteDomain.{FiniteDomainContent, ValidFiniteDomain, product}
use Rattle.sheets.specs.declared.head.FiniteDomainHead.{FiniteDomainHead}
use Rattle.sheets.specs.declared.finite_domain.FiniteDomainAction.{FiniteDomainAction}
use Rattle.sheets.specs.declared.head.StripsHead.{StripsHead}
use Rattle.sheets.specs.declared.strips.StripsAction.{StripsAction}

-- what stands before an end is the same with more behind it
pub nth_front : {X : Type 0} (xs ys : List X) (i : ℕ) → i < length xs → slice_get (xs ++ ys) i ≡ slice_get xs i
nth_front [] ys i h = absurd (omega arith)
nth_front (x ∷ xs) ys zero h = refl
nth_front (x ∷ xs) ys (suc i) h = nth_front xs ys i (omega arith)

-- two values behind a test are the same if they are wherever it holds
pub guarded_same : {X : Type 0} (b : Bool) (x y z : X) → (b ≡ true → x ≡ y) → cond b x z ≡ cond b y z
guarded_same true x y z h = h refl
guarded_same false x y z h = refl

-- what a table begins with decides what is performed of its actions
steps_same : {C X : Type 0} (f : Action C → X) (xs : List (Action C)) (actions : List X) (prices : List ℕ) (does : X → ℕ → Option Transition) (low : Bool) (a : ℕ)
    → cond (low && ltb a (length xs)) (listed does (slice_get (map f xs ++ actions) a) (slice_get (map priced xs ++ prices) a)) None
    ≡ cond (low && ltb a (length xs)) (listed does (slice_get (map f xs) a) (slice_get (map priced xs) a)) None
steps_same f xs actions prices does low a =
    guarded_same (low && ltb a (length xs)) _ _ None (λ inside.
    let few = ltb-true a (length xs) (and_parts low (ltb a (length xs)) inside).1 in
    λ i. listed does (nth_front (map f xs) actions a (omega (arith, length-map xs f)) i) (nth_front (map priced xs) prices a (omega (arith, length-map xs priced)) i))

pub strips_described : (h : StripsHead) (actions : List StripsAction) (prices : List ℕ) (c : StripsContent) → HeadOf h c → Begins tabled c.actions actions → Begins priced c.actions prices → strips_over h.facts h.actions h.goal actions prices ≡ strips_task_of c
strips_described h actions prices c head ha hp =
    (λ i. strips_over (head.facts i) (head.actions i) (head.goal i) (ha.1 i) (hp.1 i))
    ∙ (λ i. record {
      states = 2 ^ c.facts;
      actions = length c.actions;
      transition = λ s a. steps_same tabled c.actions ha.0 hp.0 (performing c.facts s) (ltb s (2 ^ c.facts)) a i;
      goal = (strips_task_of c).goal;
    })

-- what is named behind the values does not count
holds_front : (named more values : List ℕ) → length named ≡ length values → holds (named ++ more) values ≡ holds named values
holds_front [] [] [] e = refl
holds_front [] (x ∷ more) [] e = refl
holds_front [] more (v ∷ values) e = absurd (omega arith)
holds_front (x ∷ named) more [] e = absurd (omega arith)
holds_front (x ∷ named) more (v ∷ values) e = ap (λ b. (eqb x 255 || eqb x v) && b) (holds_front named more values (omega arith))

as_long : (R : ℕ → ℕ → Type 0) (xs ys : List ℕ) → AllZip R xs ys → length xs ≡ length ys
as_long R [] [] e = refl
as_long R [] (y ∷ ys) e = absurd e
as_long R (x ∷ xs) [] e = absurd e
as_long R (x ∷ xs) (y ∷ ys) e = ap suc (as_long R xs ys e.1)

pub decode-length : (ns : List ℕ) (s : ℕ) → length (decode ns s) ≡ length ns
decode-length [] s = refl
decode-length (n ∷ ns) s = ap suc (decode-length ns (s / n))

module _ (h : FiniteDomainHead) (actions : List FiniteDomainAction) (prices : List ℕ) (c : FiniteDomainContent) (valid : ValidFiniteDomain c) (head : FiniteDomainHeadOf h c) (ha : Begins entered c.actions actions) (hp : Begins priced c.actions prices) where
  counts_same : counts_of h ≡ c.counts
  counts_same = (λ i. take (head.variables i) (head.counts i)) ∙ take_at c.counts _ (length c.counts) refl

  goal_same : (s : ℕ) → (ltb s (product c.counts) && holds (padded c.goal) (decode c.counts s)) ≡ (finite_domain_task_of c).goal s
  goal_same s = ap (λ b. ltb s (product c.counts) && b) (holds_front c.goal _ (decode c.counts s) (as_long (λ v n. (v < n) ⊎ (v ≡ 255)) c.goal c.counts valid.goal ∙ sym (decode-length c.counts s)))

  pub finite_domain_described : finite_domain_over (counts_of h) h.actions h.goal actions prices ≡ finite_domain_task_of c
  finite_domain_described =
      (λ i. finite_domain_over (counts_same i) (head.actions i) (head.goal i) (ha.1 i) (hp.1 i))
      ∙ (λ i. record {
        states = product c.counts;
        actions = length c.actions;
        transition = λ s a. steps_same entered c.actions ha.0 hp.0 (doing c.counts (decode c.counts s)) (ltb s (product c.counts)) a i;
        goal = λ s. goal_same s i;
      })

pub strips_tasks_laws : TasksLaws strips_reading strips_tasks
strips_tasks_laws = record {
  fits = λ bs c h laid of. of;
  described = λ h actions prices c of ha hp. strips_described h actions prices c of ha hp;
}

pub finite_domain_tasks_laws : TasksLaws finite_domain_reading finite_domain_tasks
finite_domain_tasks_laws = record {
  fits = λ bs c h laid of. (laid.valid, of);
  described = λ h actions prices c fits ha hp. finite_domain_described h actions prices c fits.0 fits.1 ha hp;
}
