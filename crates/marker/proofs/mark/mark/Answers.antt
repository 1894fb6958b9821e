use Rattle.std.proofs.Common.{◌≡◌, ℕ, List, length, None, Ok, Err, Option, Result, sym, refl, ◌∙◌, subst, arith}
use Rattle.planning.specs.declared.cost.Record.{Record}
use Rattle.planning.specs.declared.refusal.Refusal.{Refusal}
use Rattle.planning.specs.declared.status.Status.{Status}
use Rattle.planning.specs.Checks.{first_failing}
use Rattle.planning.specs.Histories.{History, fresh, never}
use Rattle.marker.specs.declared.marking.Marking.{Marking}
use Rattle.marker.specs.Calls.{numbers_of, AdvanceAnswers}
use Rattle.marker.specs.Refusals.{advance_checks}
use Rattle.marker.proofs.Passing.{start_room, advance_passes}
use Rattle.marker.proofs.Whole.{advance_falls, going_start, going_on, going_end}
use Rattle.marker.proofs.mark.mark.Given.{Over}
use Rattle.marker.proofs.mark.mark.Goals as goal
use Rattle.marker.proofs.mark.mark.Goals.{In-Open}

pub loop-told-init : goal.loop-told-init
loop-told-init g c =
    let told = c.in_ok-told.ensures.answers.1 in
    let past = subst (λ n. History g.H.Cost.CostAlgebra.algebra n never) (sym c.fresh-marking.ensures) fresh in
    (told.0, going_start _ _ _ _ _ _ _ _ _ past told.1, told.2, refl)

-- the first check of the next advance that fails
abbrev failing : (g : Over) → In-Open g → Option Refusal
failing g c = first_failing (advance_checks (g.T.Task.model c.args.task.now) (length c.loop-told.table) (g.L.OpenList.room c.loop-told.list) 1000000 (numbers_of c.loop-told.marking))

-- what that advance answers
abbrev Answer : (g : Over) (c : In-Open g) → Marking → g.row.L.Denot → List (Record g.row.H-Cost.Denot) → Result (Status × ℕ) Refusal → Option Refusal → Type 0
Answer g c m' l' xs' r f =
    AdvanceAnswers (g.T.Task.model c.args.task.now) g.H.Cost.CostAlgebra.algebra (g.H.Heuristic.estimated c.args.heuristic.now) g.L.OpenList.waiting g.L.OpenList.ordered 1000000 c.loop-told.marking m' c.loop-told.list l' c.loop-told.table xs' f r

-- none fails
passing : (g : Over) (c : In-Open g) (m' : Marking) (l' : g.row.L.Denot) (xs' : List (Record g.row.H-Cost.Denot)) (r : Result (Status × ℕ) Refusal) → Answer g c m' l' xs' r (failing g c) → Answer g c m' l' xs' r None
passing g c m' l' xs' r told = subst (Answer g c m' l' xs' r) none told
  where
    none : failing g c ≡ None
    none =
        let t = g.T.Task.model c.args.task.now in
        let first = c.in_ok-told.ensures in
        let rooms = start_room t (length c.args.table.now) (g.L.OpenList.room c.args.list.now) c.args.state c.args.action c.args.limit first.answers.0 in
        advance_passes t (length c.loop-told.table) (g.L.OpenList.room c.loop-told.list) 1000000 (numbers_of c.loop-told.marking)
        (omega (arith, rooms.0, c.loop-told.auto.table, c.start.auto.table))
        (omega (arith, rooms.1, c.loop-told.invariant.3, first.room))
        (omega arith)
        (sym c.loop-told.invariant.0.0 ∙ c.in-Open.is)

pub returns-in_err-told-2 : goal.returns-in_err-told-2
returns-in_err-told-2 g c =
    let inv = c.loop-told.invariant in
    let met = passing g (goal.at.returns-in_err-told-2 g c).In-Open c.advance.new.self c.advance.new.list c.advance.new.table (Err _) c.in_err-told-2.ensures.answers in
    let promised = c.theorem_stands.ensures.promised _ _ c.states.ensures.lawful c.bounded.ensures inv.1.history in
    absurd (promised.unstopped _ met.0 _ (met.2 inv.2))

pub loop-told-smaller : goal.loop-told-smaller
loop-told-smaller g c =
    let inv = c.loop-told.invariant in
    let told = passing g (goal.at.loop-told-smaller g c).In-Open c.advance.new.self c.advance.new.list c.advance.new.table (Ok c.in_ok-told-2.told) c.in_ok-told-2.ensures.answers in
    let opened = sym inv.0.0 ∙ c.in-Open.is in
    advance_falls _ _ _ _ _ _ _ (told.1 inv.2) (omega arith) opened (c.loop-told.marking.unspent opened)

pub loop-told-preserved : goal.loop-told-preserved
loop-told-preserved g c =
    let inv = c.loop-told.invariant in
    let told = passing g (goal.at.loop-told-preserved g c).In-Open c.advance.new.self c.advance.new.list c.advance.new.table (Ok c.in_ok-told-2.told) c.in_ok-told-2.ensures.answers in
    (told.0, going_on _ _ _ _ _ _ _ _ _ _ (omega (arith, c.states.ensures.lawful.few_states)) inv.1 (told.1 inv.2), c.in_ok-told-2.ensures.ordered inv.2, c.in_ok-told-2.ensures.room ∙ inv.3)

pub returns-clause-answers : goal.returns-clause-answers
returns-clause-answers g c =
    let inv = c.loop-told.invariant in
    let look = c.look.ensures in (
      c.in_ok-told.ensures.answers.0,
      (going_end _ _ _ _ _ _ c.theorem_stands.ensures c.states.ensures.lawful c.bounded.ensures _ _ _ look.0 look.1 (λ e. c.in_default.not-Open (inv.0.0 ∙ sym look.0 ∙ e)) inv.1, inv.2),
    )
