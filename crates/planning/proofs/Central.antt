-- The central theorem.
use Rattle.std.proofs.Common.{◌≡◌, ℕ, cond, Some, None, sym, ap, ◌∙◌, arith}
use Rattle.planning.specs.declared.status.Status.{Status}
use Rattle.planning.specs.declared.status.Status.TheVariants.{Open}
use Rattle.planning.specs.Costs.{Algebra, CostLaws, Strict}
use Rattle.planning.specs.Estimates.{Estimates, Bounded}
use Rattle.planning.specs.Histories.{Owned, never, own, configuration}
use Rattle.planning.specs.Lists.{Waiting}
use Rattle.planning.specs.Search.{Numbers, Memory, Configuration, Foreign, outside, unknown, nothing, Stopped, Onward, nothing_waits, at_limit, goes_on, Waits, label}
use Rattle.planning.specs.Task.{Model, TaskLaws}
use Rattle.planning.specs.Theorem.{Reached, Promised, Theorem}
use Rattle.planning.proofs.Bound.{ends, runs_few, started_few}
use Rattle.planning.proofs.Exact.{runs_exact}
use Rattle.planning.proofs.Histories.{Held, holds}
use Rattle.planning.proofs.Invariant.{Invariant, All}
use Rattle.planning.proofs.Offers.{none_some, known}
use Rattle.planning.proofs.Verdicts.{closed_not_open, Stage, going, done, started_stage, runs_stage, meaning}

onward_waits : {K : Type 0} (w : Waiting K) (n k : ℕ) (s : Status) → Onward w n k s → s ≡ Open → Waits w
onward_waits w n k s (nothing_waits _) e = grind arith
onward_waits w n k s (at_limit some _) e = some
onward_waits w n k s (goes_on some _) e = some

module _ {K : Type 0} (t : Model) (a : Algebra K) (h : Estimates K) (s action : ℕ) where
  -- where the invariant holds and some entry waits, none is foreign
  not_foreign : (m : Memory K) (place : ℕ) → Invariant t a h s action (All t a h) m → Waits m.waiting → Foreign t a m place → ⊥
  not_foreign m place i w (outside x first b) =
      let here = i.entries place x first.waits in
      omega (arith, here.within)
  not_foreign m place i w (unknown x r first b at k) = none_some (ap known at ∙ ap (λ b. cond b (Some (label r)) None) k) (i.entries place x first.waits).is
  not_foreign m place i w (nothing e _) = none_some (e w.state) w.waits

  stage_not_foreign : (c : Configuration K) (place : ℕ) → Stage t a h s action c → c.numbers.status ≡ Open → Foreign t a c.memory place → ⊥
  stage_not_foreign c place (going i _ o) e f = not_foreign c.memory place i (onward_waits c.memory.waiting c.numbers.turns c.numbers.limit c.numbers.status o e) f
  stage_not_foreign c place (done tag g _) e f = closed_not_open tag (sym g ∙ e)

module _ {K : Type 0} (a : Algebra K) (l : CostLaws a) (strict : Strict a) where
  pub keeps_promise : (n : Numbers) (o : Owned K) (laws : TaskLaws o.task) (bounded : Bounded a o.estimates) → Held a l n o laws bounded → Promised a n o
  keeps_promise n o laws bounded held = record { reached = held.reached; meaning = meaning t a h s action l strict laws c stage; ends = λ consistent b. ends t a h s action o.granted c stage (runs_few t a h l strict laws consistent s action r.first first (started_few t a h s action o.limit r.table r.first r.started) n.turns c r.runs) (rw held.limit b) held.granted; unstopped = unstopped }
    where
      t : Model
      t = o.task

      h : Estimates K
      h = o.estimates

      s : ℕ
      s = o.state

      action : ℕ
      action = o.action

      c : Configuration K
      c = configuration n o

      r : Reached a n o
      r = held.reached

      first : Stage t a h s action r.first
      first = started_stage t a h s action l strict laws o.limit r.table r.first r.started

      stage : Stage t a h s action c
      stage = runs_stage t a h s action l strict laws r.first first n.turns c r.runs

      unstopped : (budget place : ℕ) (e : Configuration K) → Stopped t a a.computed h budget place c e → ⊥
      unstopped budget place e d =
          let exact = runs_exact t a h l laws bounded c held.kept d.made e d.runs in
          stage_not_foreign t a h s action e place (runs_stage t a h s action l strict laws c stage d.made e exact.0) d.goes_on d.met

  pub theorem : Theorem a
  theorem = record { unstarted = λ n past. holds a l n never past; promised = λ n o laws bounded past. keeps_promise n o laws bounded (holds a l n (own o) past laws bounded) }
