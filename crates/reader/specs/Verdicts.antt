-- The answer to a question about a sheet, from its bytes to the verdict.
use Rattle.std.specs.Prelude.{◌≡◌, ℕ, List, Some, Err, Result, ◌≢◌}
use Rattle.planning.specs.Checks.{Check, first_failing}
use Rattle.planning.specs.Outcomes.{Answers}
use Rattle.planning.specs.Task.{Model}
use Rattle.planning.specs.declared.refusal.Refusal.{Refusal}
use Rattle.planning.specs.declared.status.Status.{Status}
use Rattle.marker.specs.Refusals.{start_checks}
use Rattle.answers.specs.Verdicts.{Verdict}
use Rattle.sheet_layout.specs.FiniteDomain.{finite_domain_checks}
use Rattle.sheet_layout.specs.Numbers.{byte_at}
use Rattle.sheet_layout.specs.Strips.{strips_checks}
use Rattle.sheets.specs.FiniteDomainReading.{FiniteDomainSheet}
use Rattle.sheets.specs.FiniteDomainTasks.{finite_domain_task_of}
use Rattle.sheets.specs.Reading.{Sheet}
use Rattle.sheets.specs.StripsTasks.{strips_task_of}

-- about a task, with room for 1,024 states: the refusal of the first failing check, or a verdict with its meaning
abbrev pub Answered : Model → ℕ → ℕ → Result Status Refusal → Type 0
Answered t state action = Answers (first_failing (start_checks t 1024 1024 state action 1000000)) (Verdict t state action)

-- about a sheet of some kind: where it is the layout of no valid content, the refusal of its first failing check; else
-- the answer about the task of its content
pub data KindAnswered {C : Type 0} (checks : List Check) (Is : C → Type 0) (task_of : C → Model) (state action : ℕ) (r : Result Status Refusal) : Type 0 where
  damaged : (e : Refusal) → first_failing checks ≡ Some e → ((c : C) → Is c → ⊥) → r ≡ Err e → KindAnswered checks Is task_of state action r
  whole : (c : C) → Is c → Answered (task_of c) state action r → KindAnswered checks Is task_of state action r

abbrev pub FactsAnswered : List ℕ → ℕ → ℕ → Result Status Refusal → Type 0
FactsAnswered bs = KindAnswered (strips_checks bs) (Sheet bs) strips_task_of

abbrev pub VariablesAnswered : List ℕ → ℕ → ℕ → Result Status Refusal → Type 0
VariablesAnswered bs = KindAnswered (finite_domain_checks bs) (FiniteDomainSheet bs) finite_domain_task_of

-- about a sheet of either kind, by its kind byte: 2 for variables; any other is answered as a sheet of facts, so that an
-- unknown kind is refused as such
pub data SheetAnswered (bs : List ℕ) (state action : ℕ) (r : Result Status Refusal) : Type 0 where
  variables : byte_at bs 5 ≡ 2 → VariablesAnswered bs state action r → SheetAnswered bs state action r
  facts : (byte_at bs 5 ≢ 2) → FactsAnswered bs state action r → SheetAnswered bs state action r
