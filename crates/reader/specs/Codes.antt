-- How an answer crosses to C: a code and a place.
use Rattle.std.specs.Prelude.{◌≡◌, ℕ, min, List, ◌++◌, length, take, drop, Ok, Err, Result}
use Rattle.planning.specs.Refusals.{number_of, place_of, number_of_place}
use Rattle.planning.specs.declared.refusal.Refusal.{Refusal}
use Rattle.planning.specs.declared.status.Status.{Status}
use Rattle.planning.specs.declared.status.Status.TheVariants.{Fresh, Open, Best, Other, Stuck, Spent}
use Rattle.sheets.specs.Records.{HeadAnswer}
use Rattle.sheets.specs.declared.sheet.SheetHead.{SheetHead}
use Rattle.reader.specs.Verdicts.{SheetAnswered}

-- verdicts are above the numbers of the refusals; the last three are never answered
abbrev pub code_of_verdict : Status → ℕ
code_of_verdict Best = 101
code_of_verdict Other = 102
code_of_verdict Stuck = 103
code_of_verdict Fresh = 104
code_of_verdict Open = 105
code_of_verdict Spent = 106

-- a code and a place for an answer: the number and the place of a refusal, or what stands for the value and place 0
abbrev pub Coded : {X : Type 0} → (X → ℕ) → Result X Refusal → ℕ → ℕ → Type 0
Coded f (Ok x) code place = (code ≡ f x) × (place ≡ 0)
Coded f (Err e) code place = (code ≡ number_of e) × (place ≡ number_of_place (place_of e))

-- 0 for a whole sheet, else its refusal
abbrev pub Checked : List ℕ → ℕ → ℕ → Type 0
Checked bs code place = (r : Result SheetHead Refusal) × HeadAnswer bs r × Coded (λ _. 0) r code place

-- the verdict on an action, or a refusal
abbrev pub Marked : List ℕ → ℕ → ℕ → ℕ → ℕ → Type 0
Marked bs state action code place = (r : Result Status Refusal) × SheetAnswered bs state action r × Coded code_of_verdict r code place

-- as much of a text as fits stands at the front of a buffer, and behind it what was there
abbrev pub Copied : List ℕ → List ℕ → List ℕ → Type 0
Copied text before after = after ≡ take (min (length text) (length before)) text ++ drop (min (length text) (length before)) before
