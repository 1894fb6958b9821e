-- The line that answers a question: state and action in decimal, then the status or "refused" and the number.
use Rattle.std.specs.Prelude.{◌≡◌, ℕ, ◌<◌, ◌≤◌, List, [], ◌∷◌, ◌++◌, length, drop, Ok, Err, codes, decimal, Result}
use Rattle.planning.specs.Refusals.{number_of}
use Rattle.planning.specs.Statuses.{word_of}
use Rattle.planning.specs.declared.refusal.Refusal.{Refusal}
use Rattle.planning.specs.declared.refusal.Refusal.TheVariants.{Short}
use Rattle.planning.specs.declared.status.Status.{Status}

abbrev pub refused_of : Refusal → List ℕ
refused_of r = codes "refused " ++ decimal (number_of r)

abbrev pub answer_of : Result Status Refusal → List ℕ
answer_of (Ok status) = word_of status
answer_of (Err r) = refused_of r

-- one blank between, a newline behind
abbrev pub line_of : ℕ → ℕ → Result Status Refusal → List ℕ
line_of state action answer = decimal state ++ (32 ∷ (decimal action ++ (32 ∷ (answer_of answer ++ (10 ∷ [])))))

-- the line of a refused sheet
abbrev pub refused_line : Refusal → List ℕ
refused_line r = refused_of r ++ (10 ∷ [])

-- a text is written to the front of a buffer of 32 bytes or more, and its length answered; a shorter one stays as it was
abbrev pub Delivered : List ℕ → List ℕ → List ℕ → Result ℕ Refusal → Type 0
Delivered text before after (Ok n) = (32 ≤ length before) × (n ≡ length text) × (after ≡ text ++ drop (length text) before)
Delivered text before after (Err e) = (length before < 32) × (e ≡ Short 32) × (after ≡ before)
