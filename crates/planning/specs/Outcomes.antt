-- What a reading call answers, by the checks that it makes.
use Rattle.std.specs.Prelude.{◌≡◌, Some, None, Ok, Err, Option, Result}
use Rattle.planning.specs.declared.refusal.Refusal.{Refusal}

-- refused exactly with the refusal of the first failing check, else accepted with what P says
abbrev pub Answers : {X : Type 0} → Option Refusal → (X → Type 0) → Result X Refusal → Type 0
Answers failing P (Ok x) = (failing ≡ None) × P x
Answers failing P (Err e) = failing ≡ Some e
