-- Checks in a row: the first that fails gives its refusal.
use Rattle.std.specs.Prelude.{Bool, true, false, List, [], ◌∷◌, Some, None, Option}
use Rattle.planning.specs.declared.refusal.Refusal.{Refusal}

pub record Check : Type 0 where
  pub passes : Bool
  pub refusal : Refusal

abbrev pub otherwise : Bool → Refusal → Option Refusal → Option Refusal
otherwise true r next = next
otherwise false r next = Some r

-- the refusal of the first check that fails, or none
abbrev pub first_failing : List Check → Option Refusal
first_failing [] = None
first_failing (c ∷ cs) = otherwise c.passes c.refusal (first_failing cs)
