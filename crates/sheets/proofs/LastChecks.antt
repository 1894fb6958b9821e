-- The last check of a call on a sheet that passed.
use Rattle.std.proofs.Common.{◌≡◌, ℕ, ◌<◌, ◌≤◌, false, ◌&&◌, leb, ◌⊎◌, List, [], ◌∷◌, ◌++◌, Some, None, sym, ap, ◌∙◌, ⊎_elim, arith}
use Rattle.std.proofs.lemmas.Bool.{and_left, and_right, lt-leb, le-ltb}
use Rattle.planning.specs.declared.refusal.Refusal.TheVariants.{Short, NoAction}
use Rattle.planning.specs.Checks.{Check, first_failing}
use Rattle.planning.proofs.Rows.{after, fail}
use Rattle.sheets.specs.Kinds.{room_check, number_check}

-- a table is too short
pub room_fails : (cs : List Check) (needed actions prices count : ℕ) → first_failing cs ≡ None → needed ≡ count → (actions < needed) ⊎ ((needed ≤ actions) × (prices < needed))
    → first_failing (cs ++ (room_check count actions prices ∷ [])) ≡ Some (Short needed)
room_fails cs needed actions prices count ok is lacks =
    let last = room_check needed actions prices in
    let short : (leb needed actions && leb needed prices) ≡ false =
    ⊎_elim (λ h. and_left _ _ (lt-leb needed actions h)) (λ h. and_right (leb needed actions) _ (lt-leb needed prices h.1)) lacks in
    ap (λ n. first_failing (cs ++ (room_check n actions prices ∷ []))) (sym is) ∙ after cs (last ∷ []) ok ∙ fail last.passes last.refusal None short

-- there is no action of that number
pub number_fails : (cs : List Check) (number actions count : ℕ) → first_failing cs ≡ None → actions ≡ count → actions ≤ number
    → first_failing (cs ++ (number_check count number ∷ [])) ≡ Some (NoAction number)
number_fails cs number actions count ok is past =
    let last = number_check count number in
    after cs (last ∷ []) ok ∙ fail last.passes last.refusal None (le-ltb number count (omega arith))
