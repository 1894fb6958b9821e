-- Tables for 512 actions are always long enough: reading into them fails only where a check of the sheet does.
use Rattle.std.proofs.Common.{◌≡◌, ℕ, ◌≤◌, ◌&&◌, leb, List, [], ◌∷◌, ◌++◌, Some, None, Option, sym, refl, ◌∙◌, arith}
use Rattle.std.proofs.lemmas.Bool.{and_from, le-leb}
use Rattle.planning.specs.declared.refusal.Refusal.{Refusal}
use Rattle.planning.specs.Checks.{Check, first_failing}
use Rattle.planning.proofs.Rows.{after, within, pass}
use Rattle.sheets.specs.Reading.{room_check}

pub room_passes : (cs : List Check) (count : ℕ) (e : Refusal) → (first_failing cs ≡ None → count ≤ 512) → first_failing (cs ++ (room_check count 512 512 ∷ [])) ≡ Some e → first_failing cs ≡ Some e
room_passes cs count e few fails = go (first_failing cs) refl
  where
    go : (o : Option Refusal) → first_failing cs ≡ o → first_failing cs ≡ Some e
    go None none =
        let last = room_check count 512 512 in
        let ok = le-leb count 512 (few none) in
        let passes = after cs (last ∷ []) none ∙ pass (leb count 512 && leb count 512) last.refusal None (and_from _ _ ok ok) in
        let z : ◌≡◌ {A = ℕ} 0 1 = cc (passes, fails) in
        absurd (omega arith)
    go (Some d) some = some ∙ sym (within cs (room_check count 512 512 ∷ []) d some) ∙ fails
