-- The first check of a row that fails, by its place in what the row checks.
use Rattle.std.proofs.Common.{◌≡◌, ℕ, ◌+◌, Bool, true, false, cond, not, leb, ◌&&◌, List, [], ◌∷◌, Ok, Err, Result, Some, None, Option, sym, refl, ap, ◌∙◌, arith}
use Rattle.std.specs.List.{position, position_from, zip}
use Rattle.std.specs.Option.{option_map}
use Rattle.std.specs.Result.{result_ok}
use Rattle.std.proofs.lemmas.Iterator.Adapters.{position_from-zero}
use Rattle.planning.specs.declared.refusal.Refusal.{Refusal}
use Rattle.planning.specs.declared.refusal.Refusal.TheVariants.{Count, StartOrGoal}
use Rattle.planning.specs.Checks.{otherwise, first_failing}
use Rattle.planning.specs.Outcomes.{Answers}
use Rattle.sheet_layout.specs.FiniteDomain.{counts_checks, values_checks}

-- what an answer without its refusal says of the checks
pub passed_ok : (o : Option Refusal) (r : Result (Unit {0}) Refusal) → Answers o (λ _. Unit {0}) r → result_ok r ≡ Some tt → o ≡ None
passed_ok o (Ok x) a e = a.0
passed_ok o (Err y) a e = cc

pub failed_ok : (o : Option Refusal) (r : Result (Unit {0}) Refusal) → Answers o (λ _. Unit {0}) r → result_ok r ≡ None → o ≡ None → ⊥
failed_ok o (Ok x) a e none = let z : ◌≡◌ {A = ℕ} 0 1 = cc in omega arith
failed_ok o (Err y) a e none = let z : ◌≡◌ {A = ℕ} 0 1 = cc (a, none) in omega arith

-- one check in front of those whose first failure is known
step : (b : Bool) (at : ℕ → Refusal) (p q k : ℕ) (next : Option Refusal) (later : Option ℕ) → q ≡ p + k → next ≡ option_map (λ i. at (p + i)) later → otherwise b (at q) next ≡ option_map (λ i. at (p + i)) (cond (not b) (Some k) later)
step true at p q k next later e f = f
step false at p q k next later e f = ap (λ i. Some (at i)) e

counts_from : (ns : List ℕ) (p q k : ℕ) → q ≡ p + k → first_failing (counts_checks ns q) ≡ option_map (λ i. Count (p + i)) (position_from (λ n. not (leb 2 n && leb n 16)) k ns)
counts_from [] p q k e = refl
counts_from (n ∷ ns) p q k e = step (leb 2 n && leb n 16) Count p q k _ _ e (counts_from ns p (q + 1) (k + 1) (omega arith))

pub counts_position : (ns : List ℕ) (p : ℕ) (found : Option ℕ) → found ≡ position (λ n. not (leb 2 n && leb n 16)) ns → first_failing (counts_checks ns p) ≡ option_map (λ i. Count (p + i)) found
counts_position ns p found e =
    let test : ℕ → Bool = λ n. not (leb 2 n && leb n 16) in
    counts_from ns p p 0 (omega arith) ∙ ap (option_map (λ i. Count (p + i))) (sym (e ∙ position_from-zero test ns))

module _ (passing : ℕ → ℕ → Bool) where
  values_from : (ns vs : List ℕ) (p q k : ℕ) → q ≡ p + k → first_failing (values_checks passing ns vs q) ≡ option_map (λ i. StartOrGoal (p + i)) (position_from (λ (x : ℕ × ℕ). not (passing x.1 x.0)) k (zip ns vs))
  values_from [] vs p q k e = refl
  values_from (n ∷ ns) [] p q k e = refl
  values_from (n ∷ ns) (v ∷ vs) p q k e = step (passing v n) StartOrGoal p q k _ _ e (values_from ns vs p (q + 1) (k + 1) (omega arith))

  pub values_position : (ns vs : List ℕ) (p : ℕ) (found : Option ℕ) → found ≡ position (λ (x : ℕ × ℕ). not (passing x.1 x.0)) (zip ns vs) → first_failing (values_checks passing ns vs p) ≡ option_map (λ i. StartOrGoal (p + i)) found
  values_position ns vs p found e =
      let test : ℕ × ℕ → Bool = λ x. not (passing x.1 x.0) in
      values_from ns vs p p 0 (omega arith) ∙ ap (option_map (λ i. StartOrGoal (p + i))) (sym (e ∙ position_from-zero test (zip ns vs)))
