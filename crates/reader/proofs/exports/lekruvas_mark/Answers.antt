use Rattle.std.proofs.Common.{◌≡◌, ℕ, Ok, Err, Result, subst, ◌∙◌}
use Rattle.std.specs.Result.{IsOkAnd, MatchResult}
use Rattle.planning.specs.declared.refusal.Refusal.{Refusal}
use Rattle.planning.specs.declared.status.Status.{Status}
use Rattle.reader.specs.Codes.{code_of_verdict, Coded}
use Rattle.reader.proofs.exports.lekruvas_mark.Goals as goal

-- a verdict's code crosses as the verdict does
coded_by : (r : Result Status Refusal) (m : Result ℕ Refusal) (code place : ℕ) → MatchResult r (λ status. IsOkAnd m (λ n. n ≡ code_of_verdict status)) (λ e. m ≡ Err e) → Coded (λ n. n) m code place → Coded code_of_verdict r code place
coded_by (Ok status) (Ok n) code place is k = (k.0 ∙ is, k.1)
coded_by (Ok status) (Err e) code place is k = absurd is
coded_by (Err e) m code place is k = subst (λ x. Coded (λ n. n) x code place) is k

pub returns : goal.returns
returns c = (c.answer_sheet.result, c.answer_sheet.ensures, coded_by c.answer_sheet.result c.map.result _ _ c.map.ensures.cases c.coded.ensures)
