-- From the checks of a sheet of any kind to its content.
use Rattle.std.proofs.Common.{◌≡◌, ℕ, ◌≤◌, List, ◌++◌, length, Some, None, Ok, Err, Result, sym, ◌∙◌, arith}
use Rattle.planning.specs.declared.refusal.Refusal.{Refusal}
use Rattle.planning.specs.Checks.{first_failing}
use Rattle.planning.specs.Outcomes.{Answers}
use Rattle.planning.proofs.Rows.{after, front}
use Rattle.sheet_layout.specs.Frame.{opening_checks, records_checks}
use Rattle.sheet_layout.specs.Numbers.{Bytes, num16}
use Rattle.sheets.specs.Kinds.{Reading, ReadingLaws, checks_of, Checked}

module _ {Head Entry : Type 0} (r : Reading Head Entry) (laws : ReadingLaws r) (bs : List ℕ) (ok : first_failing (checks_of r bs) ≡ None) where
  rest : first_failing (r.head_checks bs ++ records_checks r.kind bs (num16 bs 7) (r.first bs)) ≡ None
  rest =
      let left = r.head_checks bs ++ records_checks r.kind bs (num16 bs 7) (r.first bs) in
      sym (after (opening_checks r.kind bs) left (front (opening_checks r.kind bs) left ok)) ∙ ok

  pub head_passes : first_failing (r.head_checks bs) ≡ None
  head_passes = front (r.head_checks bs) (records_checks r.kind bs (num16 bs 7) (r.first bs)) rest

  pub records_pass : (r.first bs ≤ length bs) × (first_failing (records_checks r.kind bs (num16 bs 7) (r.first bs)) ≡ None)
  records_pass =
      let records = records_checks r.kind bs (num16 bs 7) (r.first bs) in
      (laws.room bs (front (opening_checks r.kind bs) (r.head_checks bs ++ records) ok) head_passes, sym (after (r.head_checks bs) records head_passes) ∙ rest)

  pub few_actions : num16 bs 7 ≤ 512
  few_actions = laws.few_actions bs head_passes

module _ {Head Entry : Type 0} (r : Reading Head Entry) (laws : ReadingLaws r) (bs : List ℕ) (small : Bytes bs) where
  pub no_content : (e : Refusal) → first_failing (checks_of r bs) ≡ Some e → (c : r.Content) → r.LaidOut bs c → ⊥
  no_content e fails c h =
      let none = (laws.complete bs small c h).0 in
      let z : ◌≡◌ {A = ℕ} 0 1 = cc (fails, none) in
      omega arith

  pub verdict : (x : Result Head Refusal) → Answers (first_failing (checks_of r bs)) (r.HeadAt bs) x → Checked r bs x
  verdict (Ok h) a = laws.sound bs small a.0 h a.1
  verdict (Err e) a = (a, no_content e a)
