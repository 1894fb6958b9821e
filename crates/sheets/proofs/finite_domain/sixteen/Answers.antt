use Rattle.std.proofs.Common.{◌≡◌, ◌+◌, ◌<◌, ◌≤◌, min, cond, ltb, ap, sym, ◌∙◌, ⊎_elim, arith, rules, tests}
use Rattle.std.proofs.lemmas.Bool.Decides.{nat_tests}
use Rattle.std.proofs.lemmas.List.{get_or_past}
use Rattle.std.proofs.lemmas.Bool.{cases_lt, cond-false, le-ltb}
use Rattle.sheet_layout.specs.Numbers.{byte_at}
use Rattle.sheets.proofs.MadeArrays.{made_at}
use Rattle.sheets.proofs.finite_domain.sixteen.Goals as goal

pub returns : goal.returns
returns c =
    let made = c.from_fn.ensures.items in
    let bs = c.args.sheet.now in
    let p = c.args.at in
    let n = c.args.count in (
      made.long,
      λ k.
          ⊎_elim
          (λ (h : k < 16).
          let low : ltb k n ≡ ltb k (min n 16) = grind (arith, nat_tests) in
          made_at _ _ (λ i. cond (ltb i n) (byte_at bs (p + i)) 0) (λ i y q called. search (rules, tests)) c.from_fn.result 0 16 k 0 made.each (omega arith) (omega arith) ∙ ap (λ b. cond b (byte_at bs (p + k)) 0) low)
          (λ (h : 16 ≤ k). get_or_past c.from_fn.result k 0 (omega (arith, made.long)) ∙ sym (cond-false (ltb k (min n 16)) (byte_at bs (p + k)) 0 (le-ltb k (min n 16) (omega arith))))
          (cases_lt k 16),
    )
