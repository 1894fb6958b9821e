use Rattle.std.proofs.Common.{◌+◌, ◌-◌, ◌*◌, ◌<◌, [], get_or, set, sym, ap, ◌∙◌, arith}
use Rattle.std.proofs.lemmas.List.{length-set}
use Rattle.std.proofs.lemmas.Bool.{and_parts}
use Rattle.sheet_layout.specs.FiniteDomain.{present_pair, read_pairs}
use Rattle.sheet_layout.specs.Numbers.{byte_at}
use Rattle.sheet_layout.proofs.Assigning.{present_on, pairs_on}
use Rattle.sheets.specs.FiniteDomainReading.{assigned}
use Rattle.sheets.proofs.finite_domain.named_at.Goals as goal

pub loop-variable-preserved : goal.loop-variable-preserved
loop-variable-preserved c =
    let bs = c.args.sheet.now in
    let p = c.args.at + 1 in
    let n = byte_at bs c.args.at in
    let i = c.loop-variable.variable-index in
    let vs = c.loop-variable.values in
    let least = c.loop-variable.invariant.2.0 in
    let low : i < n = omega (arith, c.pairs_at-variable-items.ensures.long, c.loop-variable-test.true) in
    let pair = get_or c.pairs_at-variable-items.result.now i [] in
    let read = c.pairs_at-variable-items.ensures.each i low in
    let rest = read_pairs bs (n - (i + 1)) (p + 2 * (i + 1)) in
    let more = (and_parts (present_pair bs (p + 2 * i) least) _ (sym (present_on bs n i p least low) ∙ c.loop-variable.invariant.2.1)).1 in (
      length-set vs (get_or pair 0 0) (get_or pair 1 0) ∙ c.loop-variable.invariant.0,
      ap (λ l. assigned (set vs (get_or l 0 0) (get_or l 1 0)) rest) read ∙ sym (ap (assigned vs) (pairs_on bs n i p low)) ∙ c.loop-variable.invariant.1,
      (byte_at bs (p + 2 * i) + 1, more),
    )
