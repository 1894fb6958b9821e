use Rattle.std.proofs.Common.{◌+◌, ◌-◌, ◌*◌, ◌<◌, ◌&&◌, [], get_or, sym, ap, ◌∙◌, arith}
use Rattle.std.proofs.lemmas.Bool.{and_left}
use Rattle.sheet_layout.specs.FiniteDomain.{present_pair, present_pairs}
use Rattle.sheet_layout.specs.Numbers.{byte_at}
use Rattle.sheet_layout.proofs.Assigning.{present_on}
use Rattle.sheets.proofs.Pairs.{pair_tested}
use Rattle.sheets.proofs.finite_domain.pairs_present.Goals as goal

pub returns-then-not-pair_present : goal.returns-then-not-pair_present
returns-then-not-pair_present c =
    let bs = c.args.sheet.now in
    let i = c.loop-variable.variable-index in
    let p = c.args.first in
    let least = c.loop-variable.least in
    let low : i < c.args.count = omega (arith, c.pairs_at-variable-items.ensures.long, c.loop-variable-test.true) in
    let is = pair_tested bs (get_or c.pairs_at-variable-items.result.now i []) (p + 2 * i) least (c.pairs_at-variable-items.ensures.each i low) in
    sym (and_left (present_pair bs (p + 2 * i) least) _ (sym is ∙ sym c.if-not-pair_present.ensures)) ∙ sym (present_on bs c.args.count i p least low) ∙ c.loop-variable.invariant

pub loop-variable-preserved : goal.loop-variable-preserved
loop-variable-preserved c =
    let bs = c.args.sheet.now in
    let n = c.args.count in
    let i = c.loop-variable.variable-index in
    let p = c.args.first in
    let least = c.loop-variable.least in
    let low : i < n = omega (arith, c.pairs_at-variable-items.ensures.long, c.loop-variable-test.true) in
    let read = c.pairs_at-variable-items.ensures.each i low in
    let is = pair_tested bs (get_or c.pairs_at-variable-items.result.now i []) (p + 2 * i) least read in
    let rest = present_pairs bs (n - (i + 1)) (p + 2 * (i + 1)) (byte_at bs (p + 2 * i) + 1) in
    ap (λ l. present_pairs bs (n - (i + 1)) (p + 2 * (i + 1)) (get_or l 0 0 + 1)) read
    ∙ ap (λ b. b && rest) (c.if-not-pair_present.ensures ∙ is)
    ∙ sym (present_on bs n i p least low)
    ∙ c.loop-variable.invariant
