use Rattle.std.proofs.Common.{◌≡◌, ◌+◌, ◌*◌, min, get_or, drop, sym, ap, ◌∙◌, arith}
use Rattle.std.proofs.lemmas.List.{at_drop_more}
use Rattle.sheet_layout.specs.FiniteDomain.{product}
use Rattle.sheet_layout.proofs.FiniteDomainHeads.{capped}
use Rattle.sheets.proofs.finite_domain.count_states.Goals as goal

pub loop-count-preserved : goal.loop-count-preserved
loop-count-preserved c =
    let ns = c.args.counts.now in
    let i = c.loop-count.count-index in
    let s = c.loop-count.states in
    let rest = product (drop (i + 1) ns) in
    let next : c.min-states.result ≡ min (s * get_or ns i 0) 65537 = c.min-states.ensures ∙ ap (λ n. min (s * n) 65537) c.from.ensures in (
      omega (arith, c.min-states.ensures),
      ap (λ k. min (k * rest) 65537) next
          ∙ capped s (get_or ns i 0) rest
          ∙ sym (at_drop_more (λ l. min (s * product l) 65537) ns i 0 c.loop-count-test.true)
          ∙ c.loop-count.invariant.1,
    )
