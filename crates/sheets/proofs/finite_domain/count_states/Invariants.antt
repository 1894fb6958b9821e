use Rattle.std.proofs.Common.{◌≡◌, ◌*◌, ◌≤◌, min, drop}
use Rattle.sheet_layout.specs.FiniteDomain.{product}
use Rattle.sheets.proofs.finite_domain.count_states.Given as goal

abbrev pub invariant-loop-count : goal.invariant-loop-count
invariant-loop-count l =
    (l.states ≤ 65537)
    × (min (l.states * product (drop l.count-index l.counts)) 65537 ≡ min (product l.counts) 65537)
