use Rattle.std.proofs.Common.{◌≡◌, ℕ, ◌+◌, ◌-◌, ◌*◌, true, length}
use Rattle.sheet_layout.specs.FiniteDomain.{present_pairs, read_pairs, read_list}
use Rattle.sheet_layout.specs.Numbers.{byte_at}
use Rattle.sheets.specs.FiniteDomainReading.{assigned, values_named}
use Rattle.sheets.proofs.finite_domain.named_at.Given as goal

abbrev pub invariant-loop-variable : goal.invariant-loop-variable
invariant-loop-variable l =
    let left = byte_at l.sheet l.at - l.variable-index in
    let next = l.at + 1 + 2 * l.variable-index in
    (length l.values ≡ 16)
    × (assigned l.values (read_pairs l.sheet left next) ≡ values_named (read_list l.sheet l.at))
    × ((least : ℕ) × (present_pairs l.sheet left next least ≡ true))
