use Rattle.std.proofs.Common.{◌≡◌, ℕ, length, drop, replicate}
use Rattle.sheet_layout.proofs.Walking.{Copied}
use Rattle.sheets.specs.FiniteDomainTasks.{decode, counts_of}
use Rattle.sheets.proofs.head.FiniteDomainHead.decode.Given as goal

abbrev pub invariant-loop-i : goal.invariant-loop-i
invariant-loop-i l =
    let ns = counts_of l.self in
    (length l.values ≡ 16)
    × Copied {A = ℕ} (λ v. v) (decode ns l.state) (replicate 16 0) l.i l.values
    × (decode (drop l.i ns) l.rest ≡ drop l.i (decode ns l.state))
