use Rattle.std.proofs.Common.{◌≡◌, ℕ, ◌<◌, None}
use Rattle.open_lists.specs.Flats.{slot_label}
use Rattle.open_lists.proofs.flat.wipe.Given as goal

abbrev pub invariant-loop-slot : goal.invariant-loop-slot
invariant-loop-slot g l = (p : ℕ) → p < l.slot-index → slot_label l.slots p ≡ None
