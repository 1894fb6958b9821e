use Rattle.std.proofs.Common.{None, arith}
use Rattle.std.proofs.lemmas.Bool.{cases_lt}
use Rattle.std.proofs.lemmas.Bool.Decides.{nat_tests}
use Rattle.open_lists.specs.Flats.{label_in}
use Rattle.open_lists.proofs.Fields.{field_past, field_set}
use Rattle.open_lists.proofs.flat.wipe.Goals as goal

pub loop-slot-preserved : goal.loop-slot-preserved
loop-slot-preserved g c p h = grind (arith, nat_tests, field_set label_in None c.loop-slot.slots c.loop-slot.slot-index, c.loop-slot.invariant p)

pub returns : goal.returns
returns g c p = grind (arith, field_past label_in None c.loop-slot.slots p, c.loop-slot.invariant p, cases_lt p c.loop-slot.slot-index)
