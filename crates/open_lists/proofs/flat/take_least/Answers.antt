use Rattle.std.proofs.Common.{arith}
use Rattle.open_lists.proofs.Flats.{written}
use Rattle.open_lists.proofs.flat.take_least.Goals as goal

pub returns : goal.returns
returns g c =
    let s = c.in_ok-entry.ensures in
    record { scanned = s; taken = written c.args.slots.now c.in_ok-entry.entry.state _ (omega (arith, s.0.below)) }
