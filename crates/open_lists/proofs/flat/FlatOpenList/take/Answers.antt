use Rattle.std.proofs.Common.{refl, ap}
use Rattle.open_lists.specs.Flats.{slot_label}
use Rattle.heap_order.specs.Order.{room_of}
use Rattle.open_lists.proofs.Flats.{shown, freed, reached}
use Rattle.open_lists.proofs.flat.FlatOpenList.take.Goals as goal

pub returns : goal.returns
returns g c =
    let a = g.K.CostAlgebra.algebra in
    let xs = c.args.self.now.slots.now in
    let r = c.take_least.result in
    let s = reached a (slot_label xs) _ _ r r c.capacity-states.ensures refl c.take_least.ensures.scanned in
    record {
      least = λ _. shown a xs r s;
      taken = λ _. freed xs c.take_least.new.slots c.take_least.auto.slots a r s c.take_least.ensures.taken;
      ordered = λ _. tt;
      room = ap room_of c.take_least.auto.slots;
    }
