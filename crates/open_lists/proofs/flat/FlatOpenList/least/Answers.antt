use Rattle.std.proofs.Common.{refl}
use Rattle.open_lists.specs.Flats.{slot_label}
use Rattle.open_lists.proofs.Flats.{shown, reached}
use Rattle.open_lists.proofs.flat.FlatOpenList.least.Goals as goal

pub returns : goal.returns
returns g c _ =
    let a = g.K.CostAlgebra.algebra in
    let xs = c.args.self.now.slots.now in
    let r = c.scan.result in
    shown a xs r (reached a (slot_label xs) _ _ r r c.capacity.ensures refl c.scan.ensures)
