use Rattle.std.proofs.Common.{ap, arith, length-set}
use Rattle.std.proofs.lemmas.Bool.{true≢false}
use Rattle.heap_order.specs.Order.{room_of}
use Rattle.open_lists.proofs.Flats.{written, change}
use Rattle.open_lists.proofs.flat.FlatOpenList.put.Goals as goal

pub returns : goal.returns
returns g c =
    let xs = c.args.self.now.slots.now in
    record {
      refused = λ _ e. absurd (true≢false e);
      put = λ _ _. (omega arith, change xs _ (length-set xs _ _) c.args.state _ (omega arith) (written xs c.args.state _ (omega arith)));
      ordered = λ _. tt;
      room = ap room_of (length-set xs _ _);
    }
