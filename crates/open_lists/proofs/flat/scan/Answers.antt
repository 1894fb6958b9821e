use Rattle.std.proofs.Common.{◌<◌, length, Some, None, refl, ap, ◌∙◌, arith}
use Rattle.std.proofs.lemmas.List.{get_or-take, length-take}
use Rattle.std.specs.Option.{option_map}
use Rattle.planning.specs.declared.open_list.Entry.{Entry}
use Rattle.open_lists.specs.Flats.{label_in, slot_label}
use Rattle.open_lists.proofs.Fields.{field_read}
use Rattle.open_lists.proofs.Flats.{pass, find}
use Rattle.open_lists.proofs.flat.scan.Goals as goal
use Rattle.open_lists.proofs.flat.scan.Goals.{in-Some, in_default}

pub loop-state-preserved : goal.loop-state-preserved
loop-state-preserved g c =
    let a = g.K.CostAlgebra.algebra in
    let xs = c.args.slots.now in
    let n = c.loop-state.state in
    let slot = c.slot-item.result in
    let long = length-take c.args.states xs in
    let inside : n < length xs = omega arith in
    let read = field_read label_in None xs n slot inside (c.slot-item.is ∙ get_or-take c.args.states xs n slot (omega arith)) in
    elim c.match-slot.branch [
      | in-Some w ↦
          let entry : Entry g.row.K.Denot = record { state = n; front = slot.front; tagged = w.in-Some.tagged } in
          find a (slot_label xs) g.met.K.CostAlgebra.laws n entry c.loop-state.best c.match-slot.best refl (read ∙ ap (option_map λ t. record { cost = slot.front; tagged = t }) w.in-Some.is) (w.best-is ∙ ap Some w.better.ensures) c.loop-state.invariant
      | in_default w ↦ pass a (slot_label xs) n c.loop-state.best c.match-slot.best w.best-is (read ∙ ap (option_map λ t. record { cost = slot.front; tagged = t }) w.in_default.is) c.loop-state.invariant
    ]
