use Rattle.std.proofs.Common.{◌≡◌, ◌+◌, ◌<◌, length, sym, refl, ◌∙◌, subst, subst₂, arith}
use Rattle.sheet_layout.specs.Numbers.{Bytes, num16}
use Rattle.sheet_layout.proofs.Framing.{Passed, actions_count}
use Rattle.sheet_layout.proofs.Walking.{Walk, walk_start, walk_passed, walk_item, walk_next, copy_next, copy_end}
use Rattle.sheets.specs.Kinds.{entering, priced}
use Rattle.sheets.proofs.Readings.{head_passes, records_pass}
use Rattle.sheets.proofs.reading.fill.Goals as goal
use Rattle.sheets.proofs.reading.fill.Goals.{In-loop-i}
use Rattle.sheet_layout.specs.Frame.{actions_from}

pub loop-i-init : goal.loop-i-init
loop-i-init g c =
    let r = g.K.SheetKind.reading in
    let laws = g.met.K.SheetKind.laws in
    let bs = c.args.sheet.now in
    let head = c.args.head.now in
    let told = records_pass r laws bs c.requires.passes in
    let start = walk_start r.kind r.does_at bs (r.first bs) (num16 bs 7) told.0 told.1 in
    let walk = subst₂ (λ n p. Walk r.kind r.does_at bs p n 0 p) (sym (laws.counted bs head c.requires.head)) (sym (laws.begun bs head c.requires.head)) start in
    (subst (Walk r.kind r.does_at bs (r.begins head) (r.count head) 0) (sym c.first_record-at.ensures) walk, refl, refl)

-- the record at hand has passed
here : (g : _) (c : In-loop-i g) → Passed g.K.SheetKind.reading.kind c.args.sheet.now c.loop-i.at
here g c =
    let r = g.K.SheetKind.reading in
    let head = c.args.head.now in
    let more : c.loop-i.i < r.count head = omega (arith, c.actions-i-end.ensures, c.loop-i-test.true) in
    (walk_passed r.kind r.does_at c.args.sheet.now (r.begins head) (r.count head) c.loop-i.i c.loop-i.at c.loop-i.invariant.0 more).0

pub action_at-requires : goal.action_at-requires
action_at-requires g c =
    let passed = here g (goal.at.action_at-requires g c).In-loop-i in
    let frame = passed.frame in
    record { headed = head_passes g.K.SheetKind.reading g.met.K.SheetKind.laws c.args.sheet.now c.requires.passes; inside = omega (arith, frame.named, frame.inside); present = passed.present }

pub u32_at-requires : goal.u32_at-requires
u32_at-requires g c =
    let frame = (here g (goal.at.u32_at-requires g c).In-loop-i).frame in
    omega (arith, frame.room, frame.inside)

pub end_of_record-at-requires : goal.end_of_record-at-requires
end_of_record-at-requires g c =
    let frame = (here g (goal.at.end_of_record-at-requires g c).In-loop-i).frame in
    omega (arith, frame.room, frame.inside)

pub loop-i-preserved : goal.loop-i-preserved
loop-i-preserved g c =
    let r = g.K.SheetKind.reading in
    let bs = c.args.sheet.now in
    let first = r.begins c.args.head.now in
    let n = r.count c.args.head.now in
    let i = c.loop-i.i in
    let p = c.loop-i.at in
    let w = c.loop-i.invariant.0 in
    let more : i < n = omega (arith, c.actions-i-end.ensures, c.loop-i-test.true) in
    let all = actions_from r.kind r.does_at bs n first in
    let item = walk_item r.kind r.does_at bs first n i p w more in (
      subst (Walk r.kind r.does_at bs first n (i + 1)) (sym c.end_of_record-at.ensures) (walk_next r.kind r.does_at bs first n i p w more),
      copy_next (entering r) all c.args.actions.now i c.loop-i.actions c.action_at.result _ _ c.loop-i.invariant.1 (omega (arith, c.requires.room)) item c.action_at.ensures,
      copy_next priced all c.args.prices.now i c.loop-i.prices c.u32_at.result _ _ c.loop-i.invariant.2 (omega (arith, c.requires.room)) item c.u32_at.ensures,
    )

pub returns : goal.returns
returns g c content h =
    let r = g.K.SheetKind.reading in
    let bs = c.args.sheet.now in
    let laws = g.met.K.SheetKind.laws in
    let head = c.args.head.now in
    let n = r.count head in
    let small : Bytes bs = λ i. omega (arith, c.type_inv.sheet i) in
    let all = actions_from r.kind r.does_at bs n (r.begins head) in
    let is : all ≡ r.actions content = (λ i. actions_from r.kind r.does_at bs (laws.counted bs head c.requires.head i) (laws.begun bs head c.requires.head i)) ∙ sym (laws.complete bs small content h).1 in
    let done : c.loop-i.i ≡ length all = omega (arith, actions_count r.kind r.does_at bs n (r.begins head), c.actions-i-end.ensures, c.loop-i-test.false, c.loop-i.auto.i-end) in (
      copy_end (entering r) all c.args.actions.now (r.actions content) c.loop-i.i c.loop-i.actions is done c.loop-i.invariant.1,
      copy_end priced all c.args.prices.now (r.actions content) c.loop-i.i c.loop-i.prices is done c.loop-i.invariant.2,
    )
