use Rattle.std.proofs.Common.{ℕ, ◌+◌, ◌<◌, ◌≤◌, List, length, sym, ap, ◌∙◌, subst, arith}
use Rattle.sheet_layout.specs.Frame.{KindOf, record_end}
use Rattle.sheet_layout.proofs.Walking.{Walk, walk_passed, walk_next, place_next}
use Rattle.sheets.proofs.frame.locate.Goals as goal

room : (k : KindOf) (bs : List ℕ) (first n i p : ℕ) → Walk {C = Unit {0}} k (λ bs p. tt) bs first n i p → i < n → (p + 2 ≤ length bs) × (record_end bs p ≤ length bs)
room k bs first n i p w more =
    let here = (walk_passed {C = Unit {0}} k (λ bs p. tt) bs first n i p w more).0.frame in
    (omega (arith, here.room, here.inside), here.inside)

pub end_of_record-at-requires : goal.end_of_record-at-requires
end_of_record-at-requires g c = (room _ _ _ _ _ _ c.loop.invariant.1 (omega (arith, c.loop-test.true, c.requires.below))).0

pub loop-preserved : goal.loop-preserved
loop-preserved g c =
    let r = g.K.SheetKind.reading in
    let bs = c.args.sheet.now in
    let first = r.begins c.args.head.now in
    let n = r.count c.args.head.now in
    let i = c.loop.counter in
    let more : i < n = omega (arith, c.loop-test.true, c.requires.below) in
    let next = walk_next r.kind (λ bs p. tt) bs first n i c.loop.at c.loop.invariant.1 more in
    let e = c.end_of_record-at.ensures in (
      e ∙ ap (record_end bs) c.loop.invariant.0 ∙ sym (place_next bs i first),
      subst (Walk {C = Unit {0}} r.kind (λ bs p. tt) bs first n (i + 1)) (sym e) next,
    )
