use Rattle.std.proofs.Common.{length, sym, ap, ◌∙◌, arith}
use Rattle.planning.specs.Checks.{first_failing}
use Rattle.marker.specs.Refusals.{start_checks}
use Rattle.answers.proofs.answer.Goals as goal

pub returns-clause-answers : goal.returns-clause-answers
returns-clause-answers g c =
    let t = g.T.Task.model c.args.task.now in
    let told = c.in_ok-status.ensures.answers in
    let marked = told.1.0 in
    let few = c.states.ensures.lawful.few_states in
    let closed = marked.verdict (c.new-blind.ensures.consistent t) (omega (arith, few)) in
    let same = ap (λ room. first_failing (start_checks t (length c.args.table.now) room c.args.state c.args.action 1000000)) (sym c.new-heap.ensures.room) in
    (same ∙ told.0, record { verdict = closed.0; meaning = marked.meaning (c.new-blind.ensures.admissible t) closed.0 })
