use Rattle.std.proofs.Common.{[], take, drop, get_or, ap, ◌∙◌, arith}
use Rattle.sheets.proofs.Pairs.{pair_at}
use Rattle.sheets.proofs.finite_domain.pairs_at.Goals as goal

pub returns-clause-each : goal.returns-clause-each
returns-clause-each c k h =
    let bs = c.args.sheet.now in
    let n = c.args.count in
    let p = c.args.first in
    ap (λ l. get_or l k []) c.as_chunks.ensures.front ∙ pair_at bs _ n p k (ap (λ m. take m (drop p bs)) (omega arith)) c.requires h
