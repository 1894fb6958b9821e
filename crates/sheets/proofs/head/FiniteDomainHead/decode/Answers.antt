use Rattle.std.proofs.Common.{◌≡◌, ℕ, ◌+◌, ◌/◌, ◌%◌, ◌<◌, length, drop, get_or, replicate, ap, ◌∙◌, arith, rules}
use Rattle.std.proofs.lemmas.List.{length-set}
use Rattle.sheet_layout.specs.FiniteDomain.{ValidCount}
use Rattle.sheet_layout.proofs.Walking.{copy_next}
use Rattle.sheets.specs.FiniteDomainTasks.{decode, counts_of}
use Rattle.sheets.proofs.FiniteDomainLaws.{head_told, few_variables}
use Rattle.sheets.specs.Described.{decode-length}
use Rattle.sheets.proofs.FiniteDomainSteps.{every_at, decode_on, decode_next, copied_padded}
use Rattle.sheets.proofs.head.FiniteDomainHead.decode.Goals as goal
use Rattle.sheets.proofs.head.FiniteDomainHead.decode.Goals.{After-from-count}

-- the variable at hand, and its number of values
here : (c : After-from-count) → (c.loop-i.i < length (counts_of c.args.self.now)) × (c.from-count.result ≡ get_or (counts_of c.args.self.now) c.loop-i.i 0) × ValidCount c.from-count.result
here c =
    let ns = counts_of c.args.self.now in
    let i = c.loop-i.i in
    let low : i < length ns = omega (arith, ap length c.counts-count-items.ensures, c.loop-i-test.true) in
    let is : c.from-count.result ≡ get_or ns i 0 = cc in
    (low, is, rw is (every_at ns i (head_told c.args.self.now).counts low))

pub nonzero_rem-values : goal.nonzero_rem-values
nonzero_rem-values c = let n = (here (goal.at.nonzero_rem-values c).After-from-count).2 in omega (arith, n.two)

pub overflow_cast-values : goal.overflow_cast-values
overflow_cast-values c = let n = (here (goal.at.overflow_cast-values c).After-from-count).2 in search (rules, n)

pub nonzero_div-rest : goal.nonzero_div-rest
nonzero_div-rest c = let n = (here (goal.at.nonzero_div-rest c).After-from-count).2 in omega (arith, n.two)

pub loop-i-preserved : goal.loop-i-preserved
loop-i-preserved c =
    let ns = counts_of c.args.self.now in
    let s = c.args.state in
    let i = c.loop-i.i in
    let rest = c.loop-i.rest in
    let at = here (goal.at.loop-i-preserved c).After-from-count in
    let item = decode_on ns i s rest at.0 c.loop-i.invariant.2 in
    let few = few_variables c.args.self.now in (
      length-set c.loop-i.values i (rest % c.from-count.result) ∙ c.loop-i.invariant.0,
      copy_next (λ (v : ℕ). v) (decode ns s) (replicate 16 0) i c.loop-i.values (rest % c.from-count.result) _ _ c.loop-i.invariant.1 (omega (arith, at.0, few)) item (ap (λ n. rest % n) at.1),
      ap (λ n. decode (drop (i + 1) ns) (rest / n)) at.1 ∙ decode_next ns i s rest at.0 c.loop-i.invariant.2,
    )

pub returns : goal.returns
returns c =
    let ns = counts_of c.args.self.now in
    let all = decode ns c.args.state in
    let done : c.loop-i.i ≡ length all = omega (arith, decode-length ns c.args.state, ap length c.counts-count-items.ensures, c.loop-i-test.false, c.loop-i.auto.i-end) in
    copied_padded all c.loop-i.i c.loop-i.values done c.loop-i.invariant.1
