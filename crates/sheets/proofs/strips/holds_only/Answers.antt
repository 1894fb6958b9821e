use Rattle.std.proofs.Common.{◌^◌, ◌<◌, ◌≤◌, sym, ◌∙◌, arith, pow_mono}
use Rattle.std.proofs.lemmas.Bool.{le-leb, lt-ltb}
use Rattle.sheets.proofs.Shifts.{shifted_out}
use Rattle.sheets.proofs.strips.holds_only.Goals as goal

pub returns-then-facts-ge32 : goal.returns-then-facts-ge32
returns-then-facts-ge32 c =
    let wide : 2 ^ 32 ≤ 2 ^ c.args.facts = pow_mono c.if-facts-ge32.true in
    let fits : c.args.set < 2 ^ 32 = omega arith in
    le-leb 32 c.args.facts c.if-facts-ge32.true ∙ sym (lt-ltb c.args.set (2 ^ c.args.facts) (omega arith))

pub returns-else-facts-ge32 : goal.returns-else-facts-ge32
returns-else-facts-ge32 c = shifted_out c.args.set c.args.facts
