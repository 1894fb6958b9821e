use Rattle.std.proofs.Common.{◌≡◌, ℕ, ◌+◌, ◌*◌, ◌≤◌, false, ◌&&◌, ◌||◌, eqb, ltb, List, ◌++◌, take, is_some, None, sym, ap, ◌∙◌, arith, rules, tests}
use Rattle.std.proofs.lemmas.Result.{err_from_is_err_and}
use Rattle.planning.specs.Checks.{first_failing}
use Rattle.planning.proofs.Rows.{after, within}
use Rattle.sheet_layout.specs.FiniteDomain.{values_checks, value_or_any, finite_domain_head}
use Rattle.sheet_layout.proofs.FiniteDomainHeads.{counts_fail, product_fail, start_row, values_plain}
use Rattle.sheets.proofs.head.FiniteDomainHead.new.Goals as goal
use Rattle.sheets.proofs.head.FiniteDomainHead.new.Goals.{In_ok-check_counts, Else-states-gt65536, In_ok-check_values, In_ok-check_values-2}

pub returns-in_err-check_counts : goal.returns-in_err-check_counts
returns-in_err-check_counts c =
    let d = c.args.variables in
    let size : (1 ≤ d) × (d ≤ 16) = search (rules, tests) in
    let few : (1 ≤ c.args.actions) × (c.args.actions ≤ 512) = search (rules, tests) in
    let p = err_from_is_err_and c.from_residual-in_err-check_counts.result c.from_residual-in_err-check_counts.ensures.1 in
    rw (p.1, p.2)
    (counts_fail d c.args.actions (take d c.args.counts) (take d c.args.start) (take d c.args.goal) size few _
    c.in_err-check_counts.ensures)

pub returns-then-states-gt65536 : goal.returns-then-states-gt65536
returns-then-states-gt65536 c =
    let d = c.args.variables in
    let size : (1 ≤ d) × (d ≤ 16) = search (rules, tests) in
    let few : (1 ≤ c.args.actions) × (c.args.actions ≤ 512) = search (rules, tests) in
    product_fail d c.args.actions (take d c.args.counts) (take d c.args.start) (take d c.args.goal) size few
    c.in_ok-check_counts.ensures.0
    (omega (arith, c.count_states-states.ensures, c.if-states-gt65536.true))

-- the checks of values as `check_values` makes them
plain : (ns vs : List ℕ) (p : ℕ) → first_failing (values_checks ltb ns vs p) ≡ first_failing (values_checks (λ v n. ltb v n || (false && eqb v 255)) ns vs p)
plain ns vs p = sym (ap first_failing (values_plain ns vs p))

-- once the counts have passed, the values are left
valued : (c : Else-states-gt65536) → first_failing (finite_domain_head c.args.variables c.args.actions (take c.args.variables c.args.counts) (take c.args.variables c.args.start) (take c.args.variables c.args.goal)) ≡ first_failing (values_checks ltb (take c.args.variables c.args.counts) (take c.args.variables c.args.start) (9 + c.args.variables) ++ values_checks value_or_any (take c.args.variables c.args.counts) (take c.args.variables c.args.goal) (9 + 2 * c.args.variables))
valued c =
    let d = c.args.variables in
    let size : (1 ≤ d) × (d ≤ 16) = search (rules, tests) in
    let few : (1 ≤ c.args.actions) × (c.args.actions ≤ 512) = search (rules, tests) in
    start_row d c.args.actions (take d c.args.counts) (take d c.args.start) (take d c.args.goal) size few
    c.in_ok-check_counts.ensures.0
    (omega (arith, c.count_states-states.ensures, c.if-states-gt65536.false))

pub returns-in_err-check_values : goal.returns-in_err-check_values
returns-in_err-check_values c =
    let d = c.args.variables in
    let p = err_from_is_err_and c.from_residual-in_err-check_values.result c.from_residual-in_err-check_values.ensures.1 in
    rw (p.1, p.2)
    (
    valued (goal.at.returns-in_err-check_values c).Else-states-gt65536
    ∙ within (values_checks ltb (take d c.args.counts) (take d c.args.start) (9 + d)) _ _ (plain (take d c.args.counts) (take d c.args.start) (9 + d) ∙ c.in_err-check_values.ensures)
    )

-- once the start has passed, the goal is left
aimed : (c : In_ok-check_values) → first_failing (finite_domain_head c.args.variables c.args.actions (take c.args.variables c.args.counts) (take c.args.variables c.args.start) (take c.args.variables c.args.goal)) ≡ first_failing (values_checks value_or_any (take c.args.variables c.args.counts) (take c.args.variables c.args.goal) (9 + 2 * c.args.variables))
aimed c =
    let d = c.args.variables in
    valued (goal.at.In_ok-check_values c).Else-states-gt65536
    ∙ after (values_checks ltb (take d c.args.counts) (take d c.args.start) (9 + d)) _ (plain (take d c.args.counts) (take d c.args.start) (9 + d) ∙ c.in_ok-check_values.ensures.0)

pub returns-in_err-check_values-2 : goal.returns-in_err-check_values-2
returns-in_err-check_values-2 c =
    let d = c.args.variables in
    let p = err_from_is_err_and c.from_residual-in_err-check_values-2.result c.from_residual-in_err-check_values-2.ensures.1 in
    rw (p.1, p.2) (aimed (goal.at.returns-in_err-check_values-2 c).In_ok-check_values ∙ c.in_err-check_values-2.ensures)

-- every check of the head has passed
whole : (c : In_ok-check_values-2) → first_failing (finite_domain_head c.args.variables c.args.actions (take c.args.variables c.args.counts) (take c.args.variables c.args.start) (take c.args.variables c.args.goal)) ≡ None
whole c =
    let d = c.args.variables in
    aimed (goal.at.In_ok-check_values-2 c).In_ok-check_values ∙ c.in_ok-check_values-2.ensures.0

pub invariant_of-result : goal.invariant_of-result
invariant_of-result c =
    record { valid = ap is_some (whole c); total = omega (arith, c.count_states-states.ensures, c.if-states-gt65536.false) }
