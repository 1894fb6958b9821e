use Rattle.std.proofs.Common.{sym, ◌∙◌, subst}
use Rattle.sheet_layout.proofs.FiniteDomainHeads.{plain_passed, plain_pass}
use Rattle.sheets.specs.FiniteDomainTasks.{InRange, StateWith, counts_of}
use Rattle.sheets.proofs.FiniteDomainLaws.{head_told}
use Rattle.sheets.proofs.FirstFailures.{passed_ok, failed_ok}
use Rattle.sheets.proofs.Numbering.{numbering}
use Rattle.sheets.proofs.head.FiniteDomainHead.state_with.Goals as goal

pub returns-then-values-counts-clause-numbering : goal.returns-then-values-counts-clause-numbering
returns-then-values-counts-clause-numbering c = numbering _ (head_told c.args.self.now).counts

pub encode-requires : goal.encode-requires
encode-requires c =
    let passes = passed_ok _ _ c.check_values.ensures (sym c.ok.ensures.value ∙ c.in_ok-ok.was) in
    subst (λ l. InRange l c.args.values.now) c.counts-counts.ensures (plain_passed _ _ 0 c.if-values-counts.false passes)

pub returns-in_err-ok-clause-value : goal.returns-in_err-ok-clause-value
returns-in_err-ok-clause-value c =
    subst (StateWith (counts_of c.args.self.now) c.args.values.now) (sym c.from_residual.ensures) (λ r.
    failed_ok _ _ c.check_values.ensures (sym c.ok.ensures.value ∙ c.in_err-ok.was) (plain_pass _ _ 0 (subst (λ l. InRange l c.args.values.now) (sym c.counts-counts.ensures) r)))

pub returns-in_err-ok-clause-numbering : goal.returns-in_err-ok-clause-numbering
returns-in_err-ok-clause-numbering c = numbering _ (head_told c.args.self.now).counts

pub returns-clause-value : goal.returns-clause-value
returns-clause-value c =
    let passes = passed_ok _ _ c.check_values.ensures (sym c.ok.ensures.value ∙ c.in_ok-ok.was) in
    (subst (λ l. InRange l c.args.values.now) c.counts-counts.ensures (plain_passed _ _ 0 c.if-values-counts.false passes), c.encode.ensures)

pub returns-clause-numbering : goal.returns-clause-numbering
returns-clause-numbering c = numbering _ (head_told c.args.self.now).counts
