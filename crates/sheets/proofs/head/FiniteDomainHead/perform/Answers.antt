use Rattle.std.proofs.Common.{◌≡◌, true, false, length, take, Some, None, sym, ap, ◌∙◌, subst}
use Rattle.std.proofs.lemmas.Bool.{and_right, and_from, cond-true, cond-false}
use Rattle.sheets.specs.FiniteDomainTasks.{encode, decode, InRange, holds, changed, names, applicable, successor, counts_of}
use Rattle.sheets.proofs.FiniteDomainLaws.{head_told}
use Rattle.sheets.proofs.FiniteDomainSteps.{front, moved}
use Rattle.sheets.proofs.Numbering.{values_range, changed_range}
use Rattle.sheets.proofs.head.FiniteDomainHead.perform.Goals as goal
use Rattle.sheets.proofs.head.FiniteDomainHead.perform.Goals.{After-changed-after}

pub returns-then-not-satisfied : goal.returns-then-not-satisfied
returns-then-not-satisfied c =
    let ns = counts_of c.args.self.now in
    let vs = decode ns c.args.state in
    let x = c.args.action.now in
    let lacks : holds x.preconditions vs ≡ false = sym (ap (holds x.preconditions) (front ns _ c.decode-values.result c.args.state c.counts-counts.ensures c.decode-values.ensures)) ∙ sym c.if-not-satisfied.ensures in
    sym (cond-false (applicable ns vs x) (Some (successor ns vs x c.args.price)) None (and_right (names ns x.preconditions) _ (and_right (names ns x.effects) (holds x.preconditions vs) lacks)))

-- the values after the effects
after : (c : After-changed-after) → take (length c.counts-counts.result.now) c.changed-after.result ≡ changed c.args.action.now.effects (decode (counts_of c.args.self.now) c.args.state)
after c = moved (counts_of c.args.self.now) _ c.decode-values.result c.changed-after.result c.args.action.now.effects c.args.state c.counts-counts.ensures c.decode-values.ensures c.changed-after.ensures

pub encode-requires : goal.encode-requires
encode-requires c =
    let ns = counts_of c.args.self.now in
    let s = c.args.state in
    let x = c.args.action.now in
    let named = ap (λ l. names l x.effects) (sym c.counts-counts.ensures) ∙ sym c.if-not-names_only-2.ensures in
    subst (InRange ns) (sym (after (goal.at.encode-requires c).After-changed-after)) (changed_range ns x.effects (decode ns s) named (values_range ns s (head_told c.args.self.now).counts))

pub returns : goal.returns
returns c =
    let ns = counts_of c.args.self.now in
    let s = c.args.state in
    let vs = decode ns s in
    let x = c.args.action.now in
    let same = sym c.counts-counts.ensures in
    let has : holds x.preconditions vs ≡ true = sym (ap (holds x.preconditions) (front ns _ c.decode-values.result s c.counts-counts.ensures c.decode-values.ensures)) ∙ sym c.if-not-satisfied.ensures in
    let ready : applicable ns vs x ≡ true =
    and_from (names ns x.preconditions) _ (ap (λ l. names l x.preconditions) same ∙ sym c.if-not-names_only.ensures) (and_from (names ns x.effects) (holds x.preconditions vs) (ap (λ l. names l x.effects) same ∙ sym c.if-not-names_only-2.ensures) has) in
    let to : c.encode.result ≡ encode ns (changed x.effects vs) = c.encode.ensures ∙ ap (encode ns) (after (goal.at.returns c).After-changed-after) in
    (λ i. Some (record { state = to i; coins = c.min.ensures i })) ∙ sym (cond-true (applicable ns vs x) (Some (successor ns vs x c.args.price)) None ready)
