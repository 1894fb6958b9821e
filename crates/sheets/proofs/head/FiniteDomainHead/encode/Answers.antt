use Rattle.std.proofs.Common.{◌≡◌, ◌*◌, ◌≤◌, ◌∷◌, [], ◌++◌, rules}
use Rattle.std.specs.Iterator.Adapters.{rev_source, zip_first, zip_second}
use Rattle.std.specs.Slice.Iter.{iter_rest}
use Rattle.sheets.specs.FiniteDomainTasks.{counts_of}
use Rattle.sheets.proofs.Encoding.{encoded_none, encoded_small}
use Rattle.sheets.proofs.FiniteDomainLaws.{head_told}
use Rattle.sheets.proofs.ZippedBack.{back_more}
use Rattle.sheets.proofs.head.FiniteDomainHead.encode.Goals as goal
use Rattle.sheets.proofs.head.FiniteDomainHead.encode.Goals.{After-from-in-loop-count}

pub loop-count-init : goal.loop-count-init
loop-count-init c =
    let told = head_told c.args.self.now in
    let left = c.into_iter-count-iterator.result in
    let first : iter_rest (rev_source (zip_first left)) ≡ counts_of c.args.self.now = cc in
    let second : iter_rest (rev_source (zip_second left)) ≡ c.args.values.now = cc in
    encoded_none _ _ told.counts told.few_states c.requires _ _ first second

-- what the iterator gave last
given : (c : After-from-in-loop-count) → (iter_rest (rev_source (zip_first c.loop-count.count-iterator)) ≡ iter_rest (rev_source (zip_first c.next.new.self)) ++ (c.from-in-loop-count.result ∷ [])) × (iter_rest (rev_source (zip_second c.loop-count.count-iterator)) ≡ iter_rest (rev_source (zip_second c.next.new.self)) ++ (c.from.result ∷ []))
given c =
    let more = back_more c.loop-count.count-iterator c.next.new.self _ (c.in-Some.count, c.in-Some.value) c.in-Some.is c.next.ensures.steps in
    let count : c.from-in-loop-count.result ≡ c.in-Some.count.now = c.from-in-loop-count.ensures in
    let value : c.from.result ≡ c.in-Some.value.now = c.from.ensures in
    rw (count, value) more

-- the product fits with room for a value
small : (c : After-from-in-loop-count) → c.from-in-loop-count.result * c.loop-count.state ≤ 1048576
small c =
    let told = head_told c.args.self.now in
    encoded_small _ _ told.counts told.few_states c.requires _ _ _ _ _ (given c).0 c.loop-count.invariant

pub overflow_mul-state : goal.overflow_mul-state
overflow_mul-state c = let h = small (goal.at.overflow_mul-state c).After-from-in-loop-count in search (rules, h)

pub overflow_add-state : goal.overflow_add-state
overflow_add-state c = let h = small (goal.at.overflow_add-state c).After-from-in-loop-count in search (rules, h)
