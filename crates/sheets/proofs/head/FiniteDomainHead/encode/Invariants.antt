use Rattle.std.specs.Iterator.Adapters.{rev_source, zip_first, zip_second}
use Rattle.std.specs.Slice.Iter.{iter_rest}
use Rattle.sheets.specs.FiniteDomainTasks.{counts_of}
use Rattle.sheets.proofs.Encoding.{Encoded}
use Rattle.sheets.proofs.head.FiniteDomainHead.encode.Given as goal

abbrev pub invariant-loop-count : goal.invariant-loop-count
invariant-loop-count l =
    let counts = iter_rest (rev_source (zip_first l.count-iterator)) in
    let values = iter_rest (rev_source (zip_second l.count-iterator)) in
    Encoded (counts_of l.self) l.values counts values l.state
