-- The word of each status, as it is printed.
use Rattle.std.specs.Prelude.{ℕ, List, codes}
use Rattle.planning.specs.declared.status.Status.{Status}
use Rattle.planning.specs.declared.status.Status.TheVariants.{Fresh, Open, Best, Other, Stuck, Spent}

abbrev pub word_of : Status → List ℕ
word_of Fresh = codes "fresh"
word_of Open = codes "open"
word_of Best = codes "best"
word_of Other = codes "other"
word_of Stuck = codes "stuck"
word_of Spent = codes "spent"
