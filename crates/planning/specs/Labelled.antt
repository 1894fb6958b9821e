-- The label that the struct of the code stands for.
use Rattle.planning.specs.declared.label.Label.{Label as Held}
use Rattle.planning.specs.Labels.{Label}

abbrev pub labelled : {K : Type 0} → Held K → Label K
labelled x = record { cost = x.cost; tagged = x.tagged }
