-- What a search over the caller's things works on, and what its steps leave as it was.
use Rattle.std.specs.Prelude.{◌≡◌}
use Rattle.planning.specs.declared.cost.CostAlgebra.{Ghosts as Costs}
use Rattle.planning.specs.declared.heuristic.Heuristic.{Ghosts as Heuristics}
use Rattle.planning.specs.declared.open_list.OpenList.{Ghosts as Lists}
use Rattle.planning.specs.declared.task.Task.{Ghosts as Tasks}
use Rattle.planning.specs.Search.{Memory, Configuration}
use Rattle.marker.specs.Calls.{memory_of, configuration_of}
use Rattle.marker.specs.declared.marking.Marking.{Marking}
use Rattle.marker.specs.declared.search.Search.{Search}

module _ {T H L K : Type 0} {t : Tasks T} {h : Heuristics H K} {k : Costs K} {l : Lists L K} where
  -- its table, and the entries that wait in its list
  abbrev pub memory_in : Search T H L K t h k l → Memory K
  memory_in s = memory_of s.table.now (l.waiting s.list.now)

  abbrev pub configuration_in : Marking → Search T H L K t h k l → Configuration K
  configuration_in m s = configuration_of m s.table.now (l.waiting s.list.now)

  -- its list keeps the list's invariant
  abbrev pub InOrder : Search T H L K t h k l → Type 0
  InOrder s = l.ordered s.list.now

  -- the same task, heuristic, list and table, and as much room in the list
  abbrev pub SameThings : Search T H L K t h k l → Search T H L K t h k l → Type 0
  SameThings s s' =
      (s'.task ≡ s.task)
      × (s'.heuristic ≡ s.heuristic)
      × (s'.list.ghost_name ≡ s.list.ghost_name)
      × (s'.table.ghost_name ≡ s.table.ghost_name)
      × (l.room s'.list.now ≡ l.room s.list.now)
