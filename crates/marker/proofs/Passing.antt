-- What passing the checks of a start gives to the advances after it.
use Rattle.std.proofs.Common.{◌≡◌, ℕ, ◌≤◌, leb, None, ap, ◌∙◌}
use Rattle.std.proofs.lemmas.Bool.{and_parts, and_from, leb-true, le-leb}
use Rattle.planning.specs.declared.status.Status.TheVariants.{Open}
use Rattle.planning.specs.Checks.{first_failing}
use Rattle.planning.specs.Search.{Numbers}
use Rattle.planning.specs.Task.{Model}
use Rattle.planning.proofs.Rows.{passed, pass}
use Rattle.marker.specs.Refusals.{room_check, start_checks, is_open, advance_checks}

pub start_room : (t : Model) (records room state action limit : ℕ) → first_failing (start_checks t records room state action limit) ≡ None → (t.states ≤ records) × (t.states ≤ room)
start_room t records room state action limit e =
    let both = and_parts (leb t.states records) (leb t.states room) (passed (room_check t records room).passes _ _ e).0 in
    (leb-true _ _ both.0, leb-true _ _ both.1)

pub advance_passes : (t : Model) (records room budget : ℕ) (n : Numbers) → t.states ≤ records → t.states ≤ room → budget ≤ 1000000 → n.status ≡ Open → first_failing (advance_checks t records room budget n) ≡ None
advance_passes t records room budget n x y z opened =
    pass (room_check t records room).passes _ _ (and_from _ _ (le-leb _ _ x) (le-leb _ _ y))
    ∙ pass (leb budget 1000000) _ _ (le-leb _ _ z)
    ∙ pass (is_open n.status) _ _ (ap is_open opened)
