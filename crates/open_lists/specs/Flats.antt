-- What a flat list holds, and whose entry is its least.
use Rattle.std.specs.Prelude.{◌≡◌, ℕ, zero, suc, ◌<◌, false, cond, List, map, length, is_some, Some, None, Option, nat_lt, slice_index_or}
use Rattle.planning.specs.Costs.{Algebra}
use Rattle.planning.specs.Labels.{Label, earlier}
use Rattle.planning.specs.Lists.{Waiting, label_of}
use Rattle.planning.specs.declared.open_list.Entry.{Entry}
use Rattle.open_lists.specs.declared.flat.Slot.{Slot}
use Rattle.std.specs.Option.{option_map}
use Rattle.heap_order.specs.Order.{room_of, ahead}

abbrev pub label_in : {K : Type 0} → Slot K → Option (Label K)
label_in s = option_map (λ tagged. record { cost = s.front; tagged = tagged }) s.tagged

-- the entry in a slot, absent past the end
abbrev pub slot_label : {K : Type 0} → List (Slot K) → Waiting K
slot_label xs p = slice_index_or (map label_in xs) p None

-- a state's entry stands in its slot; there are none beyond the room
abbrev pub flat_waiting : {K : Type 0} → List (Slot K) → Waiting K
flat_waiting xs p = cond (nat_lt p (room_of (length xs))) (slot_label xs p) None

-- the scan has come to state n: keep the best so far, or take n where only n waits or its entry comes before
abbrev pub better : {K : Type 0} → Algebra K → Waiting K → Option ℕ → ℕ → Option ℕ
better a w None n = cond (is_some (w n)) (Some n) None
better a w (Some q) n = cond (ahead a (w n) (w q)) (Some n) (Some q)

-- the first of the least entries among the states below n
abbrev pub best_below : {K : Type 0} → Algebra K → Waiting K → ℕ → Option ℕ
best_below a w zero = None
best_below a w (suc n) = better a w (best_below a w n) n

abbrev pub flat_next : {K : Type 0} → Algebra K → List (Slot K) → Option ℕ
flat_next a xs = best_below a (slot_label xs) (room_of (length xs))

-- of the best entry so far and one more: the one that comes first, and the one so far where neither does
abbrev pub better_entry : {K : Type 0} → Algebra K → Option (Entry K) → Entry K → Entry K
better_entry a None e = e
better_entry a (Some b) e = cond (earlier a (label_of e) (label_of b)) e b

-- an entry stands in the first n slots, and none of theirs is earlier
pub record LeastBelow {K : Type 0} (a : Algebra K) (w : Waiting K) (n : ℕ) (e : Entry K) : Type 0 where
  pub below : e.state < n
  pub stands : w e.state ≡ Some (label_of e)
  pub least : (q : ℕ) (y : Label K) → q < n → w q ≡ Some y → earlier a y (label_of e) ≡ false

-- what a scan of the first n slots finds
abbrev pub Scanned : {K : Type 0} → Algebra K → Waiting K → ℕ → Option (Entry K) → Type 0
Scanned a w n None = ((q : ℕ) → q < n → w q ≡ None) × (best_below a w n ≡ None)
Scanned a w n (Some e) = LeastBelow a w n e × (best_below a w n ≡ Some e.state)
