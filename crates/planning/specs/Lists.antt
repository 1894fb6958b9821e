-- What the calls of an open list do to its waiting entries, state by state.
use Rattle.std.specs.Prelude.{◌≡◌, ℕ, Bool, false, Some, None, Option, ◌≢◌}
use Rattle.planning.specs.declared.open_list.Entry.{Entry}
use Rattle.planning.specs.Costs.{Algebra}
use Rattle.planning.specs.Labels.{Label, earlier}

-- the waiting entry of each state, if it has one
abbrev pub Waiting : Type 0 → Type 0
Waiting K = ℕ → Option (Label K)

abbrev pub Emptied : {K : Type 0} → Waiting K → Type 0
Emptied w = (p : ℕ) → w p ≡ None

-- one state's entry becomes x, and every other state's is as before
pub record Changed {K : Type 0} (w w' : Waiting K) (p : ℕ) (x : Option (Label K)) : Type 0 where
  pub here : w' p ≡ x
  pub others : (q : ℕ) → (q ≢ p) → w' q ≡ w q

abbrev pub Put : {K : Type 0} → Waiting K → Waiting K → ℕ → K → Bool → Type 0
Put w w' p front tagged = Changed w w' p (Some (record { cost = front; tagged = tagged }))

-- p's entry is x, and no entry is earlier
pub record First {K : Type 0} (a : Algebra K) (w : Waiting K) (p : ℕ) (x : Label K) : Type 0 where
  pub waits : w p ≡ Some x
  pub least : (q : ℕ) (y : Label K) → w q ≡ Some y → earlier a y x ≡ false

abbrev pub label_of : {K : Type 0} → Entry K → Label K
label_of e = record { cost = e.front; tagged = e.tagged }

-- the answer of `least` and of `take`: none exactly when nothing waits, else the entry of the state that is next
abbrev pub Least : {K : Type 0} → Algebra K → Waiting K → Option ℕ → Option (Entry K) → Type 0
Least a w next None = Emptied w × (next ≡ None)
Least a w next (Some e) = First a w e.state (label_of e) × (next ≡ Some e.state)

abbrev pub Taken : {K : Type 0} → Waiting K → Waiting K → Option (Entry K) → Type 0
Taken w w' None = (p : ℕ) → w' p ≡ w p
Taken w w' (Some e) = Changed w w' e.state None
