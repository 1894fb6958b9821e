-- What both kinds of sheet share: the opening, the frame of a record, and the order of the checks.
--
-- byte 0 is the version, 1; bytes 1 to 4 are the length of the whole sheet; byte 5 is the kind;
-- byte 6 is the number of facts or variables; bytes 7 and 8 are the number of actions; then come
-- the rest of the head and a record for each action. A record is the length of what follows it,
-- a price, the preconditions and effects, and a name.
use Rattle.std.specs.Prelude.{ℕ, zero, suc, ◌+◌, ◌-◌, ◌*◌, ◌≤◌, Bool, cond, ◌&&◌, List, [], ◌∷◌, ◌++◌, length, take, drop, ◌==◌, nat_le}
use Rattle.std.specs.List.{flat_map}
use Rattle.planning.specs.declared.refusal.Refusal.TheVariants.{Length, Version, Kind, Count, Frame, Price, Names}
use Rattle.planning.specs.Checks.{Check}
use Rattle.sheet_layout.specs.Numbers.{Bytes, be16, be32, byte_at, num16, num32}

-- an action of a sheet: its price, its preconditions and effects, its name
pub record Action (C : Type 0) : Type 0 where
  pub coins : ℕ
  pub does : C
  pub name : List ℕ

pub record ValidAction {C : Type 0} (Valid : C → Type 0) (x : Action C) : Type 0 where
  pub cheap : x.coins ≤ 1000000
  pub does : Valid x.does
  pub named : 1 ≤ length x.name
  pub short : length x.name ≤ 32
  pub bytes : Bytes x.name

-- the record of an action, where `layout` lays out what it needs and does
abbrev pub record_bytes : {C : Type 0} → (C → List ℕ) → Action C → List ℕ
record_bytes layout x = be16 (4 + length (layout x.does) + length x.name) ++ (be32 x.coins ++ (layout x.does ++ x.name))

-- a whole sheet: kind, number of facts or variables, rest of the head, actions
abbrev pub sheet_bytes : {C : Type 0} → (C → List ℕ) → ℕ → ℕ → List ℕ → List (Action C) → List ℕ
sheet_bytes layout kind size head actions =
    1 ∷ (be32 (9 + length head + length (flat_map (record_bytes layout) actions)) ++ (kind ∷ size ∷ (be16 (length actions) ++ (head ++ flat_map (record_bytes layout) actions))))

-- the length of the head by its kind and its number of facts or variables:
-- 17 for facts, 9 and three bytes for each variable, and 9 where either is unknown
abbrev pub length_of_head : ℕ → ℕ → ℕ
length_of_head kind size = cond (kind == 1) 17 (cond (kind == 2 && (nat_le 1 size && nat_le size 16)) (9 + 3 * size) 9)

abbrev pub head_of : List ℕ → ℕ
head_of bs = length_of_head (byte_at bs 5) (byte_at bs 6)

-- what the kinds of sheet do differently: the kind byte, and of the preconditions and effects that
-- begin at a place and lie before an end: whether their lists are short enough and lie before the end,
-- where the last ends, and whether they name only what is there
pub record KindOf : Type 0 where
  pub code : ℕ
  pub fits : List ℕ → ℕ → ℕ → Bool
  pub ending : List ℕ → ℕ → ℕ
  pub present : List ℕ → ℕ → Bool

-- the end of the record at p, by its length
abbrev pub record_end : List ℕ → ℕ → ℕ
record_end bs p = p + 2 + num16 bs p

-- the place of the record that comes n records after the one at p
abbrev pub record_place : List ℕ → ℕ → ℕ → ℕ
record_place bs zero p = p
record_place bs (suc n) p = record_place bs n (record_end bs p)

-- the record at p lies in the sheet, its lists lie in the record, and its name has 1 to 32 bytes
abbrev pub framed : KindOf → List ℕ → ℕ → Bool
framed k bs p =
    nat_le (p + 6) (record_end bs p)
    && (nat_le (record_end bs p) (length bs)
    && (k.fits bs (p + 6) (record_end bs p) && (nat_le (k.ending bs (p + 6) + 1) (record_end bs p) && nat_le (record_end bs p) (k.ending bs (p + 6) + 32))))

abbrev pub record_checks : KindOf → List ℕ → ℕ → List Check
record_checks k bs p =
    record { passes = framed k bs p; refusal = Frame p }
    ∷ record { passes = nat_le (num32 bs (p + 2)) 1000000; refusal = Price p }
    ∷ record { passes = k.present bs (p + 6); refusal = Names p }
    ∷ []

-- n records from p on, one after the other, and then nothing
abbrev pub records_checks : KindOf → List ℕ → ℕ → ℕ → List Check
records_checks k bs zero p = record { passes = nat_le (length bs) p; refusal = Frame p } ∷ []
records_checks k bs (suc n) p = record_checks k bs p ++ records_checks k bs n (record_end bs p)

-- the opening of a sheet, for a call that reads one kind
abbrev pub opening_checks : KindOf → List ℕ → List Check
opening_checks k bs =
    record {
      passes = nat_le 9 (length bs) && (nat_le (length bs) 65536 && (num32 bs 1 == length bs && nat_le (head_of bs) (length bs)));
      refusal = Length (length bs);
    }
    ∷ record { passes = (byte_at bs 0 == 1); refusal = Version }
    ∷ record { passes = (byte_at bs 5 == k.code); refusal = Kind }
    ∷ []

abbrev pub actions_check : ℕ → Check
actions_check actions = record { passes = nat_le 1 actions && nat_le actions 512; refusal = Count 7 }

-- the action whose record stands at p
abbrev pub action_at : {C : Type 0} → KindOf → (List ℕ → ℕ → C) → List ℕ → ℕ → Action C
action_at k read bs p = record {
  coins = num32 bs (p + 2);
  does = read bs (p + 6);
  name = take (record_end bs p - k.ending bs (p + 6)) (drop (k.ending bs (p + 6)) bs);
}

-- n actions, from the record at p on
abbrev pub actions_from : {C : Type 0} → KindOf → (List ℕ → ℕ → C) → List ℕ → ℕ → ℕ → List (Action C)
actions_from k read bs zero p = []
actions_from k read bs (suc n) p = action_at k read bs p ∷ actions_from k read bs n (record_end bs p)
