-- What a record asked for by number is.
use Rattle.std.specs.Prelude.{◌≡◌, ℕ, ◌+◌, ◌-◌, ◌*◌, cond, List, [], ◌∷◌, ◌++◌, length, take, drop, Some, Ok, Err, Result, ◌==◌}
use Rattle.std.specs.List.{flat_map}
use Rattle.planning.specs.declared.refusal.Refusal.{Refusal}
use Rattle.planning.specs.Checks.{Check, first_failing}
use Rattle.sheet_layout.specs.Frame.{Action, record_bytes, record_end}
use Rattle.sheet_layout.specs.FiniteDomain.{Assignments, FiniteDomainContent, assignment_bytes, assignments_bytes, end_of_list, part, finite_domain_checks}
use Rattle.sheet_layout.specs.Numbers.{byte_at, num16, num32}
use Rattle.sheet_layout.specs.Strips.{Masks, StripsContent, masks_bytes, strips_checks}
use Rattle.sheets.specs.declared.record.Mask.{Mask}
use Rattle.sheets.specs.declared.record.StripsRecord.{StripsRecord}
use Rattle.sheets.specs.declared.record.SheetRecord.{SheetRecord}
use Rattle.sheets.specs.declared.record.SheetRecord.TheVariants.{Strips, FiniteDomain}
use Rattle.sheets.specs.declared.record.Part.{Part}
use Rattle.sheets.specs.declared.record.FiniteDomainRecord.{FiniteDomainRecord}
use Rattle.sheets.specs.declared.sheet.SheetHead.{SheetHead}
use Rattle.sheets.specs.declared.sheet.SheetHead.TheVariants.{Strips as StripsSheet, FiniteDomain as VariablesSheet}
use Rattle.sheets.specs.FiniteDomainReading.{FiniteDomainSheet, FiniteDomainHeadOf}
use Rattle.sheets.specs.Kinds.{number_check}
use Rattle.sheets.specs.Reading.{Sheet, HeadOf}

-- a set of facts at a place
abbrev pub mask_is : Mask → ℕ → ℕ → Type 0
mask_is m place facts = (m.place ≡ place) × (m.facts ≡ facts)

-- the record that stands at a place of a sheet
pub record StripsAt (bs : List ℕ) (p : ℕ) (r : StripsRecord) : Type 0 where
  pub place : r.place ≡ p
  pub coins : r.coins ≡ num32 bs (p + 2)
  pub preconditions : mask_is r.preconditions (p + 6) (num32 bs (p + 6))
  pub adds : mask_is r.adds (p + 10) (num32 bs (p + 10))
  pub deletes : mask_is r.deletes (p + 14) (num32 bs (p + 14))
  pub name_place : r.name.place ≡ p + 18
  pub name : r.name.bytes.now ≡ take (record_end bs p - (p + 18)) (drop (p + 18) bs)

-- the record of a content's action by its number: it begins where the records before it end, and each
-- part stands at the place given
pub record StripsRecordOf (bs : List ℕ) (c : StripsContent) (number : ℕ) (r : StripsRecord) : Type 0 where
  pub action : Action Masks
  pub later : List (Action Masks)
  pub numbered : drop number c.actions ≡ action ∷ later
  pub place : r.place ≡ 17 + length (flat_map (record_bytes masks_bytes) (take number c.actions))
  pub coins : r.coins ≡ action.coins
  pub preconditions : mask_is r.preconditions (r.place + 6) action.does.preconditions
  pub adds : mask_is r.adds (r.place + 10) action.does.adds
  pub deletes : mask_is r.deletes (r.place + 14) action.does.deletes
  pub name_place : r.name.place ≡ r.place + 18
  pub name : r.name.bytes.now ≡ action.name
  pub part : take (length action.name) (drop r.name.place bs) ≡ action.name

-- a record of a fact sheet by its number
abbrev pub StripsNumbered : List ℕ → ℕ → Result StripsRecord Refusal → Type 0
StripsNumbered bs number (Ok r) = (c : StripsContent) × Sheet bs c × StripsRecordOf bs c number r
StripsNumbered bs number (Err e) = first_failing (strips_checks bs ++ (number_check (num16 bs 7) number ∷ [])) ≡ Some e

-- the record that stands at a place of a sheet of variables
pub record FiniteDomainAt (bs : List ℕ) (p : ℕ) (r : FiniteDomainRecord) : Type 0 where
  pub place : r.place ≡ p
  pub coins : r.coins ≡ num32 bs (p + 2)
  pub preconditions_place : r.preconditions.place ≡ p + 7
  pub preconditions : r.preconditions.bytes.now ≡ part bs (p + 7) (2 * byte_at bs (p + 6))
  pub effects_place : r.effects.place ≡ end_of_list bs (p + 6) + 1
  pub effects : r.effects.bytes.now ≡ part bs (end_of_list bs (p + 6) + 1) (2 * byte_at bs (end_of_list bs (p + 6)))
  pub name_place : r.name.place ≡ end_of_list bs (end_of_list bs (p + 6))
  pub name : r.name.bytes.now ≡ part bs (end_of_list bs (end_of_list bs (p + 6))) (record_end bs p - end_of_list bs (end_of_list bs (p + 6)))

-- a part of a sheet: its place, and the bytes that stand there
pub record PartIs (bs : List ℕ) (x : Part) (q : ℕ) (xs : List ℕ) : Type 0 where
  pub place : x.place ≡ q
  pub bytes : x.bytes.now ≡ xs
  pub there : part bs q (length xs) ≡ xs

-- the record of a content's action by its number: it begins where the records before it end, and each
-- part stands at the place given
pub record FiniteDomainRecordOf (bs : List ℕ) (c : FiniteDomainContent) (number : ℕ) (r : FiniteDomainRecord) : Type 0 where
  pub action : Action Assignments
  pub later : List (Action Assignments)
  pub numbered : drop number c.actions ≡ action ∷ later
  pub place : r.place ≡ 9 + 3 * length c.counts + length (flat_map (record_bytes assignments_bytes) (take number c.actions))
  pub coins : r.coins ≡ action.coins
  pub preconditions : PartIs bs r.preconditions (r.place + 7) (flat_map assignment_bytes action.does.preconditions)
  pub effects : PartIs bs r.effects (r.place + 8 + 2 * length action.does.preconditions) (flat_map assignment_bytes action.does.effects)
  pub name : PartIs bs r.name (r.place + 8 + 2 * length action.does.preconditions + 2 * length action.does.effects) action.name

-- a record of a sheet of variables by its number
abbrev pub FiniteDomainNumbered : List ℕ → ℕ → Result FiniteDomainRecord Refusal → Type 0
FiniteDomainNumbered bs number (Ok r) = (c : FiniteDomainContent) × FiniteDomainSheet bs c × FiniteDomainRecordOf bs c number r
FiniteDomainNumbered bs number (Err e) = first_failing (finite_domain_checks bs ++ (number_check (num16 bs 7) number ∷ [])) ≡ Some e

-- the checks of a sheet by its kind byte: 2 for variables; any other sheet is checked as one of facts,
-- so that an unknown kind is refused as such
abbrev pub sheet_checks : List ℕ → List Check
sheet_checks bs = cond (byte_at bs 5 == 2) (finite_domain_checks bs) (strips_checks bs)

-- a record of a sheet of either kind by its number
abbrev pub RecordAnswer : List ℕ → ℕ → Result SheetRecord Refusal → Type 0
RecordAnswer bs number (Ok (Strips r)) = (c : StripsContent) × Sheet bs c × StripsRecordOf bs c number r
RecordAnswer bs number (Ok (FiniteDomain r)) = (c : FiniteDomainContent) × FiniteDomainSheet bs c × FiniteDomainRecordOf bs c number r
RecordAnswer bs number (Err e) = first_failing (sheet_checks bs ++ (number_check (num16 bs 7) number ∷ [])) ≡ Some e

-- the head of a sheet of either kind; refused where it is the layout of no valid content
abbrev pub HeadAnswer : List ℕ → Result SheetHead Refusal → Type 0
HeadAnswer bs (Ok (StripsSheet h)) = (c : StripsContent) × Sheet bs c × HeadOf h c
HeadAnswer bs (Ok (VariablesSheet h)) = (c : FiniteDomainContent) × FiniteDomainSheet bs c × FiniteDomainHeadOf h c
HeadAnswer bs (Err e) =
    (first_failing (sheet_checks bs) ≡ Some e) × ((c : StripsContent) → Sheet bs c → ⊥) × ((c : FiniteDomainContent) → FiniteDomainSheet bs c → ⊥)
