-- Fact sheets: what reading one answers, and what it leaves in the caller's tables.
use Rattle.std.specs.Prelude.{◌≡◌, ℕ, List, length, Result}
use Rattle.planning.specs.declared.refusal.Refusal.{Refusal}
use Rattle.sheet_layout.specs.Frame.{Action}
use Rattle.sheet_layout.specs.Numbers.{byte_at, num16, num32}
use Rattle.sheet_layout.specs.Strips.{Masks, StripsContent, ValidStrips, strips_bytes, strips_kind, strips_head_checks, read_masks}
pub use Rattle.sheets.specs.Kinds.{Filled, Begins, priced, room_check}
use Rattle.sheets.specs.Kinds.{Reading, Checked, OneContent, ReadInto}
use Rattle.sheets.specs.declared.head.StripsHead.{StripsHead}
use Rattle.sheets.specs.declared.strips.StripsAction.{StripsAction}

-- the sheet is the layout of a valid content
pub record Sheet (bs : List ℕ) (c : StripsContent) : Type 0 where
  pub valid : ValidStrips c
  pub laid : strips_bytes c ≡ bs

-- a head that says what a content says
pub record HeadOf (h : StripsHead) (c : StripsContent) : Type 0 where
  pub facts : h.facts ≡ c.facts
  pub actions : h.actions ≡ length c.actions
  pub start : h.start ≡ c.start
  pub goal : h.goal ≡ c.goal

-- a head that holds what stands at the places of a sheet's head
pub record HeadAt (bs : List ℕ) (h : StripsHead) : Type 0 where
  pub facts : h.facts ≡ byte_at bs 6
  pub actions : h.actions ≡ num16 bs 7
  pub start : h.start ≡ num32 bs 9
  pub goal : h.goal ≡ num32 bs 13

-- what an action does, and what an action of a content is, in the tables
abbrev pub masked : Masks → StripsAction
masked m = record { preconditions = m.preconditions; adds = m.adds; deletes = m.deletes }

abbrev pub tabled : Action Masks → StripsAction
tabled x = masked x.does

-- what a fact sheet has of its own
abbrev pub strips_reading : Reading StripsHead StripsAction
strips_reading = record {
  Content = StripsContent;
  Does = Masks;
  kind = strips_kind;
  head_checks = strips_head_checks;
  first = λ bs. 17;
  HeadAt = HeadAt;
  count = λ h. h.actions;
  begins = λ h. 17;
  LaidOut = Sheet;
  HeadOf = HeadOf;
  actions = λ c. c.actions;
  does_at = read_masks;
  enters = masked;
  blank = record { preconditions = 0; adds = 0; deletes = 0 };
}

abbrev pub StripsChecked : List ℕ → Result StripsHead Refusal → Type 0
StripsChecked = Checked strips_reading

abbrev pub Unique : List ℕ → Type 0
Unique = OneContent strips_reading

abbrev pub StripsReadInto : List ℕ → List StripsAction → List ℕ → List StripsAction → List ℕ → Result StripsHead Refusal → Type 0
StripsReadInto = ReadInto strips_reading
