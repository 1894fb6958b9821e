-- Fact sheets: a STRIPS task, byte by byte.
--
-- Byte 6 is the number of facts, bytes 9 to 12 the mask of the start, 13 to 16 the mask of the goal.
-- What an action needs and does is three masks: preconditions, add effects, delete effects.
use Rattle.std.specs.Prelude.{ℕ, ◌+◌, ◌^◌, ◌<◌, ◌≤◌, Bool, true, ◌&&◌, List, [], ◌∷◌, ◌++◌, length, nat_le, nat_lt}
use Rattle.std.specs.List.{AllByRecursion}
use Rattle.planning.specs.declared.refusal.Refusal.TheVariants.{Count, StartOrGoal}
use Rattle.planning.specs.Checks.{Check}
use Rattle.sheet_layout.specs.Frame.{Action, ValidAction, KindOf, sheet_bytes, opening_checks, actions_check, records_checks}
use Rattle.sheet_layout.specs.Numbers.{be32, byte_at, num16, num32}

-- sets of facts, bit i for fact i
pub record Masks : Type 0 where
  pub preconditions : ℕ
  pub adds : ℕ
  pub deletes : ℕ

-- what a fact sheet says
pub record StripsContent : Type 0 where
  pub facts : ℕ
  pub start : ℕ
  pub goal : ℕ
  pub actions : List (Action Masks)

-- the masks name only facts that are there
pub record ValidMasks (facts : ℕ) (m : Masks) : Type 0 where
  pub preconditions : m.preconditions < 2 ^ facts
  pub adds : m.adds < 2 ^ facts
  pub deletes : m.deletes < 2 ^ facts

pub record ValidStrips (c : StripsContent) : Type 0 where
  pub some_fact : 1 ≤ c.facts
  pub few_facts : c.facts ≤ 16
  pub start : c.start < 2 ^ c.facts
  pub goal : c.goal < 2 ^ c.facts
  pub some_action : 1 ≤ length c.actions
  pub few_actions : length c.actions ≤ 512
  pub each : AllByRecursion (ValidAction (ValidMasks c.facts)) c.actions

abbrev pub masks_bytes : Masks → List ℕ
masks_bytes m = be32 m.preconditions ++ (be32 m.adds ++ be32 m.deletes)

-- the sheet of a content
abbrev pub strips_bytes : StripsContent → List ℕ
strips_bytes c = sheet_bytes masks_bytes 1 c.facts (be32 c.start ++ be32 c.goal) c.actions

-- the masks that stand from a place on
abbrev pub read_masks : List ℕ → ℕ → Masks
read_masks bs p = record { preconditions = num32 bs p; adds = num32 bs (p + 4); deletes = num32 bs (p + 8) }

-- a mask that names only facts of the sheet
abbrev pub present_mask : List ℕ → ℕ → Bool
present_mask bs p = nat_lt (num32 bs p) (2 ^ byte_at bs 6)

abbrev pub strips_kind : KindOf
strips_kind = record {
  code = 1;
  fits = λ bs p end. true;
  ending = λ bs p. p + 12;
  present = λ bs p. present_mask bs p && (present_mask bs (p + 4) && present_mask bs (p + 8));
}

-- the checks of the counts, the start and the goal
abbrev pub strips_head : ℕ → ℕ → ℕ → ℕ → List Check
strips_head facts actions start goal =
    record { passes = nat_le 1 facts && nat_le facts 16; refusal = Count 6 }
    ∷ actions_check actions
    ∷ record { passes = nat_lt start (2 ^ facts); refusal = StartOrGoal 9 }
    ∷ record { passes = nat_lt goal (2 ^ facts); refusal = StartOrGoal 13 }
    ∷ []

abbrev pub strips_head_checks : List ℕ → List Check
strips_head_checks bs = strips_head (byte_at bs 6) (num16 bs 7) (num32 bs 9) (num32 bs 13)

-- the checks of a fact sheet, in their order
abbrev pub strips_checks : List ℕ → List Check
strips_checks bs = opening_checks strips_kind bs ++ (strips_head_checks bs ++ records_checks strips_kind bs (num16 bs 7) 17)
