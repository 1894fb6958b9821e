-- From the checks of a fact sheet to its records.
use Rattle.std.proofs.Common.{◌≡◌, ℕ, ◌+◌, ◌-◌, ◌<◌, true, List, length, take, drop, Some, None, Ok, sym, ap, ◌∙◌, subst, arith, length-drop, length-take}
use Rattle.planning.specs.declared.refusal.Refusal.{Refusal}
use Rattle.planning.specs.Checks.{first_failing}
use Rattle.sheet_layout.specs.Frame.{framed, record_end, record_place, actions_from, action_at}
use Rattle.sheet_layout.specs.Numbers.{Bytes, byte_at, num16, num32}
use Rattle.sheet_layout.specs.Strips.{StripsContent, ValidMasks, masks_bytes, strips_kind, strips_checks, read_masks}
use Rattle.sheet_layout.proofs.Framing.{framed_from, places_sound, actions_count}
use Rattle.sheet_layout.proofs.StripsSheets.{strips_read, masks_decode, to_records, strips_sound}
use Rattle.sheet_layout.proofs.Walking.{Walk, walk_start, walk_to, walk_passed, walk_item}
use Rattle.sheets.specs.Kinds.{Numbered}
use Rattle.sheets.specs.Laws.{strips_passes, strips_reading_laws}
use Rattle.sheets.specs.Reading.{Sheet, HeadAt, HeadOf, strips_reading}
use Rattle.sheets.specs.Records.{StripsAt, StripsRecordOf, StripsNumbered}
use Rattle.sheets.specs.declared.head.StripsHead.{StripsHead}
use Rattle.sheets.specs.declared.record.StripsRecord.{StripsRecord}
use Rattle.sheets.proofs.Readings as facts

pub head_of : (bs : List ℕ) (h : StripsHead) → HeadAt bs h → HeadOf h (strips_read bs)
head_of bs h at = record { facts = at.facts; actions = at.actions ∙ sym (actions_count strips_kind read_masks bs (num16 bs 7) 17); start = at.start; goal = at.goal }

pub no_content : (bs : List ℕ) (e : Refusal) → Bytes bs → first_failing (strips_checks bs) ≡ Some e → (c : StripsContent) → Sheet bs c → ⊥
no_content bs e small = facts.no_content strips_reading strips_reading_laws bs small e

-- the record at the place of a number is that of the content's action of that number
module _ (bs : List ℕ) (small : Bytes bs) (ok : first_failing (strips_checks bs) ≡ None) (number : ℕ) (below : number < num16 bs 7) where
  at : ℕ
  at = record_place bs number 17

  walked : Walk strips_kind read_masks bs 17 (num16 bs 7) number at
  unfolding at
  walked =
      let h = to_records bs ok in
      walk_to strips_kind read_masks bs 17 (num16 bs 7) (walk_start strips_kind read_masks bs 17 (num16 bs 7) h.0 h.1) number (omega arith)

  pub fits_there : framed strips_kind bs (record_place bs number 17) ≡ true
  unfolding at
  fits_there = framed_from strips_kind bs at (walk_passed strips_kind read_masks bs 17 (num16 bs 7) number at walked below).0.frame

  pub record_there : (r : StripsRecord) → StripsAt bs (record_place bs number 17) r → StripsRecordOf bs (strips_read bs) number r
  unfolding at
  record_there r h =
      let frame = (walk_passed strips_kind read_masks bs 17 (num16 bs 7) number at walked below).0.frame in
      let parts = to_records bs ok in
      let few = (strips_sound bs small ok).0.few_facts in
      let q : at + 6 + 12 ≡ at + 18 = omega arith in
      let named : r.name.bytes.now ≡ (action_at strips_kind read_masks bs at).name = h.name ∙ ap (λ n. take (record_end bs at - n) (drop n bs)) (sym q) in
      let long : length (action_at strips_kind read_masks bs at).name ≡ record_end bs at - (at + 18) = length-take (record_end bs at - (at + 6 + 12)) (drop (at + 6 + 12) bs) ∙ simp length-drop (omega (arith, frame.inside)) in
      record {
        action = action_at strips_kind read_masks bs at;
        later = actions_from strips_kind read_masks bs (num16 bs 7 - (number + 1)) (record_end bs at);
        numbered = walk_item strips_kind read_masks bs 17 (num16 bs 7) number at walked below;
        place = h.place ∙ places_sound strips_kind masks_bytes (ValidMasks (byte_at bs 6)) read_masks bs small (masks_decode bs small few) number (num16 bs 7) 17 parts.0 (omega arith) parts.1;
        coins = h.coins;
        preconditions = (h.preconditions.0 ∙ ap (λ n. n + 6) (sym h.place), h.preconditions.1);
        adds = (h.adds.0 ∙ ap (λ n. n + 10) (sym h.place), h.adds.1 ∙ ap (num32 bs) (omega arith));
        deletes = (h.deletes.0 ∙ ap (λ n. n + 14) (sym h.place), h.deletes.1 ∙ ap (num32 bs) (omega arith));
        name_place = h.name_place ∙ ap (λ n. n + 18) (sym h.place);
        name = named;
        part = ap (λ n. take n (drop r.name.place bs)) long ∙ ap (λ n. take (record_end bs at - (at + 18)) (drop n bs)) h.name_place ∙ sym h.name ∙ named;
      }

-- what stands at the place of a number is the record of that number
pub numbered : (bs : List ℕ) → Bytes bs → (number place : ℕ) → Numbered strips_reading bs number (Ok place) → (r : StripsRecord) → StripsAt bs place r → StripsNumbered bs number (Ok r)
numbered bs small number place told r h =
    (strips_read bs, strips_passes bs small told.0, record_there bs small told.0 number told.1 r (subst (λ p. StripsAt bs p r) told.2 h))
