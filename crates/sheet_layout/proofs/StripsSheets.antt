-- Fact sheets: the checks pass exactly for the sheets of valid contents.
use Rattle.std.proofs.Common.{◌≡◌, ℕ, ◌+◌, ◌^◌, ◌<◌, ◌≤◌, true, List, ◌++◌, length, drop, None, sym, refl, ap, ◌∙◌, subst, append_assoc, arith, length-append, pow_mono}
use Rattle.std.specs.List.{flat_map, AllByRecursion}
use Rattle.std.proofs.lemmas.Bool.{and_parts, and_from, leb-true, le-leb, ltb-true, lt-ltb}
use Rattle.planning.specs.Checks.{Check, first_failing}
use Rattle.sheet_layout.specs.Frame.{ValidAction, record_bytes, records_checks, head_of, length_of_head, sheet_bytes, actions_from}
use Rattle.sheet_layout.specs.Numbers.{Bytes, be32, byte_at, num16, num32}
use Rattle.sheet_layout.specs.Strips.{Masks, StripsContent, ValidMasks, ValidStrips, masks_bytes, strips_bytes, present_mask, strips_kind, strips_head_checks, strips_checks, read_masks}
use Rattle.sheet_layout.proofs.Bytewise.{read32, written32, past}
use Rattle.sheet_layout.proofs.Framing.{Decodes, records_sound, records_complete}
use Rattle.sheet_layout.proofs.Opening.{OpeningPassed, opening_passed, opening_pass, opening_written, whole, records_short}
use Rattle.planning.proofs.Rows.{passed, pass}

-- what a fact sheet says, read by its places
abbrev pub strips_read : List ℕ → StripsContent
strips_read bs = record {
  facts = byte_at bs 6;
  start = num32 bs 9;
  goal = num32 bs 13;
  actions = actions_from strips_kind read_masks bs (num16 bs 7) 17;
}

-- three numbers in a row
read96 : (bs : List ℕ) (p : ℕ) → Bytes bs → p + 12 ≤ length bs → masks_bytes (read_masks bs p) ++ drop (p + 12) bs ≡ drop p bs
read96 bs p small fits =
    let a = be32 (num32 bs p) in
    let b = be32 (num32 bs (p + 4)) in
    let c = be32 (num32 bs (p + 8)) in
    append_assoc a (b ++ c) (drop (p + 12) bs)
    ∙ ap (λ l. a ++ l) (append_assoc b c (drop (p + 12) bs))
    ∙ ap (λ l. a ++ (b ++ l)) (ap (λ i. c ++ drop i bs) (omega arith) ∙ read32 bs (p + 8) small (omega arith))
    ∙ ap (λ l. a ++ l) (ap (λ i. b ++ drop i bs) (omega arith) ∙ read32 bs (p + 4) small (omega arith))
    ∙ read32 bs p small (omega arith)

narrow : (m facts : ℕ) → m < 2 ^ facts → facts ≤ 16 → m < 4294967296
narrow m facts h few = let le : 2 ^ facts ≤ 2 ^ 16 = pow_mono few in omega arith

module _ (bs : List ℕ) (m : Masks) (p : ℕ) (rest : List ℕ) (v : ValidMasks (byte_at bs 6) m) (few : byte_at bs 6 ≤ 16) (at : drop p bs ≡ masks_bytes m ++ rest) where
  rest_a : List ℕ
  rest_a = be32 m.adds ++ (be32 m.deletes ++ rest)

  place_a : drop p bs ≡ be32 m.preconditions ++ rest_a
  unfolding rest_a
  place_a = at ∙ simp append_assoc

  place_b : drop (p + 4) bs ≡ rest_a
  place_b = past bs p 4 (be32 m.preconditions) rest_a place_a refl

  place_c : drop (p + 8) bs ≡ be32 m.deletes ++ rest
  unfolding rest_a
  place_c = ap (λ i. drop i bs) (omega arith) ∙ past bs (p + 4) 4 (be32 m.adds) (be32 m.deletes ++ rest) place_b refl

  is_a : num32 bs p ≡ m.preconditions
  is_a = written32 bs p m.preconditions rest_a (narrow _ _ v.preconditions few) place_a

  is_b : num32 bs (p + 4) ≡ m.adds
  unfolding rest_a
  is_b = written32 bs (p + 4) m.adds (be32 m.deletes ++ rest) (narrow _ _ v.adds few) place_b

  is_c : num32 bs (p + 8) ≡ m.deletes
  is_c = written32 bs (p + 8) m.deletes rest (narrow _ _ v.deletes few) place_c

  masks_back : (strips_kind.present bs p ≡ true) × (read_masks bs p ≡ m)
  masks_back = (
    and_from _ _ (present p _ is_a v.preconditions) (and_from _ _ (present (p + 4) _ is_b v.adds) (present (p + 8) _ is_c v.deletes)),
    (λ i. record { preconditions = is_a i; adds = is_b i; deletes = is_c i }),
  )
    where
      present : (q n : ℕ) → num32 bs q ≡ n → n < 2 ^ byte_at bs 6 → present_mask bs q ≡ true
      present q n e h = lt-ltb (num32 bs q) (2 ^ byte_at bs 6) (rw e h)

pub masks_decode : (bs : List ℕ) → Bytes bs → byte_at bs 6 ≤ 16 → Decodes strips_kind masks_bytes (ValidMasks (byte_at bs 6)) read_masks bs
masks_decode bs small few = record {
  sound = λ p e fits ends inside present.
      let a = and_parts _ _ present in
      let b = and_parts _ _ a.1 in (
        read96 bs p small (omega arith),
        record { preconditions = ltb-true _ _ a.0; adds = ltb-true _ _ b.0; deletes = ltb-true _ _ b.1 },
        refl,
      );
  complete = λ p e m rest v at room. let back = masks_back bs m p rest v few at in (refl, refl, back.0, back.1);
  short = λ m v. omega arith;
}

-- the checks of the rest of the head, passed
pub record HeadPassed (bs : List ℕ) : Type 0 where
  pub some_fact : 1 ≤ byte_at bs 6
  pub few_facts : byte_at bs 6 ≤ 16
  pub some_action : 1 ≤ num16 bs 7
  pub few_actions : num16 bs 7 ≤ 512
  pub start : num32 bs 9 < 2 ^ byte_at bs 6
  pub goal : num32 bs 13 < 2 ^ byte_at bs 6

pub head_passed : (bs : List ℕ) (rest : List Check) → first_failing (strips_head_checks bs ++ rest) ≡ None → HeadPassed bs × (first_failing rest ≡ None)
head_passed bs rest h =
    let a = passed _ _ _ h in
    let b = passed _ _ _ a.1 in
    let c = passed _ _ _ b.1 in
    let d = passed _ _ _ c.1 in
    let facts = and_parts _ _ a.0 in
    let count = and_parts _ _ b.0 in (
      record {
        some_fact = leb-true _ _ facts.0;
        few_facts = leb-true _ _ facts.1;
        some_action = leb-true _ _ count.0;
        few_actions = leb-true _ _ count.1;
        start = ltb-true _ _ c.0;
        goal = ltb-true _ _ d.0;
      },
      d.1,
    )

pub head_pass : (bs : List ℕ) (rest : List Check) → HeadPassed bs → first_failing (strips_head_checks bs ++ rest) ≡ first_failing rest
head_pass bs rest h =
    pass _ _ _ (and_from _ _ (le-leb _ _ h.some_fact) (le-leb _ _ h.few_facts))
    ∙ pass _ _ _ (and_from _ _ (le-leb _ _ h.some_action) (le-leb _ _ h.few_actions))
    ∙ pass _ _ _ (lt-ltb _ _ h.start)
    ∙ pass _ _ _ (lt-ltb _ _ h.goal)

-- a head of facts is 17 bytes
facts_head : (bs : List ℕ) → byte_at bs 5 ≡ 1 → head_of bs ≡ 17
facts_head bs e = ap (λ n. length_of_head n (byte_at bs 6)) e

-- where a sheet passes, its head is whole and its records pass
pub to_records : (bs : List ℕ) → first_failing (strips_checks bs) ≡ None → (17 ≤ length bs) × (first_failing (records_checks strips_kind bs (num16 bs 7) 17) ≡ None)
to_records bs h =
    let records = records_checks strips_kind bs (num16 bs 7) 17 in
    let o = opening_passed strips_kind bs (strips_head_checks bs ++ records) h in
    (omega (arith, o.0.head, facts_head bs o.0.kind), (head_passed bs records o.1).1)

-- what passes is the sheet of a valid content
pub strips_sound : (bs : List ℕ) → Bytes bs → first_failing (strips_checks bs) ≡ None → ValidStrips (strips_read bs) × (strips_bytes (strips_read bs) ≡ bs)
strips_sound bs small h =
    let records = records_checks strips_kind bs (num16 bs 7) 17 in
    let o = opening_passed strips_kind bs (strips_head_checks bs ++ records) h in
    let p = head_passed bs records o.1 in
    let opening = o.0 in
    let head = p.0 in
    let long : 17 ≤ length bs = omega (arith, opening.head, facts_head bs opening.kind) in
    let recs = records_sound strips_kind masks_bytes (ValidMasks (byte_at bs 6)) read_masks bs small (masks_decode bs small head.few_facts) (num16 bs 7) 17 long p.1 in
    let two = be32 (num32 bs 9) ++ be32 (num32 bs 13) in
    let headed : two ++ drop 17 bs ≡ drop 9 bs =
    append_assoc (be32 (num32 bs 9)) (be32 (num32 bs 13)) (drop 17 bs) ∙ ap (λ l. be32 (num32 bs 9) ++ l) (read32 bs 13 small (omega arith)) ∙ read32 bs 9 small (omega arith) in (
      record {
        some_fact = head.some_fact;
        few_facts = head.few_facts;
        start = head.start;
        goal = head.goal;
        some_action = omega (arith, recs.2, head.some_action);
        few_actions = omega (arith, recs.2, head.few_actions);
        each = recs.1;
      },
      ap (λ n. sheet_bytes masks_bytes n (byte_at bs 6) two (strips_read bs).actions) (sym opening.kind)
          ∙ whole masks_bytes bs two (strips_read bs).actions small long opening.stated opening.version (sym recs.2) headed recs.0,
    )

-- the sheet of a valid content passes, and is read back
pub strips_complete : (bs : List ℕ) (c : StripsContent) → Bytes bs → ValidStrips c → strips_bytes c ≡ bs → (first_failing (strips_checks bs) ≡ None) × (strips_read bs ≡ c)
strips_complete bs c small v e =
    let two = be32 c.start ++ be32 c.goal in
    let recs = flat_map (record_bytes masks_bytes) c.actions in
    let short = records_short masks_bytes (ValidMasks c.facts) (λ m w. omega arith) c.actions v.each in
    let few = v.few_actions in
    let o = opening_written bs (9 + length two + length recs) 1 c.facts (length c.actions) (two ++ recs) (omega arith) (omega arith) (sym e) in
    let long : length bs ≡ 17 + length recs = sym (ap length e) ∙ simp length-append (omega arith) in
    let nine : drop 9 bs ≡ be32 c.start ++ (be32 c.goal ++ recs) = o.rest ∙ append_assoc (be32 c.start) (be32 c.goal) recs in
    let thirteen : drop 13 bs ≡ be32 c.goal ++ recs = past bs 9 4 (be32 c.start) (be32 c.goal ++ recs) nine refl in
    let seventeen : drop 17 bs ≡ recs = past bs 13 4 (be32 c.goal) recs thirteen refl in
    let start : num32 bs 9 ≡ c.start = written32 bs 9 c.start (be32 c.goal ++ recs) (narrow _ _ v.start v.few_facts) nine in
    let goal : num32 bs 13 ≡ c.goal = written32 bs 13 c.goal recs (narrow _ _ v.goal v.few_facts) thirteen in
    let facts = o.size in
    let each = subst (λ f. AllByRecursion (ValidAction (ValidMasks f)) c.actions) (sym facts) v.each in
    let told = records_complete strips_kind masks_bytes (ValidMasks (byte_at bs 6)) read_masks bs small (masks_decode bs small (omega (arith, facts, v.few_facts))) c.actions 17 (omega (arith, long)) each seventeen in
    let records = records_checks strips_kind bs (num16 bs 7) 17 in
    let opening : OpeningPassed strips_kind bs = record {
      long = omega (arith, long);
      short = omega (arith, long, short, v.few_actions);
      stated = o.total ∙ omega (arith, long);
      head = omega (arith, long, facts_head bs o.kind);
      version = o.version;
      kind = o.kind;
    } in
    let head : HeadPassed bs = record {
      some_fact = omega (arith, facts, v.some_fact);
      few_facts = omega (arith, facts, v.few_facts);
      some_action = omega (arith, o.count, v.some_action);
      few_actions = omega (arith, o.count, v.few_actions);
      start = rw (start, facts) v.start;
      goal = rw (goal, facts) v.goal;
    } in (
      opening_pass strips_kind bs (strips_head_checks bs ++ records) opening
          ∙ head_pass bs records head
          ∙ ap (λ n. first_failing (records_checks strips_kind bs n 17)) o.count
          ∙ told.0,
      (λ i. record { facts = facts i; start = start i; goal = goal i; actions = (ap (λ n. actions_from strips_kind read_masks bs n 17) o.count ∙ told.1) i }),
    )
