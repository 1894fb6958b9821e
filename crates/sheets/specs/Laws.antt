-- The laws of the two kinds of sheet: from the checks of a sheet to its content.
use Rattle.std.proofs.Common.{◌≡◌, ℕ, ◌+◌, ◌*◌, List, [], length, take, None, sym, refl, ap, ◌∙◌, arith}
use Rattle.std.proofs.lemmas.List.{take_at}
use Rattle.std.specs.Prelude.{◌-◌, replicate}
use Rattle.planning.specs.Checks.{first_failing}
use Rattle.sheet_layout.specs.FiniteDomain.{FiniteDomainContent, product, finite_domain_kind, finite_domain_checks, read_assignments}
use Rattle.sheet_layout.specs.Frame.{head_of as head_length, length_of_head}
use Rattle.sheet_layout.specs.Numbers.{Bytes, byte_at, num16}
use Rattle.sheet_layout.specs.Strips.{StripsContent, strips_kind, strips_checks, read_masks}
use Rattle.sheet_layout.proofs.Assigning.{counts_of, part_length}
use Rattle.sheet_layout.proofs.FiniteDomainHeads.{size_passed, counts_told}
use Rattle.sheet_layout.proofs.FiniteDomainSheets.{start_of, goal_of, records_at, finite_domain_read, variables_head, sheet_passed, finite_domain_sound, finite_domain_complete}
use Rattle.sheet_layout.proofs.Framing.{actions_count}
use Rattle.sheet_layout.proofs.Opening.{opening_passed}
use Rattle.sheet_layout.proofs.StripsSheets.{strips_read, head_passed, strips_sound, strips_complete}
use Rattle.sheets.specs.FiniteDomainReading.{FiniteDomainSheet, FiniteDomainHeadOf, FiniteDomainHeadAt, padded, finite_domain_reading}
use Rattle.sheets.specs.Kinds.{ReadingLaws}
use Rattle.sheets.specs.Reading.{Sheet, strips_reading}
use Rattle.sheets.specs.declared.head.FiniteDomainHead.{FiniteDomainHead}

-- a fact sheet that passes is that of what is read from it
pub strips_passes : (bs : List ℕ) → Bytes bs → first_failing (strips_checks bs) ≡ None → Sheet bs (strips_read bs)
strips_passes bs small e = let h = strips_sound bs small e in record { valid = h.0; laid = h.1 }

strips_all : (bs : List ℕ) → Bytes bs → (c : StripsContent) → Sheet bs c → (first_failing (strips_checks bs) ≡ None) × (strips_read bs ≡ c)
strips_all bs small c h = strips_complete bs c small h.valid h.laid

pub strips_reading_laws : ReadingLaws strips_reading
strips_reading_laws = record {
  room = λ bs opened head.
      let opening = (opening_passed strips_kind bs [] opened).0 in
      let long : head_length bs ≡ 17 = ap (λ n. length_of_head n (byte_at bs 6)) opening.kind in
      omega (arith, opening.head, long);
  few_actions = λ bs head. (head_passed bs [] head).0.few_actions;
  counted = λ bs h at. at.actions;
  begun = λ bs h at. refl;
  sound = λ bs small ok h at. (
    strips_read bs,
    strips_passes bs small ok,
    record { facts = at.facts; actions = at.actions ∙ sym (actions_count strips_kind read_masks bs (num16 bs 7) 17); start = at.start; goal = at.goal },
  );
  complete = λ bs small c h. let told = strips_all bs small c h in (told.0, sym (ap (λ x. x.actions) told.1));
  unique = λ bs small c d hc hd. sym (strips_all bs small c hc).1 ∙ (strips_all bs small d hd).1;
}

pub padded_front : (xs : List ℕ) (n : ℕ) → length xs ≡ n → take n (padded xs) ≡ xs
padded_front xs n h = take_at xs (replicate (16 - length xs) 0) n h

-- a sheet of variables that passes is that of what is read from it
pub finite_domain_passes : (bs : List ℕ) → Bytes bs → first_failing (finite_domain_checks bs) ≡ None → FiniteDomainSheet bs (finite_domain_read bs)
finite_domain_passes bs small e = let h = finite_domain_sound bs small e in record { valid = h.0; laid = h.1 }

finite_domain_all : (bs : List ℕ) → Bytes bs → (c : FiniteDomainContent) → FiniteDomainSheet bs c → (first_failing (finite_domain_checks bs) ≡ None) × (finite_domain_read bs ≡ c)
finite_domain_all bs small c h = finite_domain_complete bs c small h.valid h.laid

pub head_of : (bs : List ℕ) (h : FiniteDomainHead) → first_failing (finite_domain_checks bs) ≡ None → FiniteDomainHeadAt bs h → FiniteDomainHeadOf h (finite_domain_read bs)
head_of bs h ok at =
    let d = byte_at bs 6 in
    let long = (sheet_passed bs ok).long in
    let counted : length (counts_of bs) ≡ d = part_length bs 9 d (omega arith) in
    record {
      variables = at.variables ∙ sym counted;
      actions = at.actions ∙ sym (actions_count finite_domain_kind read_assignments bs (num16 bs 7) (records_at bs));
      states = h.total ∙ ap product ((λ i. take (at.variables i) (at.counts i)) ∙ padded_front (counts_of bs) d counted);
      counts = at.counts;
      start = at.start;
      goal = at.goal;
    }

pub finite_domain_reading_laws : ReadingLaws finite_domain_reading
finite_domain_reading_laws = record {
  room = λ bs opened head.
      let opening = (opening_passed finite_domain_kind bs [] opened).0 in
      let size = size_passed (byte_at bs 6) (num16 bs 7) (counts_of bs) (start_of bs) (goal_of bs) head in
      omega (arith, opening.head, variables_head bs opening.kind size.0 size.1);
  few_actions = λ bs head. (counts_told (byte_at bs 6) (num16 bs 7) (counts_of bs) (start_of bs) (goal_of bs) head).few_actions;
  counted = λ bs h at. at.actions;
  begun = λ bs h at. ap (λ d. 9 + 3 * d) at.variables;
  sound = λ bs small ok h at. (finite_domain_read bs, finite_domain_passes bs small ok, head_of bs h ok at);
  complete = λ bs small c h. let told = finite_domain_all bs small c h in (told.0, sym (ap (λ x. x.actions) told.1));
  unique = λ bs small c d hc hd. sym (finite_domain_all bs small c hc).1 ∙ (finite_domain_all bs small d hd).1;
}
