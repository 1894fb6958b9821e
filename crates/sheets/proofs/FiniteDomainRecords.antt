-- The record at the place of a number is that of the content's action of that number.
use Rattle.std.proofs.Common.{◌≡◌, ℕ, ◌+◌, ◌-◌, ◌*◌, ◌<◌, ◌≤◌, true, List, length, take, drop, None, Ok, sym, refl, ap, ◌∙◌, subst, arith}
use Rattle.std.specs.List.{flat_map}
use Rattle.std.proofs.lemmas.List.{take_at}
use Rattle.planning.specs.Checks.{first_failing}
use Rattle.sheet_layout.specs.FiniteDomain.{ValidAssignments, assignment_bytes, assignments_bytes, end_of_list, part, read_pairs, read_list, read_assignments, finite_domain_kind, finite_domain_checks}
use Rattle.sheet_layout.specs.Frame.{framed, record_bytes, record_end, record_place, actions_from, action_at}
use Rattle.sheet_layout.specs.Numbers.{Bytes, byte_at, num16}
use Rattle.sheet_layout.proofs.Assigning.{counts_of, part_length, pairs_count, pairs_long, pairs_laid, assignments_decode}
use Rattle.sheet_layout.proofs.FiniteDomainSheets.{records_at, finite_domain_read, sheet_passed}
use Rattle.sheet_layout.proofs.Framing.{framed_from, places_sound}
use Rattle.sheet_layout.proofs.Walking.{Walk, walk_start, walk_to, walk_passed, walk_item}
use Rattle.sheets.specs.FiniteDomainReading.{finite_domain_reading}
use Rattle.sheets.specs.Kinds.{Numbered}
use Rattle.sheets.specs.Laws.{finite_domain_passes}
use Rattle.sheets.specs.Records.{FiniteDomainAt, PartIs, FiniteDomainRecordOf, FiniteDomainNumbered}
use Rattle.sheets.specs.declared.record.FiniteDomainRecord.{FiniteDomainRecord}
use Rattle.sheets.specs.declared.record.Part.{Part}

-- the bytes of pairs are the pairs that are read there
pairs_part : (bs : List ℕ) (n p : ℕ) → p + 2 * n ≤ length bs → part bs p (2 * n) ≡ flat_map assignment_bytes (read_pairs bs n p)
pairs_part bs n p fits =
    let long : length (flat_map assignment_bytes (read_pairs bs n p)) ≡ 2 * n = pairs_long (read_pairs bs n p) ∙ ap (λ k. 2 * k) (pairs_count bs n p) in
    ap (take (2 * n)) (sym (pairs_laid bs n p fits)) ∙ take_at (flat_map assignment_bytes (read_pairs bs n p)) (drop (p + 2 * n) bs) (2 * n) long

-- a part with its place, from what it holds
part_is : (bs : List ℕ) (x : Part) (p q n : ℕ) (xs : List ℕ) → x.place ≡ p → p ≡ q → x.bytes.now ≡ part bs p n → part bs p n ≡ xs → length xs ≡ n → PartIs bs x q xs
part_is bs x p q n xs at same holds is long = record {
  place = at ∙ same;
  bytes = holds ∙ is;
  there = (λ i. part bs (sym same i) (long i)) ∙ is;
}

module _ (bs : List ℕ) (small : Bytes bs) (ok : first_failing (finite_domain_checks bs) ≡ None) (number : ℕ) (below : number < num16 bs 7) where
  at : ℕ
  at = record_place bs number (records_at bs)

  walked : Walk finite_domain_kind read_assignments bs (records_at bs) (num16 bs 7) number at
  unfolding at
  walked =
      let h = sheet_passed bs ok in
      walk_to finite_domain_kind read_assignments bs (records_at bs) (num16 bs 7) (walk_start finite_domain_kind read_assignments bs (records_at bs) (num16 bs 7) h.long h.records) number (omega arith)

  pub fits_there : framed finite_domain_kind bs (record_place bs number (records_at bs)) ≡ true
  unfolding at
  fits_there = framed_from finite_domain_kind bs at (walk_passed finite_domain_kind read_assignments bs (records_at bs) (num16 bs 7) number at walked below).0.frame

  pub record_there : (r : FiniteDomainRecord) → FiniteDomainAt bs (record_place bs number (records_at bs)) r → FiniteDomainRecordOf bs (finite_domain_read bs) number r
  unfolding at
  record_there r h =
      let frame = (walk_passed finite_domain_kind read_assignments bs (records_at bs) (num16 bs 7) number at walked below).0.frame in
      let passed = sheet_passed bs ok in
      let long = passed.long in
      let few = passed.head.few_variables in
      let p = at + 6 in
      let q = end_of_list bs p in
      let e = end_of_list bs q in
      let n = byte_at bs p in
      let m = byte_at bs q in
      let named = frame.named in
      let inside = frame.inside in
      let counted : length (counts_of bs) ≡ byte_at bs 6 = part_length bs 9 (byte_at bs 6) (omega arith) in
      let pre = read_list bs p in
      let eff = read_list bs q in
      let pre-count : length pre ≡ n = pairs_count bs n (p + 1) in
      let eff-count : length eff ≡ m = pairs_count bs m (q + 1) in
      let seven : at + 7 ≡ p + 1 = omega arith in
      let place = h.place in
      let pre-bytes : part bs (at + 7) (2 * n) ≡ flat_map assignment_bytes pre = ap (λ k. part bs k (2 * n)) seven ∙ pairs_part bs n (p + 1) (omega arith) in
      let eff-bytes : part bs (q + 1) (2 * m) ≡ flat_map assignment_bytes eff = pairs_part bs m (q + 1) (omega arith) in
      let pre-long : length (flat_map assignment_bytes pre) ≡ 2 * n = pairs_long pre ∙ ap (λ k. 2 * k) pre-count in
      let eff-long : length (flat_map assignment_bytes eff) ≡ 2 * m = pairs_long eff ∙ ap (λ k. 2 * k) eff-count in
      record {
        action = action_at finite_domain_kind read_assignments bs at;
        later = actions_from finite_domain_kind read_assignments bs (num16 bs 7 - (number + 1)) (record_end bs at);
        numbered = walk_item finite_domain_kind read_assignments bs (records_at bs) (num16 bs 7) number at walked below;
        place = place
            ∙ places_sound finite_domain_kind assignments_bytes (ValidAssignments (counts_of bs)) read_assignments bs small (assignments_decode bs (omega arith) few) number (num16 bs 7) (records_at bs) long (omega arith) passed.records
            ∙ ap (λ k. 9 + 3 * k + length (flat_map (record_bytes assignments_bytes) (take number (finite_domain_read bs).actions))) (sym counted);
        coins = h.coins;
        preconditions = part_is bs r.preconditions (at + 7) (r.place + 7) (2 * n) (flat_map assignment_bytes pre) h.preconditions_place (omega (arith, place)) h.preconditions pre-bytes pre-long;
        effects = part_is bs r.effects (q + 1) (r.place + 8 + 2 * length pre) (2 * m) (flat_map assignment_bytes eff) h.effects_place (omega (arith, place, pre-count)) h.effects eff-bytes eff-long;
        name = part_is bs r.name e (r.place + 8 + 2 * length pre + 2 * length eff) (record_end bs at - e) (part bs e (record_end bs at - e)) h.name_place (omega (arith, place, pre-count, eff-count)) h.name refl (part_length bs e (record_end bs at - e) (omega arith));
      }

-- what stands at the place of a number is the record of that number
pub numbered : (bs : List ℕ) → Bytes bs → (number place : ℕ) → Numbered finite_domain_reading bs number (Ok place) → (r : FiniteDomainRecord) → FiniteDomainAt bs place r → FiniteDomainNumbered bs number (Ok r)
numbered bs small number place told r h =
    (finite_domain_read bs, finite_domain_passes bs small told.0, record_there bs small told.0 number told.1 r (subst (λ p. FiniteDomainAt bs p r) told.2 h))
