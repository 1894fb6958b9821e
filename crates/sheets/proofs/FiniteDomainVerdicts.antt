-- From the checks of a sheet of variables to its content.
use Rattle.std.proofs.Common.{◌≡◌, ℕ, ◌+◌, ◌-◌, ◌*◌, ◌<◌, ◌≤◌, min, true, false, cond, ◌&&◌, ltb, leb, List, [], length, get_or, take, replicate, Some, None, Ok, Err, Result, sym, ap, ◌∙◌, subst, ⊎_elim, arith}
use Rattle.std.proofs.lemmas.List.{ext_get_or, length-append, length-replicate, get_or_append_left, get_or-append_right, get_or-replicate}
use Rattle.std.proofs.lemmas.Bool.{cases_Bool, cases_lt, and_parts, leb-true, lt-ltb, le-ltb, cond-true, cond-false}
use Rattle.planning.specs.declared.refusal.Refusal.{Refusal}
use Rattle.planning.specs.Checks.{first_failing}
use Rattle.planning.specs.Outcomes.{Answers}
use Rattle.planning.proofs.Rows.{fail}
use Rattle.sheet_layout.specs.FiniteDomain.{FiniteDomainContent, finite_domain_kind, finite_domain_head, finite_domain_head_checks, finite_domain_checks, part}
use Rattle.sheet_layout.specs.Frame.{opening_checks}
use Rattle.sheet_layout.specs.Numbers.{Bytes, byte_at, num16}
use Rattle.sheet_layout.proofs.Assigning.{counts_of, part_length, part_at}
use Rattle.sheet_layout.proofs.FiniteDomainHeads.{size_passed}
use Rattle.sheet_layout.proofs.FiniteDomainSheets.{start_of, goal_of, records_at, variables_head}
use Rattle.sheet_layout.proofs.Opening.{opening_passed}
use Rattle.sheets.specs.FiniteDomainReading.{FiniteDomainSheet, FiniteDomainHeadAt, padded, finite_domain_reading}
use Rattle.sheets.specs.Laws.{finite_domain_reading_laws}
pub use Rattle.sheets.specs.Laws.{padded_front}
use Rattle.sheets.specs.declared.head.FiniteDomainHead.{FiniteDomainHead}
use Rattle.sheets.proofs.Readings as variables

-- sixteen numbers that are those of a part, and 0 behind it
pub record Sixteen (bs : List ℕ) (p n : ℕ) (xs : List ℕ) : Type 0 where
  pub long : length xs ≡ 16
  pub each : (k : ℕ) → get_or xs k 0 ≡ cond (ltb k (min n 16)) (byte_at bs (p + k)) 0

pub sixteen_is : (bs : List ℕ) (p n : ℕ) (xs : List ℕ) → Sixteen bs p n xs → n ≤ 16 → p + n ≤ length bs → xs ≡ padded (part bs p n)
sixteen_is bs p n xs h few fits =
    let counted = part_length bs p n fits in
    let long : length (padded (part bs p n)) ≡ 16 = length-append (part bs p n) (replicate (16 - length (part bs p n)) 0) ∙ omega (arith, counted, length-replicate {A = ℕ} (16 - length (part bs p n)) 0) in
    ext_get_or 0 xs (padded (part bs p n)) (h.long ∙ sym long) (λ i lt. h.each i ∙ place i (omega (arith, lt, h.long)))
  where
    place : (i : ℕ) → i < 16 → cond (ltb i (min n 16)) (byte_at bs (p + i)) 0 ≡ get_or (padded (part bs p n)) i 0
    place i lt =
        let counted = part_length bs p n fits in
        ⊎_elim
        (λ (low : i < n).
        cond-true (ltb i (min n 16)) _ 0 (lt-ltb i (min n 16) (omega arith))
        ∙ sym (part_at bs p n i low)
        ∙ sym (get_or_append_left (part bs p n) (replicate (16 - length (part bs p n)) 0) 0 i (omega arith)))
        (λ (high : n ≤ i).
        cond-false (ltb i (min n 16)) (byte_at bs (p + i)) 0 (le-ltb i (min n 16) (omega arith))
        ∙ sym (get_or-append_right (part bs p n) (replicate (16 - length (part bs p n)) 0) n i 0 counted high ∙ get_or-replicate (16 - length (part bs p n)) (i - n) 0 0 (omega arith)))
        (cases_lt i n)

-- the three lists of a head, as they are copied from a sheet
pub record Copied (bs : List ℕ) (d : ℕ) (ns vs gs : List ℕ) : Type 0 where
  pub counts : Sixteen bs 9 d ns
  pub start : Sixteen bs (9 + d) d vs
  pub goal : Sixteen bs (9 + 2 * d) d gs

-- what they are where the number of variables is in range
pub record Lists (bs ns vs gs : List ℕ) : Type 0 where
  pub counts : ns ≡ padded (counts_of bs)
  pub start : vs ≡ padded (start_of bs)
  pub goal : gs ≡ padded (goal_of bs)
  pub long : records_at bs ≤ length bs

module _ (bs : List ℕ) (opened : first_failing (opening_checks finite_domain_kind bs) ≡ None) (ns vs gs : List ℕ) where
  lists_are : Copied bs (byte_at bs 6) ns vs gs → 1 ≤ byte_at bs 6 → byte_at bs 6 ≤ 16 → Lists bs ns vs gs
  lists_are copied some few =
      let opening = (opening_passed finite_domain_kind bs [] opened).0 in
      let long : records_at bs ≤ length bs = omega (arith, opening.head, variables_head bs opening.kind some few) in
      record {
        counts = sixteen_is bs 9 (byte_at bs 6) ns copied.counts few (omega arith);
        start = sixteen_is bs (9 + byte_at bs 6) (byte_at bs 6) vs copied.start few (omega arith);
        goal = sixteen_is bs (9 + 2 * byte_at bs 6) (byte_at bs 6) gs copied.goal few (omega arith);
        long = long;
      }

  -- a head of sixteens, checked, is the sheet's head, checked
  here_same : Copied bs (byte_at bs 6) ns vs gs → first_failing (finite_domain_head_checks bs) ≡ first_failing (finite_domain_head (byte_at bs 6) (num16 bs 7) (take (byte_at bs 6) ns) (take (byte_at bs 6) vs) (take (byte_at bs 6) gs))
  here_same copied =
      let d = byte_at bs 6 in
      ⊎_elim
      (λ (ok : (leb 1 d && leb d 16) ≡ true).
      let size = and_parts (leb 1 d) (leb d 16) ok in
      let are = lists_are copied (leb-true 1 d size.0) (leb-true d 16 size.1) in
      let long = are.long in
      let a : take d ns ≡ counts_of bs = ap (take d) are.counts ∙ padded_front (counts_of bs) d (part_length bs 9 d (omega arith)) in
      let b : take d vs ≡ start_of bs = ap (take d) are.start ∙ padded_front (start_of bs) d (part_length bs (9 + d) d (omega arith)) in
      let c : take d gs ≡ goal_of bs = ap (take d) are.goal ∙ padded_front (goal_of bs) d (part_length bs (9 + 2 * d) d (omega arith)) in
      sym (λ i. first_failing (finite_domain_head d (num16 bs 7) (a i) (b i) (c i))))
      (λ (bad : (leb 1 d && leb d 16) ≡ false). fail (leb 1 d && leb d 16) _ _ bad ∙ sym (fail (leb 1 d && leb d 16) _ _ bad))
      (cases_Bool (leb 1 d && leb d 16))

  module _ (d m : ℕ) (size : d ≡ byte_at bs 6) (count : m ≡ num16 bs 7) (copied : Copied bs d ns vs gs) where
    pub head_same : first_failing (finite_domain_head_checks bs) ≡ first_failing (finite_domain_head d m (take d ns) (take d vs) (take d gs))
    head_same =
        here_same (subst (λ n. Copied bs n ns vs gs) size copied)
        ∙ sym (λ i. first_failing (finite_domain_head (size i) (count i) (take (size i) ns) (take (size i) vs) (take (size i) gs)))

    -- what `new` answers on them is the sheet's head, or the first check of the head that fails
    pub head_read : (x : Result FiniteDomainHead Refusal) → Answers (first_failing (finite_domain_head d m (take d ns) (take d vs) (take d gs))) (λ h. (h.variables ≡ d) × (h.actions ≡ m) × (h.counts ≡ ns) × (h.start ≡ vs) × (h.goal ≡ gs)) x
        → Answers (first_failing (finite_domain_head_checks bs)) (FiniteDomainHeadAt bs) x
    head_read (Err e) a = head_same ∙ a
    head_read (Ok h) a =
        let in-range = size_passed d m (take d ns) (take d vs) (take d gs) a.0 in
        let lists = lists_are (subst (λ n. Copied bs n ns vs gs) size copied) (omega (arith, size, in-range.0)) (omega (arith, size, in-range.1)) in
        let is = a.1 in (
          head_same ∙ a.0,
          record {
            variables = is.0 ∙ size;
            actions = is.1 ∙ count;
            counts = is.2 ∙ lists.counts;
            start = is.3 ∙ lists.start;
            goal = is.4 ∙ lists.goal;
          },
        )

pub no_content : (bs : List ℕ) (e : Refusal) → Bytes bs → first_failing (finite_domain_checks bs) ≡ Some e → (c : FiniteDomainContent) → FiniteDomainSheet bs c → ⊥
no_content bs e small = variables.no_content finite_domain_reading finite_domain_reading_laws bs small e
