-- Sheets of variables: the checks pass exactly for the sheets of valid contents.
use Rattle.std.proofs.Common.{◌≡◌, ℕ, ◌+◌, ◌*◌, ◌≤◌, List, ◌++◌, length, take, drop, None, sym, refl, ap, ◌∙◌, subst, append_assoc, arith, length-append, take-append-drop}
use Rattle.std.specs.List.{flat_map, AllByRecursion}
use Rattle.std.proofs.lemmas.List.{drop-drop, take_at}
use Rattle.std.proofs.lemmas.Bool.{and_from, le-leb, cond-true}
use Rattle.planning.specs.Checks.{first_failing}
use Rattle.planning.proofs.Rows.{after, front}
use Rattle.sheet_layout.specs.Frame.{ValidAction, record_bytes, records_checks, head_of, length_of_head, sheet_bytes, actions_from}
use Rattle.sheet_layout.specs.Numbers.{Bytes, byte_at, num16}
use Rattle.sheet_layout.specs.FiniteDomain.{FiniteDomainContent, ValidAssignments, ValidFiniteDomain, assignments_bytes, finite_domain_bytes, finite_domain_kind, finite_domain_head, finite_domain_head_checks, finite_domain_checks, read_assignments, part}
use Rattle.sheet_layout.proofs.Assigning.{counts_of, part_length, assignments_short, assignments_decode}
use Rattle.sheet_layout.proofs.Bytewise.{past}
use Rattle.sheet_layout.proofs.FiniteDomainHeads.{HeadPassed, size_passed, head_passed, head_pass, each_length}
use Rattle.sheet_layout.proofs.Framing.{records_sound, records_complete}
use Rattle.sheet_layout.proofs.Opening.{OpeningPassed, opening_passed, opening_pass, opening_written, whole, records_short}

-- where the records begin
abbrev pub records_at : List ℕ → ℕ
records_at bs = 9 + 3 * byte_at bs 6

-- the start and the goal in a sheet's head
abbrev pub start_of : List ℕ → List ℕ
start_of bs = part bs (9 + byte_at bs 6) (byte_at bs 6)

abbrev pub goal_of : List ℕ → List ℕ
goal_of bs = part bs (9 + 2 * byte_at bs 6) (byte_at bs 6)

-- what a sheet of variables says, read by its places
abbrev pub finite_domain_read : List ℕ → FiniteDomainContent
finite_domain_read bs = record {
  counts = counts_of bs;
  start = start_of bs;
  goal = goal_of bs;
  actions = actions_from finite_domain_kind read_assignments bs (num16 bs 7) (records_at bs);
}

part_laid : (bs : List ℕ) (p n q : ℕ) → p + n ≡ q → part bs p n ++ drop q bs ≡ drop p bs
part_laid bs p n q e = ap (λ l. part bs p n ++ l) (ap (λ i. drop i bs) (sym e) ∙ sym (drop-drop n p bs)) ∙ take-append-drop n (drop p bs)

part-written : (bs : List ℕ) (p n : ℕ) (xs rest : List ℕ) → drop p bs ≡ xs ++ rest → length xs ≡ n → part bs p n ≡ xs
part-written bs p n xs rest e h = ap (take n) e ∙ take_at xs rest n h

-- a head of variables is 9 bytes and three for each
pub variables_head : (bs : List ℕ) → byte_at bs 5 ≡ 2 → 1 ≤ byte_at bs 6 → byte_at bs 6 ≤ 16 → head_of bs ≡ records_at bs
variables_head bs e some few =
    ap (λ n. length_of_head n (byte_at bs 6)) e ∙ cond-true _ (9 + 3 * byte_at bs 6) 9 (and_from _ _ (le-leb _ _ some) (le-leb _ _ few))

-- what passing says of the head, and that the records pass
pub record SheetPassed (bs : List ℕ) : Type 0 where
  pub opening : OpeningPassed finite_domain_kind bs
  pub long : records_at bs ≤ length bs
  pub head : HeadPassed (byte_at bs 6) (num16 bs 7) (counts_of bs) (start_of bs) (goal_of bs)
  pub records : first_failing (records_checks finite_domain_kind bs (num16 bs 7) (records_at bs)) ≡ None

pub sheet_passed : (bs : List ℕ) → first_failing (finite_domain_checks bs) ≡ None → SheetPassed bs
sheet_passed bs h =
    let d = byte_at bs 6 in
    let records = records_checks finite_domain_kind bs (num16 bs 7) (records_at bs) in
    let o = opening_passed finite_domain_kind bs (finite_domain_head_checks bs ++ records) h in
    let head = front (finite_domain_head_checks bs) records o.1 in
    let size = size_passed d (num16 bs 7) (counts_of bs) (start_of bs) (goal_of bs) head in
    let long : records_at bs ≤ length bs = omega (arith, o.0.head, variables_head bs o.0.kind size.0 size.1) in
    let a = part_length bs 9 d (omega arith) in
    let b = part_length bs (9 + d) d (omega arith) in
    let c = part_length bs (9 + 2 * d) d (omega arith) in
    record {
      opening = o.0;
      long = long;
      head = head_passed d (num16 bs 7) (counts_of bs) (start_of bs) (goal_of bs) (b ∙ sym a) (c ∙ sym a) head;
      records = sym (after (finite_domain_head_checks bs) records head) ∙ o.1;
    }

-- what passes is the sheet of a valid content
pub finite_domain_sound : (bs : List ℕ) → Bytes bs → first_failing (finite_domain_checks bs) ≡ None → ValidFiniteDomain (finite_domain_read bs) × (finite_domain_bytes (finite_domain_read bs) ≡ bs)
finite_domain_sound bs small h =
    let d = byte_at bs 6 in
    let s = sheet_passed bs h in
    let long = s.long in
    let head = s.head in
    let c = finite_domain_read bs in
    let counted : length (counts_of bs) ≡ d = part_length bs 9 d (omega arith) in
    let three = counts_of bs ++ (start_of bs ++ goal_of bs) in
    let wide : length three ≡ 3 * d = length-append (counts_of bs) (start_of bs ++ goal_of bs) ∙ omega (arith, counted, length-append (start_of bs) (goal_of bs), part_length bs (9 + d) d (omega arith), part_length bs (9 + 2 * d) d (omega arith)) in
    let recs = records_sound finite_domain_kind assignments_bytes (ValidAssignments (counts_of bs)) read_assignments bs small (assignments_decode bs (omega arith) head.few_variables) (num16 bs 7) (records_at bs) long s.records in
    let ends : 9 + length three ≡ records_at bs = omega arith in
    let headed : three ++ drop (9 + length three) bs ≡ drop 9 bs =
    ap (λ i. three ++ drop i bs) ends
    ∙ append_assoc (counts_of bs) (start_of bs ++ goal_of bs) (drop (records_at bs) bs)
    ∙ ap (λ l. counts_of bs ++ l) (append_assoc (start_of bs) (goal_of bs) (drop (records_at bs) bs) ∙ ap (λ l. start_of bs ++ l) (part_laid bs (9 + 2 * d) d (records_at bs) (omega arith)) ∙ part_laid bs (9 + d) d (9 + 2 * d) (omega arith))
    ∙ part_laid bs 9 d (9 + d) refl in (
      record {
        some_variable = omega (arith, counted, head.some_variable);
        few_variables = omega (arith, counted, head.few_variables);
        counts = head.counts;
        few_states = head.few_states;
        start = head.start;
        goal = head.goal;
        some_action = omega (arith, recs.2, head.some_action);
        few_actions = omega (arith, recs.2, head.few_actions);
        each = recs.1;
      },
      ap (λ n. sheet_bytes assignments_bytes 2 n three c.actions) counted
          ∙ ap (λ n. sheet_bytes assignments_bytes n d three c.actions) (sym s.opening.kind)
          ∙ whole assignments_bytes bs three c.actions small (omega arith) s.opening.stated s.opening.version (sym recs.2) headed (recs.0 ∙ ap (λ i. drop i bs) (sym ends)),
    )

-- the sheet of a valid content passes, and is read back
pub finite_domain_complete : (bs : List ℕ) (c : FiniteDomainContent) → Bytes bs → ValidFiniteDomain c → finite_domain_bytes c ≡ bs → (first_failing (finite_domain_checks bs) ≡ None) × (finite_domain_read bs ≡ c)
finite_domain_complete bs c small v e =
    let d = byte_at bs 6 in
    let recs = flat_map (record_bytes assignments_bytes) c.actions in
    let three = c.counts ++ (c.start ++ c.goal) in
    let starts : length c.start ≡ length c.counts = each_length _ c.start c.counts v.start in
    let goals : length c.goal ≡ length c.counts = each_length _ c.goal c.counts v.goal in
    let wide : length three ≡ 3 * length c.counts = length-append c.counts (c.start ++ c.goal) ∙ omega (arith, length-append c.start c.goal, starts, goals) in
    let variables = v.few_variables in
    let few = v.few_actions in
    let short : length recs ≤ 104 * length c.actions = records_short assignments_bytes (ValidAssignments c.counts) (assignments_short c.counts variables) c.actions v.each in
    let o = opening_written bs (9 + length three + length recs) 2 (length c.counts) (length c.actions) (three ++ recs) (omega arith) (omega arith) (sym e) in
    let size : length c.counts ≡ d = sym o.size in
    let long : length bs ≡ records_at bs + length recs = sym (ap length e) ∙ simp length-append (omega (arith, wide, size)) in
    let nine : drop 9 bs ≡ c.counts ++ (c.start ++ (c.goal ++ recs)) = o.rest ∙ append_assoc c.counts (c.start ++ c.goal) recs ∙ ap (λ l. c.counts ++ l) (append_assoc c.start c.goal recs) in
    let later : drop (9 + d) bs ≡ c.start ++ (c.goal ++ recs) = past bs 9 d c.counts (c.start ++ (c.goal ++ recs)) nine size in
    let last : drop (9 + 2 * d) bs ≡ c.goal ++ recs = ap (λ i. drop i bs) (omega arith) ∙ past bs (9 + d) d c.start (c.goal ++ recs) later (starts ∙ size) in
    let body : drop (records_at bs) bs ≡ recs = ap (λ i. drop i bs) (omega arith) ∙ past bs (9 + 2 * d) d c.goal recs last (goals ∙ size) in
    let counts : counts_of bs ≡ c.counts = part-written bs 9 d c.counts (c.start ++ (c.goal ++ recs)) nine size in
    let start : start_of bs ≡ c.start = part-written bs (9 + d) d c.start (c.goal ++ recs) later (starts ∙ size) in
    let goal : goal_of bs ≡ c.goal = part-written bs (9 + 2 * d) d c.goal recs last (goals ∙ size) in
    let each = subst (λ ns. AllByRecursion (ValidAction (ValidAssignments ns)) c.actions) (sym counts) v.each in
    let told = records_complete finite_domain_kind assignments_bytes (ValidAssignments (counts_of bs)) read_assignments bs small (assignments_decode bs (omega arith) (omega arith)) c.actions (records_at bs) (omega arith) each body in
    let records = records_checks finite_domain_kind bs (num16 bs 7) (records_at bs) in
    let some : 1 ≤ d = omega (arith, v.some_variable) in
    let opening : OpeningPassed finite_domain_kind bs = record {
      long = omega arith;
      short = omega arith;
      stated = o.total ∙ omega arith;
      head = omega (arith, variables_head bs o.kind some (omega arith));
      version = o.version;
      kind = o.kind;
    } in
    let head : HeadPassed (length c.counts) (length c.actions) c.counts c.start c.goal = record {
      some_variable = v.some_variable;
      few_variables = v.few_variables;
      some_action = v.some_action;
      few_actions = v.few_actions;
      counts = v.counts;
      few_states = v.few_states;
      start = v.start;
      goal = v.goal;
    } in
    let same : finite_domain_head_checks bs ≡ finite_domain_head (length c.counts) (length c.actions) c.counts c.start c.goal =
    λ i. finite_domain_head (o.size i) (o.count i) (counts i) (start i) (goal i) in (
      opening_pass finite_domain_kind bs (finite_domain_head_checks bs ++ records) opening
          ∙ after (finite_domain_head_checks bs) records (ap first_failing same ∙ head_pass _ _ _ _ _ head)
          ∙ ap (λ n. first_failing (records_checks finite_domain_kind bs n (records_at bs))) o.count
          ∙ told.0,
      (λ i. record { counts = counts i; start = start i; goal = goal i; actions = (ap (λ n. actions_from finite_domain_kind read_assignments bs n (records_at bs)) o.count ∙ told.1) i }),
    )
