-- Lists of variables and values: read back from where they were written, and written where they were read.
use Rattle.std.proofs.Common.{◌≡◌, ℕ, zero, suc, ◌+◌, ◌-◌, ◌*◌, ◌<◌, ◌≤◌, true, ◌&&◌, List, [], ◌∷◌, ◌++◌, length, get_or, drop, sym, refl, ap, ◌∙◌, append_assoc, add-zero, arith, length-append, length-drop}
use Rattle.std.specs.List.{flat_map}
use Rattle.std.proofs.lemmas.List.{length-take-le, get_or-take, get_or-drop}
use Rattle.std.proofs.lemmas.Bool.{and_parts, and_from, leb-true, le-leb, ltb-true, lt-ltb}
use Rattle.sheet_layout.specs.FiniteDomain.{Assignment, Assignments, ValidList, ValidAssignments, assignment_bytes, list_bytes, assignments_bytes, end_of_list, list_fits, present_pair, present_pairs, present_list, read_pairs, read_list, read_assignments, part, finite_domain_kind}
use Rattle.sheet_layout.specs.Numbers.{byte_at}
use Rattle.sheet_layout.proofs.Bytewise.{next, at_front, past}
use Rattle.sheet_layout.proofs.Framing.{Decodes}

-- the numbers of values in a sheet's head
abbrev pub counts_of : List ℕ → List ℕ
counts_of bs = part bs 9 (byte_at bs 6)

pub part_length : (bs : List ℕ) (p n : ℕ) → p + n ≤ length bs → length (part bs p n) ≡ n
part_length bs p n fits = length-take-le n (drop p bs) (simp length-drop (omega arith))

pub part_at : (bs : List ℕ) (p n i : ℕ) → i < n → get_or (part bs p n) i 0 ≡ byte_at bs (p + i)
part_at bs p n i h = get_or-take n (drop p bs) i 0 h ∙ get_or-drop p bs i 0

pub pairs_count : (bs : List ℕ) (n p : ℕ) → length (read_pairs bs n p) ≡ n
pairs_count bs zero p = refl
pairs_count bs (suc n) p = ap suc (pairs_count bs n (p + 2))

pub pairs_long : (xs : List Assignment) → length (flat_map assignment_bytes xs) ≡ 2 * length xs
pairs_long [] = refl
pairs_long (x ∷ xs) = let more = pairs_long xs in omega arith

-- a list of rising variables is no longer than there are variables
pub list_short : (counts : List ℕ) (least : ℕ) (xs : List Assignment) → ValidList counts least xs → length xs ≤ length counts - least
list_short counts least [] v = omega arith
list_short counts least (x ∷ xs) v =
    let more = list_short counts (x.variable + 1) xs v.3 in
    omega (arith, v.0, v.1)

pub assignments_short : (counts : List ℕ) → length counts ≤ 16 → (c : Assignments) → ValidAssignments counts c → length (assignments_bytes c) ≤ 66
assignments_short counts few c v =
    let a = list_short counts 0 c.preconditions v.preconditions in
    let b = list_short counts 0 c.effects v.effects in
    omega (arith, length-append (list_bytes c.preconditions) (list_bytes c.effects), pairs_long c.preconditions, pairs_long c.effects)

-- pairs written out as they are read
pub pairs_laid : (bs : List ℕ) (n p : ℕ) → p + 2 * n ≤ length bs → flat_map assignment_bytes (read_pairs bs n p) ++ drop (p + 2 * n) bs ≡ drop p bs
pairs_laid bs zero p fits = ap (λ i. drop i bs) (omega arith)
pairs_laid bs (suc n) p fits =
    let more = pairs_laid bs n (p + 2) (omega arith) in
    let rest : flat_map assignment_bytes (read_pairs bs n (p + 2)) ++ drop (p + 2 * suc n) bs ≡ drop (p + 2) bs =
    ap (λ i. flat_map assignment_bytes (read_pairs bs n (p + 2)) ++ drop i bs) (omega arith) ∙ more in
    ap (λ l. byte_at bs p ∷ byte_at bs (p + 1) ∷ l) rest
    ∙ ap (λ l. byte_at bs p ∷ l) (sym (next bs (p + 1) (p + 2) (omega arith) (omega arith)))
    ∙ sym (next bs p (p + 1) refl (omega arith))

pub list_laid : (bs : List ℕ) (p : ℕ) → p < length bs → end_of_list bs p ≤ length bs → list_bytes (read_list bs p) ++ drop (end_of_list bs p) bs ≡ drop p bs
list_laid bs p here fits =
    ap (λ n. n ∷ (flat_map assignment_bytes (read_list bs p) ++ drop (end_of_list bs p) bs)) (pairs_count bs (byte_at bs p) (p + 1))
    ∙ ap (λ l. byte_at bs p ∷ l) (pairs_laid bs (byte_at bs p) (p + 1) fits)
    ∙ sym (next bs p (p + 1) refl here)

-- pairs that pass their checks are valid
module _ (bs : List ℕ) (long : 9 + byte_at bs 6 ≤ length bs) where
  counted : length (counts_of bs) ≡ byte_at bs 6
  counted = part_length bs 9 (byte_at bs 6) long

  pub pairs_valid : (n p least : ℕ) → present_pairs bs n p least ≡ true → ValidList (counts_of bs) least (read_pairs bs n p)
  pairs_valid zero p least h = tt
  pairs_valid (suc n) p least h =
      let a = and_parts (present_pair bs p least) _ h in
      let b = and_parts _ _ a.0 in
      let c = and_parts _ _ b.1 in
      let low = ltb-true (byte_at bs p) (byte_at bs 6) c.0 in (
        leb-true _ _ b.0,
        omega (arith, counted, low),
        rw (part_at bs 9 (byte_at bs 6) (byte_at bs p) low) (ltb-true _ _ c.1),
        pairs_valid n (p + 2) (byte_at bs p + 1) a.1,
      )

  -- valid pairs that were written pass, and are read back
  pub pairs_back : (xs : List Assignment) (p least : ℕ) (rest : List ℕ) → ValidList (counts_of bs) least xs → drop p bs ≡ flat_map assignment_bytes xs ++ rest → (present_pairs bs (length xs) p least ≡ true) × (read_pairs bs (length xs) p ≡ xs)
  pairs_back [] p least rest v at = (refl, refl)
  pairs_back (x ∷ xs) p least rest v at =
      let variable : byte_at bs p ≡ x.variable = ap (byte_at bs) (sym (add-zero p)) ∙ at_front bs p (flat_map assignment_bytes (x ∷ xs)) rest at 0 in
      let value : byte_at bs (p + 1) ≡ x.value = at_front bs p (flat_map assignment_bytes (x ∷ xs)) rest at 1 in
      let low : byte_at bs p < byte_at bs 6 = omega (arith, variable, v.1, counted) in
      let count : get_or (counts_of bs) x.variable 0 ≡ byte_at bs (9 + byte_at bs p) = ap (λ i. get_or (counts_of bs) i 0) (sym variable) ∙ part_at bs 9 (byte_at bs 6) (byte_at bs p) low in
      let tail : drop (p + 2) bs ≡ flat_map assignment_bytes xs ++ rest = past bs p 2 (assignment_bytes x) (flat_map assignment_bytes xs ++ rest) at refl in
      let more = pairs_back xs (p + 2) (x.variable + 1) rest v.3 tail in (
        and_from (present_pair bs p least) _
            (and_from _ _ (le-leb least (byte_at bs p) (omega (arith, variable, v.0)))
            (and_from _ _ (lt-ltb (byte_at bs p) (byte_at bs 6) low) (lt-ltb (byte_at bs (p + 1)) (byte_at bs (9 + byte_at bs p)) (omega (arith, value, count, v.2)))))
            (ap (λ n. present_pairs bs (length xs) (p + 2) (n + 1)) variable ∙ more.0),
        (λ i. record { variable = variable i; value = value i } ∷ more.1 i),
      )

  pub list_back : (xs : List Assignment) (p end : ℕ) (rest : List ℕ) → ValidList (counts_of bs) 0 xs → drop p bs ≡ list_bytes xs ++ rest → p + length (list_bytes xs) ≤ end
      → (list_fits bs p end ≡ true) × (end_of_list bs p ≡ p + length (list_bytes xs)) × (present_list bs p ≡ true) × (read_list bs p ≡ xs) × (drop (end_of_list bs p) bs ≡ rest)
  list_back xs p end rest v at room =
      let count : byte_at bs p ≡ length xs = ap (byte_at bs) (sym (add-zero p)) ∙ at_front bs p (list_bytes xs) rest at 0 in
      let tail : drop (p + 1) bs ≡ flat_map assignment_bytes xs ++ rest = past bs p 1 (length xs ∷ []) (flat_map assignment_bytes xs ++ rest) at refl in
      let back = pairs_back xs (p + 1) 0 rest v tail in
      let wide = pairs_long xs in
      let ends : end_of_list bs p ≡ p + length (list_bytes xs) = omega (arith, count, wide) in
      let short = list_short (counts_of bs) 0 xs v in (
        and_from _ _ (lt-ltb p end (omega arith)) (and_from _ _ (le-leb (byte_at bs p) (byte_at bs 6) (omega (arith, count, short, counted))) (le-leb (end_of_list bs p) end (omega (arith, ends)))),
        ends,
        ap (λ n. present_pairs bs n (p + 1) 0) count ∙ back.0,
        ap (λ n. read_pairs bs n (p + 1)) count ∙ back.1,
        ap (λ i. drop i bs) ends ∙ past bs p (length (list_bytes xs)) (list_bytes xs) rest at refl,
      )

  pub assignments_decode : byte_at bs 6 ≤ 16 → Decodes finite_domain_kind assignments_bytes (ValidAssignments (counts_of bs)) read_assignments bs
  assignments_decode few = record {
    sound = λ p e fits ends inside present.
        let q = end_of_list bs p in
        let mid : q < e = ltb-true q e (and_parts _ _ (and_parts (list_fits bs p e) (list_fits bs q e) fits).1).0 in
        let g = and_parts (present_list bs p) (present_list bs q) present in
        let one = list_bytes (read_list bs p) in
        let two = list_bytes (read_list bs q) in
        let first = list_laid bs p (omega arith) (omega arith) in
        let second = list_laid bs q (omega arith) (omega arith) in (
          append_assoc one two (drop (end_of_list bs q) bs) ∙ ap (λ l. one ++ l) second ∙ first,
          record { preconditions = pairs_valid (byte_at bs p) (p + 1) 0 g.0; effects = pairs_valid (byte_at bs q) (q + 1) 0 g.1 },
          (
              let a = pairs_long (read_list bs p) in
              let b = pairs_long (read_list bs q) in
              omega (arith, length-append one two, pairs_count bs (byte_at bs p) (p + 1), pairs_count bs (byte_at bs q) (q + 1))
              ),
        );
    complete = λ p e c rest v at room.
        let one = list_bytes c.preconditions in
        let two = list_bytes c.effects in
        let q = end_of_list bs p in
        let long = length-append one two in
        let first = list_back c.preconditions p e (two ++ rest) v.preconditions (at ∙ append_assoc one two rest) (omega arith) in
        let second = list_back c.effects q e rest v.effects first.4 (omega (arith, first.1)) in (
          and_from _ _ first.0 second.0,
          omega (arith, second.1, first.1),
          and_from _ _ first.2 second.2,
          (λ i. record { preconditions = first.3 i; effects = second.3 i }),
        );
    short = assignments_short (counts_of bs) (omega (arith, counted));
  }

-- pairs one by one
pub present_on : (bs : List ℕ) (n i p least : ℕ) → i < n → present_pairs bs (n - i) (p + 2 * i) least ≡ (present_pair bs (p + 2 * i) least && present_pairs bs (n - (i + 1)) (p + 2 * (i + 1)) (byte_at bs (p + 2 * i) + 1))
present_on bs n i p least h =
    let e : n - i ≡ suc (n - (i + 1)) = omega arith in
    let f : p + 2 * i + 2 ≡ p + 2 * (i + 1) = omega arith in
    ap (λ m. present_pairs bs m (p + 2 * i) least) e ∙ ap (λ q. present_pair bs (p + 2 * i) least && present_pairs bs (n - (i + 1)) q (byte_at bs (p + 2 * i) + 1)) f

pub pairs_on : (bs : List ℕ) (n i p : ℕ) → i < n → read_pairs bs (n - i) (p + 2 * i) ≡ record { variable = byte_at bs (p + 2 * i); value = byte_at bs (p + 2 * i + 1) } ∷ read_pairs bs (n - (i + 1)) (p + 2 * (i + 1))
pairs_on bs n i p h =
    let e : n - i ≡ suc (n - (i + 1)) = omega arith in
    let f : p + 2 * i + 2 ≡ p + 2 * (i + 1) = omega arith in
    ap (λ m. read_pairs bs m (p + 2 * i)) e ∙ ap (λ q. record { variable = byte_at bs (p + 2 * i); value = byte_at bs (p + 2 * i + 1) } ∷ read_pairs bs (n - (i + 1)) q) f
