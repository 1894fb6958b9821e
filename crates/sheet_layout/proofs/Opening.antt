-- The opening of a sheet, and the whole sheet around its head and records.
use Rattle.std.proofs.Common.{◌≡◌, ℕ, ◌+◌, ◌*◌, ◌<◌, ◌≤◌, List, [], ◌∷◌, ◌++◌, length, get_or, drop, None, sym, refl, ap, ◌∙◌, arith, length-append, length-drop}
use Rattle.std.specs.List.{flat_map, AllByRecursion}
use Rattle.std.proofs.lemmas.Bool.{and_parts, and_from, leb-true, le-leb, eqb-true, eq-eqb}
use Rattle.planning.specs.Checks.{Check, first_failing}
use Rattle.sheet_layout.specs.Frame.{Action, ValidAction, KindOf, record_bytes, sheet_bytes, head_of, opening_checks}
use Rattle.sheet_layout.specs.Numbers.{Bytes, be16, be32, byte_at, num16, num32}
use Rattle.sheet_layout.proofs.Bytewise.{read16, read32, written16, written32, next}
use Rattle.planning.proofs.Rows.{passed, pass}

-- the opening, written out from what is read
pub opening_read : (bs : List ℕ) → Bytes bs → 9 ≤ length bs → byte_at bs 0 ∷ (be32 (num32 bs 1) ++ (byte_at bs 5 ∷ byte_at bs 6 ∷ (be16 (num16 bs 7) ++ drop 9 bs))) ≡ bs
opening_read bs small long =
    ap (λ l. byte_at bs 0 ∷ (be32 (num32 bs 1) ++ (byte_at bs 5 ∷ byte_at bs 6 ∷ l))) (read16 bs 7 small (omega arith))
    ∙ ap (λ l. byte_at bs 0 ∷ (be32 (num32 bs 1) ++ (byte_at bs 5 ∷ l))) (sym (next bs 6 7 refl (omega arith)))
    ∙ ap (λ l. byte_at bs 0 ∷ (be32 (num32 bs 1) ++ l)) (sym (next bs 5 6 refl (omega arith)))
    ∙ ap (λ l. byte_at bs 0 ∷ l) (read32 bs 1 small (omega arith))
    ∙ sym (next bs 0 1 refl (omega arith))

-- what the opening's numbers are where it was written
pub record Opened (bs : List ℕ) (t k s c : ℕ) (r : List ℕ) : Type 0 where
  pub version : byte_at bs 0 ≡ 1
  pub total : num32 bs 1 ≡ t
  pub kind : byte_at bs 5 ≡ k
  pub size : byte_at bs 6 ≡ s
  pub count : num16 bs 7 ≡ c
  pub rest : drop 9 bs ≡ r

pub opening_written : (bs : List ℕ) (total kind size count : ℕ) (rest : List ℕ) → total < 4294967296 → count < 65536 → bs ≡ 1 ∷ (be32 total ++ (kind ∷ size ∷ (be16 count ++ rest))) → Opened bs total kind size count rest
opening_written bs total kind size count rest ht hc e =
    let a = be32 total ++ (kind ∷ size ∷ (be16 count ++ rest)) in
    let one : drop 1 bs ≡ a = ap (drop 1) e in
    let five : drop 5 bs ≡ kind ∷ size ∷ (be16 count ++ rest) = ap (drop 5) e in
    let seven : drop 7 bs ≡ be16 count ++ rest = ap (drop 7) e in
    record {
      version = ap (λ l. get_or l 0 0) e;
      total = written32 bs 1 total (kind ∷ size ∷ (be16 count ++ rest)) ht one;
      kind = ap (λ l. get_or l 5 0) e;
      size = ap (λ l. get_or l 6 0) e;
      count = written16 bs 7 count rest hc seven;
      rest = ap (drop 9) e;
    }

-- the checks of the opening, passed
pub record OpeningPassed (k : KindOf) (bs : List ℕ) : Type 0 where
  pub long : 9 ≤ length bs
  pub short : length bs ≤ 65536
  pub stated : num32 bs 1 ≡ length bs
  pub head : head_of bs ≤ length bs
  pub version : byte_at bs 0 ≡ 1
  pub kind : byte_at bs 5 ≡ k.code

module _ (k : KindOf) (bs : List ℕ) where
  pub opening_passed : (rest : List Check) → first_failing (opening_checks k bs ++ rest) ≡ None → OpeningPassed k bs × (first_failing rest ≡ None)
  opening_passed rest h =
      let a = passed _ _ _ h in
      let b = passed _ _ _ a.1 in
      let c = passed _ _ _ b.1 in
      let t = and_parts _ _ a.0 in
      let u = and_parts _ _ t.1 in
      let v = and_parts _ _ u.1 in (
        record {
          long = leb-true _ _ t.0;
          short = leb-true _ _ u.0;
          stated = eqb-true _ _ v.0;
          head = leb-true _ _ v.1;
          version = eqb-true _ _ b.0;
          kind = eqb-true _ _ c.0;
        },
        c.1,
      )

  pub opening_pass : (rest : List Check) → OpeningPassed k bs → first_failing (opening_checks k bs ++ rest) ≡ first_failing rest
  opening_pass rest h =
      pass _ _ _ (and_from _ _ (le-leb _ _ h.long) (and_from _ _ (le-leb _ _ h.short) (and_from _ _ (eq-eqb _ _ h.stated) (le-leb _ _ h.head))))
      ∙ pass _ _ _ (eq-eqb _ _ h.version)
      ∙ pass _ _ _ (eq-eqb _ _ h.kind)

-- the whole sheet, from its opening, its head and its records
pub whole : {C : Type 0} (layout : C → List ℕ) (bs head : List ℕ) (actions : List (Action C)) → Bytes bs → 9 + length head ≤ length bs
    → num32 bs 1 ≡ length bs → byte_at bs 0 ≡ 1 → num16 bs 7 ≡ length actions
    → head ++ drop (9 + length head) bs ≡ drop 9 bs → flat_map (record_bytes layout) actions ≡ drop (9 + length head) bs
    → sheet_bytes layout (byte_at bs 5) (byte_at bs 6) head actions ≡ bs
whole layout bs head actions small long stated version count headed body =
    let recs = flat_map (record_bytes layout) actions in
    let total : 9 + length head + length recs ≡ num32 bs 1 = omega (arith, stated, ap length body ∙ length-drop (9 + length head) bs) in
    let rest : head ++ recs ≡ drop 9 bs = ap (λ l. head ++ l) body ∙ headed in
    ap (λ n. 1 ∷ (be32 n ++ (byte_at bs 5 ∷ byte_at bs 6 ∷ (be16 (length actions) ++ (head ++ recs))))) total
    ∙ ap (λ n. 1 ∷ (be32 (num32 bs 1) ++ (byte_at bs 5 ∷ byte_at bs 6 ∷ (be16 n ++ (head ++ recs))))) (sym count)
    ∙ ap (λ l. 1 ∷ (be32 (num32 bs 1) ++ (byte_at bs 5 ∷ byte_at bs 6 ∷ (be16 (num16 bs 7) ++ l)))) rest
    ∙ ap (λ v. v ∷ (be32 (num32 bs 1) ++ (byte_at bs 5 ∷ byte_at bs 6 ∷ (be16 (num16 bs 7) ++ drop 9 bs)))) (sym version)
    ∙ opening_read bs small (omega (arith, long))

-- records are at most 104 bytes each
pub records_short : {C : Type 0} (layout : C → List ℕ) (Valid : C → Type 0) → ((c : C) → Valid c → length (layout c) ≤ 66) → (xs : List (Action C)) → AllByRecursion (ValidAction Valid) xs → length (flat_map (record_bytes layout) xs) ≤ 104 * length xs
records_short layout Valid short [] v = omega arith
records_short layout Valid short (x ∷ xs) v =
    let lay = layout x.does in
    let one : length (record_bytes layout x) ≡ 6 + length lay + length x.name = simp length-append (omega arith) in
    omega (arith, length-append (record_bytes layout x) (flat_map (record_bytes layout) xs), one, short x.does v.0.does, v.0.short, records_short layout Valid short xs v.1)
