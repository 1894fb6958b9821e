-- Records: what passes the checks is the layout of what is read, and the layout of valid actions passes.
use Rattle.std.proofs.Common.{◌≡◌, ℕ, zero, suc, ◌+◌, ◌-◌, ◌<◌, ◌≤◌, true, leb, List, [], ◌∷◌, ◌++◌, length, take, drop, None, sym, refl, ap, ◌∙◌, ⊎_elim, append_assoc, arith, length-append, length-drop, take-append-drop, length-take}
use Rattle.std.specs.List.{flat_map, AllByRecursion}
use Rattle.std.proofs.lemmas.List.{drop-drop, take_at, length-take-le, get_or-take, get_or-drop, drop_all, get_or_past}
use Rattle.std.proofs.lemmas.Bool.{and_parts, and_from, leb-true, le-leb, cases_lt}
use Rattle.planning.specs.declared.refusal.Refusal.TheVariants.{Frame}
use Rattle.planning.specs.Checks.{Check, first_failing}
use Rattle.sheet_layout.specs.Frame.{Action, ValidAction, KindOf, record_bytes, record_end, record_place, framed, record_checks, records_checks, action_at, actions_from}
use Rattle.sheet_layout.specs.Numbers.{Bytes, be16, be32, num16, num32}
use Rattle.sheet_layout.proofs.Bytewise.{read16, read32, written16, written32, past}
use Rattle.planning.proofs.Rows.{passed, pass}

-- how the preconditions and effects of a kind are read back from a sheet
pub record Decodes {C : Type 0} (k : KindOf) (layout : C → List ℕ) (Valid : C → Type 0) (read : List ℕ → ℕ → C) (bs : List ℕ) : Type 0 where
  pub sound : (p e : ℕ) → k.fits bs p e ≡ true → k.ending bs p < e → e ≤ length bs → k.present bs p ≡ true → (layout (read bs p) ++ drop (k.ending bs p) bs ≡ drop p bs) × Valid (read bs p) × (p + length (layout (read bs p)) ≡ k.ending bs p)
  pub complete : (p e : ℕ) (c : C) (rest : List ℕ) → Valid c → drop p bs ≡ layout c ++ rest → p + length (layout c) ≤ e → (k.fits bs p e ≡ true) × (k.ending bs p ≡ p + length (layout c)) × (k.present bs p ≡ true) × (read bs p ≡ c)
  pub short : (c : C) → Valid c → length (layout c) ≤ 66

-- what the frame's check says, in order
pub record Framed (k : KindOf) (bs : List ℕ) (p : ℕ) : Type 0 where
  pub room : p + 6 ≤ record_end bs p
  pub inside : record_end bs p ≤ length bs
  pub fits : k.fits bs (p + 6) (record_end bs p) ≡ true
  pub named : k.ending bs (p + 6) + 1 ≤ record_end bs p
  pub short : record_end bs p ≤ k.ending bs (p + 6) + 32

-- the checks of one record, passed
pub record Passed (k : KindOf) (bs : List ℕ) (p : ℕ) : Type 0 where
  pub frame : Framed k bs p
  pub cheap : num32 bs (p + 2) ≤ 1000000
  pub present : k.present bs (p + 6) ≡ true

module _ (k : KindOf) (bs : List ℕ) where
  pub framed_parts : (p : ℕ) → framed k bs p ≡ true → Framed k bs p
  framed_parts p h =
      let a = and_parts _ _ h in
      let b = and_parts _ _ a.1 in
      let c = and_parts _ _ b.1 in
      let d = and_parts _ _ c.1 in
      record { room = leb-true _ _ a.0; inside = leb-true _ _ b.0; fits = c.0; named = leb-true _ _ d.0; short = leb-true _ _ d.1 }

  pub framed_from : (p : ℕ) → Framed k bs p → framed k bs p ≡ true
  framed_from p h =
      and_from _ _ (le-leb _ _ h.room) (and_from _ _ (le-leb _ _ h.inside) (and_from _ _ h.fits (and_from _ _ (le-leb _ _ h.named) (le-leb _ _ h.short))))

  pub record_passed : (p : ℕ) (rest : List Check) → first_failing (record_checks k bs p ++ rest) ≡ None → Passed k bs p × (first_failing rest ≡ None)
  record_passed p rest h =
      let a = passed _ _ _ h in
      let b = passed _ _ _ a.1 in
      let c = passed _ _ _ b.1 in
      (record { frame = framed_parts p a.0; cheap = leb-true _ _ b.0; present = c.0 }, c.1)

  pub record_pass : (p : ℕ) (rest : List Check) → Passed k bs p → first_failing (record_checks k bs p ++ rest) ≡ first_failing rest
  record_pass p rest h =
      pass _ _ _ (framed_from p h.frame) ∙ pass _ _ _ (le-leb _ _ h.cheap) ∙ pass _ _ _ h.present

regroup : (a b c d e : List ℕ) → (a ++ (b ++ (c ++ d))) ++ e ≡ a ++ (b ++ (c ++ (d ++ e)))
regroup a b c d e = simp append_assoc

module _ {C : Type 0} (k : KindOf) (layout : C → List ℕ) (Valid : C → Type 0) (read : List ℕ → ℕ → C) (bs : List ℕ) (small : Bytes bs) (laws : Decodes k layout Valid read bs) where
  part_bytes : (n q : ℕ) → Bytes (take n (drop q bs))
  part_bytes n q i =
      ⊎_elim
      (λ (lt : i < n). rw (get_or-take n (drop q bs) i 0 lt, get_or-drop q bs i 0) (small (q + i)))
      (λ (le : n ≤ i). rw (get_or_past (take n (drop q bs)) i 0 (simp length-take (omega arith))) (omega arith))
      (cases_lt i n)

  -- a record that passes is the layout of the action that is read there
  record_sound : (p : ℕ) → Passed k bs p → (record_bytes layout (action_at k read bs p) ++ drop (record_end bs p) bs ≡ drop p bs) × ValidAction Valid (action_at k read bs p)
  record_sound p h =
      let q = k.ending bs (p + 6) in
      let e = record_end bs p in
      let frame = h.frame in
      let told = laws.sound (p + 6) e frame.fits (omega (arith, frame.named)) frame.inside h.present in
      let x = action_at k read bs p in
      let long : length x.name ≡ e - q = length-take-le (e - q) (drop q bs) (simp length-drop (omega (arith, frame.inside))) in
      let counted : 4 + length (layout x.does) + length x.name ≡ num16 bs p = omega (arith, long, told.2, frame.named) in
      let cut : x.name ++ drop e bs ≡ drop q bs =
      ap (λ l. x.name ++ l) (ap (λ i. drop i bs) (omega (arith, frame.named)) ∙ sym (drop-drop (e - q) q bs)) ∙ take-append-drop (e - q) (drop q bs) in
      let price : be32 (num32 bs (p + 2)) ++ drop (p + 6) bs ≡ drop (p + 2) bs =
      ap (λ i. be32 (num32 bs (p + 2)) ++ drop i bs) (omega arith) ∙ read32 bs (p + 2) small (omega (arith, frame.room, frame.inside)) in (
        regroup (be16 (4 + length (layout x.does) + length x.name)) (be32 x.coins) (layout x.does) x.name (drop e bs)
            ∙ ap (λ n. be16 n ++ (be32 x.coins ++ (layout x.does ++ (x.name ++ drop e bs)))) counted
            ∙ ap (λ l. be16 (num16 bs p) ++ (be32 x.coins ++ (layout x.does ++ l))) cut
            ∙ ap (λ l. be16 (num16 bs p) ++ (be32 x.coins ++ l)) told.0
            ∙ ap (λ l. be16 (num16 bs p) ++ l) price
            ∙ read16 bs p small (omega (arith, frame.room, frame.inside)),
        record {
          cheap = h.cheap;
          does = told.1;
          named = omega (arith, long, frame.named);
          short = omega (arith, long, frame.short);
          bytes = part_bytes (e - q) q;
        },
      )

  pub records_sound : (n p : ℕ) → p ≤ length bs → first_failing (records_checks k bs n p) ≡ None
      → (flat_map (record_bytes layout) (actions_from k read bs n p) ≡ drop p bs) × AllByRecursion (ValidAction Valid) (actions_from k read bs n p) × (length (actions_from k read bs n p) ≡ n)
  records_sound zero p le h = (sym (drop_all p bs (leb-true _ _ (passed _ _ _ h).0)), tt, refl)
  records_sound (suc n) p le h =
      let told = record_passed k bs p (records_checks k bs n (record_end bs p)) h in
      let one = record_sound p told.0 in
      let more = records_sound n (record_end bs p) told.0.frame.inside told.1 in
      (ap (λ l. record_bytes layout (action_at k read bs p) ++ l) more.0 ∙ one.0, (one.1, more.1), ap suc more.2)

  -- places are where the layouts before them end
  pub places_sound : (i n p : ℕ) → p ≤ length bs → i ≤ n → first_failing (records_checks k bs n p) ≡ None → record_place bs i p ≡ p + length (flat_map (record_bytes layout) (take i (actions_from k read bs n p)))
  places_sound zero n p le less h = omega arith
  places_sound (suc i) zero p le less h = absurd (omega arith)
  places_sound (suc i) (suc n) p le less h =
      let told = record_passed k bs p (records_checks k bs n (record_end bs p)) h in
      let inside = told.0.frame.inside in
      let one = (record_sound p told.0).0 in
      let x = record_bytes layout (action_at k read bs p) in
      let long : length x + (length bs - record_end bs p) ≡ length bs - p = ap (λ m. length x + m) (sym (length-drop (record_end bs p) bs)) ∙ sym (length-append x (drop (record_end bs p) bs)) ∙ ap length one ∙ length-drop p bs in
      let more = places_sound i n (record_end bs p) inside (omega arith) told.1 in
      let rest = flat_map (record_bytes layout) (take i (actions_from k read bs n (record_end bs p))) in
      let room = told.0.frame.room in
      omega (arith, more, long, length-append x rest, inside, room)

  -- the layout of a valid action passes, and is read back
  record_complete : (p : ℕ) (x : Action C) (rest : List ℕ) → ValidAction Valid x → drop p bs ≡ record_bytes layout x ++ rest
      → Passed k bs p × (action_at k read bs p ≡ x) × (drop (record_end bs p) bs ≡ rest) × (record_end bs p ≤ length bs)
  record_complete p x rest v e =
      let lay = layout x.does in
      let size = 4 + length lay + length x.name in
      let tail = x.name ++ rest in
      let whole : drop p bs ≡ be16 size ++ (be32 x.coins ++ (lay ++ tail)) = e ∙ regroup (be16 size) (be32 x.coins) lay x.name rest in
      let counted : num16 bs p ≡ size = written16 bs p size (be32 x.coins ++ (lay ++ tail)) (omega (arith, laws.short x.does v.does, v.short)) whole in
      let priced : drop (p + 2) bs ≡ be32 x.coins ++ (lay ++ tail) = past bs p 2 (be16 size) (be32 x.coins ++ (lay ++ tail)) whole refl in
      let coins : num32 bs (p + 2) ≡ x.coins = written32 bs (p + 2) x.coins (lay ++ tail) (omega (arith, v.cheap)) priced in
      let body : drop (p + 6) bs ≡ lay ++ tail = ap (λ i. drop i bs) (omega arith) ∙ past bs (p + 2) 4 (be32 x.coins) (lay ++ tail) priced refl in
      let ends : record_end bs p ≡ p + 6 + length lay + length x.name = omega (arith, counted) in
      let told = laws.complete (p + 6) (record_end bs p) x.does tail v.does body (omega (arith, ends)) in
      let q = k.ending bs (p + 6) in
      let at : drop q bs ≡ tail = ap (λ i. drop i bs) told.1 ∙ past bs (p + 6) (length lay) lay tail body refl in
      let name : take (record_end bs p - q) (drop q bs) ≡ x.name = ap (take (record_end bs p - q)) at ∙ take_at x.name rest (record_end bs p - q) (omega (arith, ends, told.1)) in
      let left : drop (record_end bs p) bs ≡ rest = ap (λ i. drop i bs) (omega (arith, ends, told.1)) ∙ past bs q (length x.name) x.name rest at refl in
      let long : length bs - q ≡ length x.name + length rest = sym (length-drop q bs) ∙ ap length at ∙ length-append x.name rest in
      let inside : record_end bs p ≤ length bs = omega (arith, long, ends, told.1, v.named) in (
        record {
          frame = record {
            room = omega (arith, ends);
            inside = inside;
            fits = told.0;
            named = omega (arith, ends, told.1, v.named);
            short = omega (arith, ends, told.1, v.short);
          };
          cheap = omega (arith, coins, v.cheap);
          present = told.2;
        },
        (λ i. record { coins = coins i; does = told.3 i; name = name i }),
        left,
        inside,
      )

  pub records_complete : (xs : List (Action C)) (p : ℕ) → p ≤ length bs → AllByRecursion (ValidAction Valid) xs → drop p bs ≡ flat_map (record_bytes layout) xs
      → (first_failing (records_checks k bs (length xs) p) ≡ None) × (actions_from k read bs (length xs) p ≡ xs)
  records_complete [] p le v e =
      (pass (leb (length bs) p) (Frame p) None (le-leb (length bs) p (omega (arith, sym (length-drop p bs) ∙ ap length e))), refl)
  records_complete (x ∷ xs) p le v e =
      let one = record_complete p x (flat_map (record_bytes layout) xs) v.0 e in
      let more = records_complete xs (record_end bs p) one.3 v.1 one.2 in
      (record_pass k bs p (records_checks k bs (length xs) (record_end bs p)) one.0 ∙ more.0, (λ i. one.1 i ∷ more.1 i))

-- a walk over n records after i of them: one record more, or the end
pub records_on : (k : KindOf) (bs : List ℕ) (n i p : ℕ) → i < n → records_checks k bs (n - i) p ≡ record_checks k bs p ++ records_checks k bs (n - (i + 1)) (record_end bs p)
records_on k bs n i p h = ap (λ m. records_checks k bs m p) (let e : n - i ≡ suc (n - (i + 1)) = omega arith in e)

pub actions_on : {C : Type 0} (k : KindOf) (read : List ℕ → ℕ → C) (bs : List ℕ) (n i p : ℕ) → i < n → actions_from k read bs (n - i) p ≡ action_at k read bs p ∷ actions_from k read bs (n - (i + 1)) (record_end bs p)
actions_on k read bs n i p h = ap (λ m. actions_from k read bs m p) (let e : n - i ≡ suc (n - (i + 1)) = omega arith in e)

pub actions_count : {C : Type 0} (k : KindOf) (read : List ℕ → ℕ → C) (bs : List ℕ) (n p : ℕ) → length (actions_from k read bs n p) ≡ n
actions_count k read bs zero p = refl
actions_count k read bs (suc n) p = ap suc (actions_count k read bs n (record_end bs p))
