-- A walk over the records of a sheet that passed, and a table that is filled along the way.
use Rattle.std.proofs.Common.{◌≡◌, ℕ, zero, suc, ◌+◌, ◌-◌, ◌<◌, ◌≤◌, List, [], ◌∷◌, ◌++◌, map, length, get_or, take, drop, set, None, sym, refl, ap, ◌∙◌, subst₂, append_assoc, add-one, arith, length-append, take-append-drop}
use Rattle.std.proofs.lemmas.List.{length-map, length-take-le, length-drop, map-append, drop-drop, drop_more, set_at, take_at, take_all, take-map}
use Rattle.planning.specs.Checks.{first_failing}
use Rattle.sheet_layout.specs.Frame.{KindOf, record_end, record_place, records_checks, actions_from, action_at}
use Rattle.sheet_layout.proofs.Framing.{Passed, actions_on, records_on, record_passed}

-- after i of n records, the next stands at p
pub record Walk {C : Type 0} (k : KindOf) (read : List ℕ → ℕ → C) (bs : List ℕ) (first n i p : ℕ) : Type 0 where
  pub inside : p ≤ length bs
  pub passes : first_failing (records_checks k bs (n - i) p) ≡ None
  pub ahead : actions_from k read bs (n - i) p ≡ drop i (actions_from k read bs n first)

module _ {C : Type 0} (k : KindOf) (read : List ℕ → ℕ → C) (bs : List ℕ) (first n : ℕ) where
  pub walk_start : first ≤ length bs → first_failing (records_checks k bs n first) ≡ None → Walk k read bs first n 0 first
  walk_start le h =
      let same : n - 0 ≡ n = omega arith in
      record {
        inside = le;
        passes = ap (λ m. first_failing (records_checks k bs m first)) same ∙ h;
        ahead = ap (λ m. actions_from k read bs m first) same;
      }

  module _ (i p : ℕ) (w : Walk k read bs first n i p) (more : i < n) where
    pub walk_passed : Passed k bs p × (first_failing (records_checks k bs (n - (i + 1)) (record_end bs p)) ≡ None)
    walk_passed =
        record_passed k bs p (records_checks k bs (n - (i + 1)) (record_end bs p)) (ap first_failing (sym (records_on k bs n i p more)) ∙ w.passes)

    pub walk_item : drop i (actions_from k read bs n first) ≡ action_at k read bs p ∷ actions_from k read bs (n - (i + 1)) (record_end bs p)
    walk_item = sym w.ahead ∙ actions_on k read bs n i p more

    pub walk_next : Walk k read bs first n (i + 1) (record_end bs p)
    walk_next = record {
      inside = walk_passed.0.frame.inside;
      passes = walk_passed.1;
      ahead = ap (drop 1) (sym walk_item) ∙ drop-drop 1 i (actions_from k read bs n first);
    }

-- one record further
pub place_next : (bs : List ℕ) (i p : ℕ) → record_place bs (i + 1) p ≡ record_end bs (record_place bs i p)
place_next bs i p = ap (λ n. record_place bs n p) (add-one i) ∙ go i p
  where
    go : (n q : ℕ) → record_place bs (suc n) q ≡ record_end bs (record_place bs n q)
    go zero q = refl
    go (suc n) q = go n (record_end bs q)

module _ {C : Type 0} (k : KindOf) (read : List ℕ → ℕ → C) (bs : List ℕ) (first n : ℕ) (start : Walk k read bs first n 0 first) where
  pub walk_to : (i : ℕ) → i ≤ n → Walk k read bs first n i (record_place bs i first)
  walk_to zero le = start
  walk_to (suc i) le =
      let before = walk_to i (omega arith) in
      let after = walk_next k read bs first n i (record_place bs i first) before le in
      subst₂ (Walk k read bs first n) (add-one i) (sym (place_next bs i first) ∙ ap (λ m. record_place bs m first) (add-one i)) after

-- the first i entries of a table are those of a list, the rest is as it was
abbrev pub Copied : {A X : Type 0} → (A → X) → List A → List X → ℕ → List X → Type 0
Copied f all old i table = table ≡ take i (map f all) ++ drop i old

module _ {A X : Type 0} (f : A → X) (all : List A) (old : List X) where
  pub copy_next : (i : ℕ) (table : List X) (x : X) (y : A) (ys : List A) → Copied f all old i table → i < length old → drop i all ≡ y ∷ ys → x ≡ f y → Copied f all old (i + 1) (set table i x)
  copy_next i table x y ys c room at is =
      let front = take i all in
      let whole : all ≡ front ++ (y ∷ ys) = sym (take-append-drop i all) ∙ ap (λ l. front ++ l) at in
      let left : length all - i ≡ suc (length ys) = sym (length-drop i all) ∙ ap length at in
      let long : length (map f front) ≡ i = length-map front f ∙ length-take-le i all (omega arith) in
      let mapped : map f all ≡ (map f front ++ (f y ∷ [])) ++ map f ys = ap (map f) whole ∙ map-append f front (y ∷ ys) ∙ sym (append_assoc (map f front) (f y ∷ []) (map f ys)) in
      let counted : length (map f front ++ (f y ∷ [])) ≡ i + 1 = length-append (map f front) (f y ∷ []) ∙ omega arith in
      let grown : take (i + 1) (map f all) ≡ map f front ++ (f y ∷ []) = ap (take (i + 1)) mapped ∙ take_at (map f front ++ (f y ∷ [])) (map f ys) (i + 1) counted in
      let was : table ≡ map f front ++ drop i old = c ∙ ap (λ l. l ++ drop i old) (take-map f i all) in
      let opened : drop i old ≡ get_or old i x ∷ drop (i + 1) old = drop_more old i x room in
      ap (λ l. set l i x) (was ∙ ap (λ l. map f front ++ l) opened)
      ∙ set_at (map f front) (get_or old i x) (drop (i + 1) old) x i long
      ∙ ap (λ v. map f front ++ (v ∷ drop (i + 1) old)) is
      ∙ sym (append_assoc (map f front) (f y ∷ []) (drop (i + 1) old))
      ∙ ap (λ l. l ++ drop (i + 1) old) (sym grown)

  pub copy_end : (xs : List A) (i : ℕ) (table : List X) → all ≡ xs → i ≡ length all → Copied f all old i table → table ≡ map f xs ++ drop (length xs) old
  copy_end xs i table same e c =
      c
      ∙ ap (λ j. take j (map f all) ++ drop j old) e
      ∙ ap (λ l. take (length l) (map f l) ++ drop (length l) old) same
      ∙ ap (λ l. l ++ drop (length xs) old) (take_all (length xs) (map f xs) (omega (arith, length-map xs f)))
