-- Lists of values, variable by variable, as the code of a finite-domain task goes through them.
use Rattle.std.proofs.Common.{◌≡◌, ℕ, zero, suc, ◌+◌, ◌/◌, ◌%◌, ◌<◌, ◌≤◌, cond, ◌&&◌, ◌||◌, eqb, List, [], ◌∷◌, ◌++◌, length, get_or, take, drop, replicate, sym, refl, ap, ◌∙◌, ⊎_elim, arith}
use Rattle.std.specs.List.{AllByRecursion, list_all, zip, enumerate_from}
use Rattle.std.proofs.lemmas.List.{drop_more, drop-drop, drop_all, get_or_past, at_drop_more, map-id, drop-replicate}
use Rattle.std.proofs.lemmas.Bool.{cases_lt, le-ltb}
use Rattle.sheet_layout.specs.FiniteDomain.{ValidCount, value_or_any}
use Rattle.sheet_layout.proofs.Walking.{Copied, copy_end}
use Rattle.sheets.specs.FiniteDomainReading.{padded}
use Rattle.sheets.specs.FiniteDomainTasks.{decode, holds, changed, names}
use Rattle.sheets.proofs.FiniteDomainVerdicts.{padded_front}
use Rattle.sheets.specs.Described.{decode-length}

-- the values that are named, pair by pair
pub holds_all : (xs vs : List ℕ) → list_all (λ (x : ℕ × ℕ). eqb x.0 255 || eqb x.0 x.1) (zip xs vs) ≡ holds xs vs
holds_all [] vs = refl
holds_all (x ∷ xs) [] = refl
holds_all (x ∷ xs) (v ∷ vs) = ap (λ b. (eqb x 255 || eqb x v) && b) (holds_all xs vs)

names_on : (ns : List ℕ) (x : ℕ) (xs : List ℕ) (i : ℕ) → names (drop i ns) (x ∷ xs) ≡ (value_or_any x (get_or ns i 0) && names (drop (i + 1) ns) xs)
names_on ns x xs i =
    ⊎_elim
    (λ (k : i < length ns). let a = drop_more ns i 0 k in ap (λ l. names l (x ∷ xs)) a)
    (λ (k : length ns ≤ i).
    let none = drop_all i ns k in
    let later = drop_all (i + 1) ns (omega arith) in
    let zero-count : value_or_any x (get_or ns i 0) ≡ eqb x 255 = ap (value_or_any x) (get_or_past ns i 0 k) ∙ ap (λ t. t || eqb x 255) (le-ltb x 0 (omega arith)) in
    ap (λ l. names l (x ∷ xs)) none ∙ sym (λ j. zero-count j && names (later j) xs))
    (cases_lt i (length ns))

-- what is named, with the number of each variable
pub names_all : (ns xs : List ℕ) (i : ℕ) → list_all (λ (x : ℕ × ℕ). value_or_any x.1 (get_or ns x.0 0)) (enumerate_from i xs) ≡ names (drop i ns) xs
names_all ns [] i = refl
names_all ns (x ∷ xs) i = ap (λ b. value_or_any x (get_or ns i 0) && b) (names_all ns xs (i + 1)) ∙ sym (names_on ns x xs i)

pub changed_at : (xs vs : List ℕ) (i : ℕ) → i < length xs → i < length vs → get_or (changed xs vs) i 0 ≡ cond (eqb (get_or xs i 0) 255) (get_or vs i 0) (get_or xs i 0)
changed_at [] vs i h k = absurd (omega arith)
changed_at (x ∷ xs) [] i h k = absurd (omega arith)
changed_at (x ∷ xs) (v ∷ vs) zero h k = refl
changed_at (x ∷ xs) (v ∷ vs) (suc i) h k = changed_at xs vs i (omega arith) (omega arith)

pub changed-length : (xs vs : List ℕ) → length (changed xs vs) ≡ length vs
changed-length [] vs = refl
changed-length (x ∷ xs) [] = refl
changed-length (x ∷ xs) (v ∷ vs) = ap suc (changed-length xs vs)

pub changed-take : (n : ℕ) (xs vs : List ℕ) → take n (changed xs vs) ≡ changed xs (take n vs)
changed-take zero [] vs = refl
changed-take zero (x ∷ xs) vs = refl
changed-take (suc n) [] vs = refl
changed-take (suc n) (x ∷ xs) [] = refl
changed-take (suc n) (x ∷ xs) (v ∷ vs) = ap (λ l. cond (eqb x 255) v x ∷ l) (changed-take n xs vs)

pub decode_on : (ns : List ℕ) (i s rest : ℕ) → i < length ns → decode (drop i ns) rest ≡ drop i (decode ns s) → drop i (decode ns s) ≡ rest % get_or ns i 0 ∷ decode (drop (i + 1) ns) (rest / get_or ns i 0)
decode_on ns i s rest h e = sym e ∙ at_drop_more (λ l. decode l rest) ns i 0 h

pub decode_next : (ns : List ℕ) (i s rest : ℕ) → i < length ns → decode (drop i ns) rest ≡ drop i (decode ns s) → decode (drop (i + 1) ns) (rest / get_or ns i 0) ≡ drop (i + 1) (decode ns s)
decode_next ns i s rest h e = sym (ap (drop 1) (decode_on ns i s rest h e)) ∙ drop-drop 1 i (decode ns s)

-- what is copied whole over zeros is the list, and zeros behind it
pub copied_padded : (xs : List ℕ) (i : ℕ) (table : List ℕ) → i ≡ length xs → Copied {A = ℕ} (λ v. v) xs (replicate 16 0) i table → table ≡ padded xs
copied_padded xs i table e c =
    copy_end (λ (v : ℕ). v) xs (replicate 16 0) xs i table refl e c ∙ (λ j. map-id xs j ++ drop-replicate (length xs) 16 0 j)

pub every_at : (ns : List ℕ) (i : ℕ) → AllByRecursion ValidCount ns → i < length ns → ValidCount (get_or ns i 0)
every_at [] i v h = absurd (omega arith)
every_at (n ∷ ns) zero v h = v.0
every_at (n ∷ ns) (suc i) v h = every_at ns i v.1 (omega arith)

-- the values at the front of the sixteen
pub front : (ns counts values : List ℕ) (s : ℕ) → counts ≡ ns → values ≡ padded (decode ns s) → take (length counts) values ≡ decode ns s
front ns counts values s same e = (λ i. take (length (same i)) (e i)) ∙ padded_front (decode ns s) (length ns) (decode-length ns s)

-- and after the effects
pub moved : (ns counts values after effects : List ℕ) (s : ℕ) → counts ≡ ns → values ≡ padded (decode ns s) → after ≡ changed effects values → take (length counts) after ≡ changed effects (decode ns s)
moved ns counts values after effects s same e f = ap (take (length counts)) f ∙ changed-take (length counts) effects values ∙ ap (changed effects) (front ns counts values s same e)
