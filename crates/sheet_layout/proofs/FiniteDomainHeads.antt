-- The head of a sheet of variables: what its checks say, in order.
use Rattle.std.proofs.Common.{◌≡◌, ℕ, zero, suc, ◌+◌, ◌*◌, ◌<◌, ◌≤◌, min, Bool, true, false, ◌&&◌, ◌||◌, eqb, ltb, leb, ◌⊎◌, List, [], ◌∷◌, ◌++◌, length, Some, None, sym, refl, ap, ◌∙◌, inl, inr, ⊎_elim, mul-le-mul_right, mul_assoc, arith}
use Rattle.std.proofs.Math.Nat.{mul-zero}
use Rattle.std.specs.List.{AllByRecursion, AllZip}
use Rattle.std.proofs.lemmas.Bool.{cases_lt, lt-leb, and_parts, and_from, or_cases, or_left, or_right, leb-true, le-leb, ltb-true, lt-ltb, eqb-true, eq-eqb}
use Rattle.planning.specs.declared.refusal.Refusal.{Refusal}
use Rattle.planning.specs.declared.refusal.Refusal.TheVariants.{Count}
use Rattle.planning.specs.Checks.{Check, otherwise, first_failing}
use Rattle.planning.proofs.Rows.{passed, pass, fail, after, within, front}
use Rattle.sheet_layout.specs.FiniteDomain.{ValidCount, product, counts_checks, values_checks, value_or_any, finite_domain_head}

-- none of two rows fails
both : (cs ds : List Check) → first_failing (cs ++ ds) ≡ None → (first_failing cs ≡ None) × (first_failing ds ≡ None)
both cs ds h = let e = front cs ds h in (e, sym (after cs ds e) ∙ h)

counts_passed : (ns : List ℕ) (p : ℕ) → first_failing (counts_checks ns p) ≡ None → AllByRecursion ValidCount ns
counts_passed [] p h = tt
counts_passed (n ∷ ns) p h =
    let a = passed _ _ _ h in
    let b = and_parts _ _ a.0 in
    (record { two = leb-true _ _ b.0; sixteen = leb-true _ _ b.1 }, counts_passed ns (p + 1) a.1)

counts_pass : (ns : List ℕ) (p : ℕ) → AllByRecursion ValidCount ns → first_failing (counts_checks ns p) ≡ None
counts_pass [] p v = refl
counts_pass (n ∷ ns) p v = pass _ _ _ (and_from _ _ (le-leb _ _ v.0.two) (le-leb _ _ v.0.sixteen)) ∙ counts_pass ns (p + 1) v.1

module _ (passing : ℕ → ℕ → Bool) (R : ℕ → ℕ → Type 0) where
  values_passed : ((v n : ℕ) → passing v n ≡ true → R v n) → (ns vs : List ℕ) (p : ℕ) → length vs ≡ length ns → first_failing (values_checks passing ns vs p) ≡ None → AllZip R vs ns
  values_passed says [] [] p long h = tt
  values_passed says [] (v ∷ vs) p long h = absurd (omega arith)
  values_passed says (n ∷ ns) [] p long h = absurd (omega arith)
  values_passed says (n ∷ ns) (v ∷ vs) p long h =
      let a = passed (passing v n) _ _ h in
      (says v n a.0, values_passed says ns vs (p + 1) (omega arith) a.1)

  values_pass : ((v n : ℕ) → R v n → passing v n ≡ true) → (ns vs : List ℕ) (p : ℕ) → AllZip R vs ns → first_failing (values_checks passing ns vs p) ≡ None
  values_pass holds [] [] p e = refl
  values_pass holds [] (v ∷ vs) p e = absurd e
  values_pass holds (n ∷ ns) [] p e = absurd e
  values_pass holds (n ∷ ns) (v ∷ vs) p e = pass (passing v n) _ _ (holds v n e.0) ∙ values_pass holds ns vs (p + 1) e.1

pub each_length : (R : ℕ → ℕ → Type 0) (xs ys : List ℕ) → AllZip R xs ys → length xs ≡ length ys
each_length R [] [] e = refl
each_length R [] (y ∷ ys) e = absurd e
each_length R (x ∷ xs) [] e = absurd e
each_length R (x ∷ xs) (y ∷ ys) e = ap suc (each_length R xs ys e.1)

goal_says : (v n : ℕ) → value_or_any v n ≡ true → (v < n) ⊎ (v ≡ 255)
goal_says v n h = ⊎_elim (λ e. inl (ltb-true v n e)) (λ e. inr (eqb-true v 255 e)) (or_cases (ltb v n) (eqb v 255) h)

goal_holds : (v n : ℕ) → (v < n) ⊎ (v ≡ 255) → value_or_any v n ≡ true
goal_holds v n = ⊎_elim (λ e. or_left (ltb v n) (eqb v 255) (lt-ltb v n e)) (λ e. or_right (ltb v n) (eqb v 255) (eq-eqb v 255 e))

-- the checks of a head, passed
pub record HeadPassed (d m : ℕ) (ns vs gs : List ℕ) : Type 0 where
  pub some_variable : 1 ≤ d
  pub few_variables : d ≤ 16
  pub some_action : 1 ≤ m
  pub few_actions : m ≤ 512
  pub counts : AllByRecursion ValidCount ns
  pub few_states : product ns ≤ 65536
  pub start : AllZip (λ v n. v < n) vs ns
  pub goal : AllZip (λ v n. (v < n) ⊎ (v ≡ 255)) gs ns

-- what they say of the counts alone
pub record CountsPassed (d m : ℕ) (ns : List ℕ) : Type 0 where
  pub some_variable : 1 ≤ d
  pub few_variables : d ≤ 16
  pub some_action : 1 ≤ m
  pub few_actions : m ≤ 512
  pub counts : AllByRecursion ValidCount ns
  pub few_states : product ns ≤ 65536

module _ (variables actions : ℕ) (counts start goal : List ℕ) where
  pub size_passed : first_failing (finite_domain_head variables actions counts start goal) ≡ None → (1 ≤ variables) × (variables ≤ 16)
  size_passed h =
      let a = and_parts _ _ (passed _ _ _ h).0 in
      (leb-true _ _ a.0, leb-true _ _ a.1)

  values_left : List Check
  values_left = values_checks ltb counts start (9 + variables) ++ values_checks value_or_any counts goal (9 + 2 * variables)

  all_passed : first_failing (finite_domain_head variables actions counts start goal) ≡ None → CountsPassed variables actions counts × (first_failing values_left ≡ None)
  unfolding values_left
  all_passed h =
      let a = passed _ _ _ h in
      let size = size_passed h in
      let b = passed _ _ _ a.1 in
      let count = and_parts _ _ b.0 in
      let c = both (counts_checks counts 9) _ b.1 in
      let d = passed (leb (product counts) 65536) _ _ c.1 in (
        record {
          some_variable = size.0;
          few_variables = size.1;
          some_action = leb-true _ _ count.0;
          few_actions = leb-true _ _ count.1;
          counts = counts_passed counts 9 c.0;
          few_states = leb-true _ _ d.0;
        },
        d.1,
      )

  pub counts_told : first_failing (finite_domain_head variables actions counts start goal) ≡ None → CountsPassed variables actions counts
  counts_told h = (all_passed h).0

  pub head_passed : length start ≡ length counts → length goal ≡ length counts → first_failing (finite_domain_head variables actions counts start goal) ≡ None → HeadPassed variables actions counts start goal
  unfolding values_left
  head_passed starts goals h =
      let a = all_passed h in
      let told = a.0 in
      let e = both (values_checks ltb counts start (9 + variables)) (values_checks value_or_any counts goal (9 + 2 * variables)) a.1 in
      record {
        some_variable = told.some_variable;
        few_variables = told.few_variables;
        some_action = told.some_action;
        few_actions = told.few_actions;
        counts = told.counts;
        few_states = told.few_states;
        start = values_passed ltb (λ v n. v < n) ltb-true counts start (9 + variables) starts e.0;
        goal = values_passed value_or_any (λ v n. (v < n) ⊎ (v ≡ 255)) goal_says counts goal (9 + 2 * variables) goals e.1;
      }

  pub head_pass : HeadPassed variables actions counts start goal → first_failing (finite_domain_head variables actions counts start goal) ≡ None
  head_pass h =
      pass _ _ _ (and_from _ _ (le-leb _ _ h.some_variable) (le-leb _ _ h.few_variables))
      ∙ pass _ _ _ (and_from _ _ (le-leb _ _ h.some_action) (le-leb _ _ h.few_actions))
      ∙ after (counts_checks counts 9) _ (counts_pass counts 9 h.counts)
      ∙ pass (leb (product counts) 65536) _ _ (le-leb (product counts) 65536 h.few_states)
      ∙ after (values_checks ltb counts start (9 + variables)) _ (values_pass ltb (λ v n. v < n) lt-ltb counts start (9 + variables) h.start)
      ∙ values_pass value_or_any (λ v n. (v < n) ⊎ (v ≡ 255)) goal_holds counts goal (9 + 2 * variables) h.goal

-- where no value stands for any, the test is the plain one
pub values_plain : (ns vs : List ℕ) (p : ℕ) → values_checks (λ v n. ltb v n || (false && eqb v 255)) ns vs p ≡ values_checks ltb ns vs p
values_plain ns vs p = λ i. values_checks (λ v n. or_false (ltb v n) i) ns vs p
  where
    or_false : (b : Bool) → (b || false) ≡ b
    or_false true = refl
    or_false false = refl

-- the row of a head's checks, check by check
module _ (d m : ℕ) (ns vs gs : List ℕ) (size : (1 ≤ d) × (d ≤ 16)) (few : (1 ≤ m) × (m ≤ 512)) where
  values_row : List Check
  values_row = values_checks ltb ns vs (9 + d) ++ values_checks value_or_any ns gs (9 + 2 * d)

  counts_row : first_failing (finite_domain_head d m ns vs gs) ≡ first_failing (counts_checks ns 9 ++ (record { passes = leb (product ns) 65536; refusal = Count 6 } ∷ values_row))
  unfolding values_row
  counts_row =
      pass _ _ _ (and_from _ _ (le-leb _ _ size.0) (le-leb _ _ size.1)) ∙ pass _ _ _ (and_from _ _ (le-leb _ _ few.0) (le-leb _ _ few.1))

  pub counts_fail : (r : Refusal) → first_failing (counts_checks ns 9) ≡ Some r → first_failing (finite_domain_head d m ns vs gs) ≡ Some r
  counts_fail r e = counts_row ∙ within (counts_checks ns 9) _ r e

  module _ (counted : first_failing (counts_checks ns 9) ≡ None) where
    product-row : first_failing (finite_domain_head d m ns vs gs) ≡ otherwise (leb (product ns) 65536) (Count 6) (first_failing values_row)
    product-row = counts_row ∙ after (counts_checks ns 9) _ counted

    pub product_fail : 65536 < product ns → first_failing (finite_domain_head d m ns vs gs) ≡ Some (Count 6)
    product_fail h = product-row ∙ fail (leb (product ns) 65536) _ _ (lt-leb (product ns) 65536 h)

    module _ (states : product ns ≤ 65536) where
      pub start_row : first_failing (finite_domain_head d m ns vs gs) ≡ first_failing (values_checks ltb ns vs (9 + d) ++ values_checks value_or_any ns gs (9 + 2 * d))
      unfolding values_row
      start_row = product-row ∙ pass (leb (product ns) 65536) _ _ (le-leb (product ns) 65536 states)

-- every number of values is at least one, so no product is 0
pub product_some : (ns : List ℕ) → AllByRecursion ValidCount ns → 1 ≤ product ns
product_some [] v = omega arith
product_some (n ∷ ns) v =
    let more = product_some ns v.1 in
    let some = v.0.two in
    omega (arith, mul-le-mul_right (product ns) some)

-- a product that stops at a bound on the way stops there at the end
pub capped : (s n p : ℕ) → min (min (s * n) 65537 * p) 65537 ≡ min (s * (n * p)) 65537
capped s n zero = ap (λ k. min k 65537) (mul-zero (min (s * n) 65537) ∙ sym (ap (λ k. s * k) (mul-zero n) ∙ mul-zero s))
capped s n (suc p) =
    ⊎_elim
    (λ (le : s * n < 65537). let e : min (s * n) 65537 ≡ s * n = omega arith in ap (λ k. min (k * suc p) 65537) e ∙ ap (λ k. min k 65537) (mul_assoc s n (suc p)))
    (λ (ge : 65537 ≤ s * n).
    let e : min (s * n) 65537 ≡ 65537 = omega arith in
    let f = mul-le-mul_right (suc p) ge in
    ap (λ k. min (k * suc p) 65537) e ∙ omega (arith, f, mul_assoc s n (suc p)))
    (cases_lt (s * n) 65537)

pub counted_valid : (ns : List ℕ) → first_failing (counts_checks ns 9) ≡ None → AllByRecursion ValidCount ns
counted_valid ns h = counts_passed ns 9 h

-- values pass exactly when each is below its variable's number of values
pub plain_passed : (ns vs : List ℕ) (p : ℕ) → length vs ≡ length ns → first_failing (values_checks (λ v n. ltb v n || (false && eqb v 255)) ns vs p) ≡ None → AllZip (λ v n. v < n) vs ns
plain_passed ns vs p long h = values_passed ltb (λ v n. v < n) ltb-true ns vs p long (sym (ap first_failing (values_plain ns vs p)) ∙ h)

pub plain_pass : (ns vs : List ℕ) (p : ℕ) → AllZip (λ v n. v < n) vs ns → first_failing (values_checks (λ v n. ltb v n || (false && eqb v 255)) ns vs p) ≡ None
plain_pass ns vs p e = ap first_failing (values_plain ns vs p) ∙ values_pass ltb (λ v n. v < n) lt-ltb ns vs p e
