-- Numbers of states and values of variables stand for each other.
use Rattle.std.proofs.Common.{◌≡◌, ℕ, suc, ◌+◌, ◌*◌, ◌/◌, ◌%◌, ◌<◌, ◌≤◌, true, eqb, ltb, List, [], ◌∷◌, refl, ap, ◌∙◌, ⊎_elim, mod-eq_of_lt, mul-le-mul_left, zero-add, arith}
use native.Mathlib.Nat.{add-mul-mod_self_left, add-mul-div_left, div-eq_of_lt, mod-add-div}
use Rattle.std.specs.List.{AllByRecursion}
use Rattle.std.proofs.lemmas.Nat.{div_below}
use Rattle.std.proofs.lemmas.Bool.{and_parts, or_cases, ltb-true, cond_both, both_ways}
use Rattle.sheet_layout.specs.FiniteDomain.{ValidCount, product, value_or_any}
use Rattle.sheets.specs.FiniteDomainTasks.{encode, decode, InRange, Numbering, changed, names}

pub below_product : (ns vs : List ℕ) → InRange ns vs → encode ns vs < product ns
below_product [] [] r = omega arith
below_product [] (v ∷ vs) r = absurd r
below_product (n ∷ ns) [] r = absurd r
below_product (n ∷ ns) (v ∷ vs) r =
    let more = below_product ns vs r.1 in
    let wide : n * suc (encode ns vs) ≤ n * product ns = mul-le-mul_left n more in
    omega (arith, r.0)

pub values_range : (ns : List ℕ) (s : ℕ) → AllByRecursion ValidCount ns → InRange ns (decode ns s)
values_range [] s v = tt
values_range (n ∷ ns) s v = let two = v.0.two in (omega arith, values_range ns (s / n) v.1)

values_back : (ns vs : List ℕ) → InRange ns vs → decode ns (encode ns vs) ≡ vs
values_back [] [] r = refl
values_back [] (v ∷ vs) r = absurd r
values_back (n ∷ ns) [] r = absurd r
values_back (n ∷ ns) (v ∷ vs) r =
    let less = r.0 in
    let low : (v + n * encode ns vs) % n ≡ v = add-mul-mod_self_left v n (encode ns vs) ∙ mod-eq_of_lt less in
    let high : (v + n * encode ns vs) / n ≡ encode ns vs = add-mul-div_left v (encode ns vs) (omega arith) ∙ ap (λ k. k + encode ns vs) (div-eq_of_lt less) ∙ zero-add (encode ns vs) in
    (λ i. low i ∷ decode ns (high i)) ∙ ap (λ l. v ∷ l) (values_back ns vs r.1)

values_forth : (ns : List ℕ) (s : ℕ) → AllByRecursion ValidCount ns → s < product ns → encode ns (decode ns s) ≡ s
values_forth [] s v h = omega arith
values_forth (n ∷ ns) s v h =
    let two = v.0.two in
    let rest : s / n < product ns = div_below s n (product ns) (omega arith) (omega arith) in
    ap (λ k. s % n + n * k) (values_forth ns (s / n) v.1 rest) ∙ mod-add-div s n

pub numbering : (ns : List ℕ) → AllByRecursion ValidCount ns → Numbering ns
numbering ns v = record {
  below = below_product ns;
  range = λ s h. values_range ns s v;
  back = values_back ns;
  forth = λ s h. values_forth ns s v h;
}

-- naming only what is there keeps values in range
pub changed_range : (ns xs vs : List ℕ) → names ns xs ≡ true → InRange ns vs → InRange ns (changed xs vs)
changed_range [] [] [] e r = tt
changed_range [] (x ∷ xs) [] e r = tt
changed_range [] [] (v ∷ vs) e r = absurd r
changed_range [] (x ∷ xs) (v ∷ vs) e r = absurd r
changed_range (n ∷ ns) [] vs e r = r
changed_range (n ∷ ns) (x ∷ xs) [] e r = absurd r
changed_range (n ∷ ns) (x ∷ xs) (v ∷ vs) e r =
    let a = and_parts (value_or_any x n) (names ns xs) e in (
      cond_both (eqb x 255) v x (λ k. k < n) (λ h. r.0) (λ h. ⊎_elim (λ l. ltb-true x n l) (λ l. absurd (both_ways (eqb x 255) h l)) (or_cases (ltb x n) (eqb x 255) a.0)),
      changed_range ns xs vs a.1 r.1,
    )
