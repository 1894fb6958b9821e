-- The number of a state, from the last variable to the first.
use Rattle.std.proofs.Common.{◌≡◌, ℕ, ◌+◌, ◌*◌, ◌≤◌, List, [], ◌∷◌, ◌++◌, length, sym, refl, ap, ◌∙◌, subst, mul-le-mul, mul-le-mul_right, append-nil, append_assoc, length-append, arith}
use Rattle.std.specs.List.{AllByRecursion}
use Rattle.sheet_layout.specs.FiniteDomain.{ValidCount, product}
use Rattle.sheet_layout.proofs.FiniteDomainHeads.{each_length}
use Rattle.sheets.specs.FiniteDomainTasks.{encode, InRange}
use Rattle.sheets.proofs.Numbering.{below_product}

-- what stands behind in lists in range is in range
pub range_behind : (cs ds ns vs : List ℕ) → length ds ≡ length cs → InRange (cs ++ ns) (ds ++ vs) → InRange ns vs
range_behind [] [] ns vs e r = r
range_behind [] (d ∷ ds) ns vs e r = absurd (omega arith)
range_behind (c ∷ cs) [] ns vs e r = absurd (omega arith)
range_behind (c ∷ cs) (d ∷ ds) ns vs e r = range_behind cs ds ns vs (omega arith) r.1

pub valid_behind : (cs ns : List ℕ) → AllByRecursion ValidCount (cs ++ ns) → AllByRecursion ValidCount ns
valid_behind [] ns v = v
valid_behind (c ∷ cs) ns v = valid_behind cs ns v.1

pub product_behind : (cs ns : List ℕ) → AllByRecursion ValidCount (cs ++ ns) → product ns ≤ product (cs ++ ns)
product_behind [] ns v = omega arith
product_behind (c ∷ cs) ns v =
    let more = product_behind cs ns v.1 in
    let some : 1 ≤ c = omega (arith, v.0.two) in
    omega (arith, mul-le-mul_right (product (cs ++ ns)) some)

-- the counts and values that are left, where the state of those behind them is known
pub record Encoded (ns vs cs ds : List ℕ) (state : ℕ) : Type 0 where
  pub later_counts : List ℕ
  pub later_values : List ℕ
  pub counts : cs ++ later_counts ≡ ns
  pub values : ds ++ later_values ≡ vs
  pub long : length ds ≡ length cs
  pub known : state ≡ encode later_counts later_values

module _ (ns vs : List ℕ) (valid : AllByRecursion ValidCount ns) (few : product ns ≤ 65536) (range : InRange ns vs) where
  pub encoded_none : (cs ds : List ℕ) → cs ≡ ns → ds ≡ vs → Encoded ns vs cs ds 0
  encoded_none cs ds e f = record {
    later_counts = [];
    later_values = [];
    counts = append-nil cs ∙ e;
    values = append-nil ds ∙ f;
    long = ap length f ∙ each_length _ vs ns range ∙ sym (ap length e);
    known = refl;
  }

  -- what the rest of the variables come to, times one more number of values, is small
  pub encoded_small : (cs ds : List ℕ) (n s : ℕ) (before : List ℕ) → cs ≡ before ++ (n ∷ []) → Encoded ns vs cs ds s → n * s ≤ 1048576
  encoded_small cs ds n s before e so =
      let later = so.later_counts in
      let all : AllByRecursion ValidCount (cs ++ later) = subst (AllByRecursion ValidCount) (sym so.counts) valid in
      let less = product_behind cs later all in
      let whole = ap product so.counts in
      let below = below_product later so.later_values (range_behind cs ds later so.later_values so.long (rw (so.counts, so.values) range)) in
      let last = (valid_behind before (n ∷ later) (subst (AllByRecursion ValidCount) (ap (λ l. l ++ later) e ∙ append_assoc before (n ∷ []) later) all)).0.sixteen in
      let s-small : s ≤ 65536 = omega (arith, so.known) in
      omega (arith, mul-le-mul last s-small)

  pub encoded_next : (cs ds cs' ds' : List ℕ) (n v s : ℕ) → cs ≡ cs' ++ (n ∷ []) → ds ≡ ds' ++ (v ∷ []) → Encoded ns vs cs ds s → Encoded ns vs cs' ds' (v + n * s)
  encoded_next cs ds cs' ds' n v s e f so = record {
    later_counts = n ∷ so.later_counts;
    later_values = v ∷ so.later_values;
    counts = sym (append_assoc cs' (n ∷ []) so.later_counts) ∙ sym (ap (λ l. l ++ so.later_counts) e) ∙ so.counts;
    values = sym (append_assoc ds' (v ∷ []) so.later_values) ∙ sym (ap (λ l. l ++ so.later_values) f) ∙ so.values;
    long = omega (arith, ap length e, ap length f, length-append cs' (n ∷ []), length-append ds' (v ∷ []), so.long);
    known = ap (λ k. v + n * k) so.known;
  }

  pub encoded_all : (cs ds : List ℕ) (s : ℕ) → length cs ≡ 0 → Encoded ns vs cs ds s → s ≡ encode ns vs
  encoded_all [] [] s none so = so.known ∙ (λ i. encode (so.counts i) (so.values i))
  encoded_all [] (d ∷ ds) s none so = let long = so.long in absurd (omega arith)
  encoded_all (c ∷ cs) ds s none so = absurd (omega arith)
