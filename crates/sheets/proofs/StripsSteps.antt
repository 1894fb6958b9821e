-- What the code of a STRIPS task computes is what its definition says.
use Rattle.std.proofs.Common.{◌≡◌, ℕ, ◌-◌, ◌^◌, ◌<◌, ◌≤◌, min, true, cond, Some, None, sym, ◌∙◌, arith}
use lib.Bits.{bit_and, bit_or}
use Rattle.std.proofs.lemmas.Bool.{and_from, and_right, cond-true, cond-false, eq-eqb, ne_eqb, lt-ltb}
use Rattle.sheets.specs.StripsTasks.{facts_of, subset, names, applicable, successor}
use Rattle.sheets.specs.declared.strips.StripsAction.{StripsAction}
use Rattle.sheets.proofs.FactSets.{contains, applied-set}

-- the masks of an action name only facts below n
pub record Named (n : ℕ) (x : StripsAction) : Type 0 where
  pub preconditions : x.preconditions < 2 ^ n
  pub adds : x.adds < 2 ^ n
  pub deletes : x.deletes < 2 ^ n

module _ (n s : ℕ) (x : StripsAction) (coins : ℕ) (named : Named n x) where
  is_named : names n x ≡ true
  is_named = and_from _ _ (lt-ltb _ _ named.preconditions) (and_from _ _ (lt-ltb _ _ named.adds) (lt-ltb _ _ named.deletes))

  pub inapplicable : (bit_and s x.preconditions ≡ x.preconditions → ⊥) → None ≡ cond (applicable n s x) (Some (successor n s x coins)) None
  inapplicable lacks =
      sym (cond-false _ _ _ (and_right (names n x) (subset n (facts_of x.preconditions) (facts_of s)) (sym (contains n x.preconditions s named.preconditions) ∙ ne_eqb _ _ lacks)))

  pub performs : (m : ℕ) → n ≤ 16 → s < 2 ^ n → bit_and s x.preconditions ≡ x.preconditions → m ≡ min coins 1000000
      → Some (record { state = bit_or (bit_and s (4294967295 - x.deletes)) x.adds; coins = m }) ≡ cond (applicable n s x) (Some (successor n s x coins)) None
  performs m few low has is =
      let ready : applicable n s x ≡ true = and_from (names n x) _ is_named (sym (contains n x.preconditions s named.preconditions) ∙ eq-eqb _ _ has) in
      let led = applied-set n s x.deletes x.adds (omega arith) low named.deletes named.adds in
      (λ i. Some (record { state = led i; coins = is i })) ∙ sym (cond-true _ _ _ ready)
