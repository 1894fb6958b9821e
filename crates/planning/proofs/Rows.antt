-- Checks in a row.
use Rattle.std.proofs.Common.{◌≡◌, Bool, true, false, List, [], ◌∷◌, ◌++◌, Some, None, Option, sym, refl, ap, ◌∙◌}
use Rattle.planning.specs.declared.refusal.Refusal.{Refusal}
use Rattle.planning.specs.Checks.{Check, otherwise, first_failing}

-- none of a row fails: the first passes, and none of the others fails
pub passed : (b : Bool) (r : Refusal) (next : Option Refusal) → otherwise b r next ≡ None → (b ≡ true) × (next ≡ None)
passed true r next e = (refl, e)
passed false r next e = (cc, cc)

pub pass : (b : Bool) (r : Refusal) (next : Option Refusal) → b ≡ true → otherwise b r next ≡ next
pass b r next e = ap (λ x. otherwise x r next) e

pub fail : (b : Bool) (r : Refusal) (next : Option Refusal) → b ≡ false → otherwise b r next ≡ Some r
fail b r next e = ap (λ x. otherwise x r next) e

-- a row that passes may be left out in front of another
pub after : (cs ds : List Check) → first_failing cs ≡ None → first_failing (cs ++ ds) ≡ first_failing ds
after [] ds e = refl
after (c ∷ cs) ds e =
    let h = passed c.passes c.refusal (first_failing cs) e in
    pass c.passes c.refusal (first_failing (cs ++ ds)) h.0 ∙ after cs ds h.1

-- a row in which one fails fails so with any other behind it
pub within : (cs ds : List Check) (r : Refusal) → first_failing cs ≡ Some r → first_failing (cs ++ ds) ≡ Some r
within [] ds r e = cc
within (c ∷ cs) ds r e = go c.passes refl (within cs ds r)
  where
    go : (b : Bool) → c.passes ≡ b → (first_failing cs ≡ Some r → first_failing (cs ++ ds) ≡ Some r) → otherwise c.passes c.refusal (first_failing (cs ++ ds)) ≡ Some r
    go true h ih = pass c.passes c.refusal (first_failing (cs ++ ds)) h ∙ ih (sym (pass c.passes c.refusal (first_failing cs) h) ∙ e)
    go false h ih = fail c.passes c.refusal (first_failing (cs ++ ds)) h ∙ sym (fail c.passes c.refusal (first_failing cs) h) ∙ e

-- none of two rows fails where none of the whole does
pub front : (cs ds : List Check) → first_failing (cs ++ ds) ≡ None → first_failing cs ≡ None
front [] ds e = refl
front (c ∷ cs) ds e =
    let h = passed c.passes c.refusal (first_failing (cs ++ ds)) e in
    pass c.passes c.refusal (first_failing cs) h.0 ∙ front cs ds h.1
