-- An array made of calls at each index, which change nothing.
use Rattle.std.proofs.Common.{◌≡◌, ℕ, zero, suc, ◌+◌, ◌<◌, ◌≤◌, List, get_or, ◌∙◌, subst, ⊎_elim, arith}
use Rattle.std.specs.Array.{IsFromFnResultFrom}
use Rattle.std.specs.Fn.{Called, Mut}
use Rattle.std.proofs.lemmas.Bool.{cases_lt}

module _ {F B : Type 0} (g : Mut F (ℕ × Unit {0}) B) (f : F) (h : ℕ → B) (same : (i : ℕ) (y : B) (q : F) → Called g f (i, tt) y q → (q ≡ f) × (y ≡ h i)) where
  pub made_at : (ys : List B) (i n k : ℕ) (d : B) → IsFromFnResultFrom g f ys i n → i ≤ k → k < i + n → get_or ys k d ≡ h k
  made_at ys i zero k d m low high = absurd (omega arith)
  made_at ys i (suc n) k d m low high =
      let told = same i m.1 m.0 m.3 in
      ⊎_elim
      (λ (more : i < k). made_at ys (i + 1) n k d (subst (λ p. IsFromFnResultFrom g p ys (i + 1) n) told.0 m.4) (omega arith) (omega arith))
      (λ (here : k ≤ i). subst (λ j. get_or ys j d ≡ h j) (omega arith) (m.2.1 d ∙ told.1))
      (cases_lt i k)
