-- Two slices of one length side by side, both from the back.
use Rattle.std.proofs.Common.{◌≡◌, [], ◌∷◌, ◌++◌, Iter, length, Some, None, Option, ⊎_elim, subst, arith}
use Rattle.std.specs.Iterator.Adapters.{rev_source, rev_steps, zip_first, zip_second, zip_steps}
use Rattle.std.specs.declared.iter.Rev.{Rev}
use Rattle.std.specs.declared.iter.Zip.{Zip}
use Rattle.std.specs.Slice.Iter.{iter_rest, iter_steps_back}
use denote.Ref.{Bor}

-- a call of `next`
abbrev pub Steps : {A B : Type 0} → Zip (Rev (Iter A)) (Rev (Iter B)) → Option (Bor A × Bor B) → Zip (Rev (Iter A)) (Rev (Iter B)) → Type 0
Steps s r t = zip_steps (rev_steps iter_steps_back) (rev_steps iter_steps_back) s r t

module _ {A B : Type 0} (s t : Zip (Rev (Iter A)) (Rev (Iter B))) where
  pub back_more : (r : Option (Bor A × Bor B)) (p : Bor A × Bor B) → r ≡ Some p → Steps s r t → (iter_rest (rev_source (zip_first s)) ≡ iter_rest (rev_source (zip_first t)) ++ (p.0.now ∷ [])) × (iter_rest (rev_source (zip_second s)) ≡ iter_rest (rev_source (zip_second t)) ++ (p.1.now ∷ []))
  back_more r p e steps = let given : Steps s (Some p) t = subst (λ o. Steps s o t) e steps in given

  pub back_end : (r : Option (Bor A × Bor B)) → r ≡ None → length (iter_rest (rev_source (zip_second s))) ≡ length (iter_rest (rev_source (zip_first s))) → Steps s r t → length (iter_rest (rev_source (zip_first s))) ≡ 0
  back_end r e same steps =
      let given : Steps s None t = subst (λ o. Steps s o t) e steps in
      ⊎_elim (λ y. y.1.0) (λ y. let none = y.1.0 in omega arith) given
