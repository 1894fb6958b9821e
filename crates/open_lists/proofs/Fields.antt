-- A field of the items of a list, as a function of the index: `get_or (map f xs) i d`.
use Rattle.std.proofs.Common.{◌≡◌, ℕ, ◌<◌, ◌≤◌, cond, eqb, List, map, length, get_or, set, sym, ap, ◌∙◌, arith}
use Rattle.std.proofs.lemmas.List.{map-set, length-map, get_or-set_same, get_or-set_other, get_or_past, get_or-map}
use Rattle.std.proofs.lemmas.Bool.{cases_eq}
use Rattle.std.proofs.lemmas.Bool.Decides.{nat_tests}

module _ {X Y : Type 0} (f : X → Y) (d : Y) where
  pub field_past : (xs : List X) (i : ℕ) → length xs ≤ i → get_or (map f xs) i d ≡ d
  field_past xs i h = get_or_past (map f xs) i d (simp length-map h)

  pub field_read : (xs : List X) (i : ℕ) (x : X) → i < length xs → x ≡ get_or xs i x → get_or (map f xs) i d ≡ f x
  field_read xs i x h e = get_or-map f xs i x d h ∙ ap f (sym e)

  pub field_set : (xs : List X) (i : ℕ) (x : X) → i < length xs → (j : ℕ) → get_or (map f (set xs i x)) j d ≡ cond (eqb j i) (f x) (get_or (map f xs) j d)
  field_set xs i x h j = rw map-set (let long = length-map xs f in grind (arith, nat_tests, get_or-set_same, get_or-set_other, cases_eq j i))
