-- A scan of one slot more; what a scan and a write mean for the list.
use Rattle.std.proofs.Common.{◌≡◌, ℕ, suc, ◌+◌, ◌<◌, Bool, true, false, cond, List, length, set, Some, None, Option, sym, refl, subst, add-one, arith}
use Rattle.std.proofs.lemmas.Bool.{cases_eq}
use Rattle.std.proofs.lemmas.Bool.Decides.{nat_tests}
use Rattle.planning.specs.Costs.{Algebra, CostLaws}
use Rattle.planning.specs.Labels.{Label, earlier}
use Rattle.planning.specs.Lists.{Waiting, Changed, Least, Taken, label_of}
use Rattle.planning.specs.declared.open_list.Entry.{Entry}
use Rattle.open_lists.specs.declared.flat.Slot.{Slot}
use Rattle.open_lists.specs.Flats.{Scanned, better_entry, label_in, slot_label, flat_waiting, flat_next}
use Rattle.heap_order.specs.Order.{room_of}
use Rattle.open_lists.proofs.Fields.{field_set}
use Rattle.planning.proofs.Labels.{not_after_self, not_after_trans, earlier_not_after}

module _ {K : Type 0} (a : Algebra K) (w : Waiting K) (n : ℕ) where
  passed : (best : Option (Entry K)) → w n ≡ None → Scanned a w n best → Scanned a w (suc n) best
  passed None absent s = (λ q h. grind (arith, s.0 q, absent, cases_eq q n), cc)
  passed (Some e) absent s = (
    record {
      below = omega (arith, s.0.below);
      stands = s.0.stands;
      least = λ q y h at. grind (arith, s.0.least q y, absent, cases_eq q n);
    },
    cc,
  )

  module _ (laws : CostLaws a) (e : Entry K) (here : e.state ≡ n) (stands : w n ≡ Some (label_of e)) where
    at_n : w e.state ≡ Some (label_of e)
    at_n = rw here stands

    newer : (q : ℕ) (y : Label K) → (q < n → earlier a y (label_of e) ≡ false) → q < suc n → w q ≡ Some y → earlier a y (label_of e) ≡ false
    newer q y before h at = grind (arith, cases_eq q n, not_after_self a laws y)

    chosen : (b : Entry K) (t : Bool) → earlier a (label_of e) (label_of b) ≡ t → Scanned a w n (Some b) → Scanned a w (suc n) (Some (cond t e b))
    chosen b true first s = (
      record {
        below = omega arith;
        stands = at_n;
        least = λ q y h at. newer q y (λ l. not_after_trans a laws (label_of e) (label_of b) y (earlier_not_after a laws (label_of e) (label_of b) first) (s.0.least q y l at)) h at;
      },
      let a1 = s.1 in let a2 = s.0.stands in cc,
    )
    chosen b false first s = (
      record {
        below = omega (arith, s.0.below);
        stands = s.0.stands;
        least = λ q y h at. grind (arith, cases_eq q n, s.0.least q y);
      },
      let a1 = s.1 in let a2 = s.0.stands in cc,
    )

    found : (best : Option (Entry K)) → Scanned a w n best → Scanned a w (suc n) (Some (better_entry a best e))
    found None s = (record { below = omega arith; stands = at_n; least = λ q y h at. newer q y (λ l. let z = s.0 q l in grind arith) h at }, let a1 = s.1 in cc)
    found (Some b) s = chosen b (earlier a (label_of e) (label_of b)) refl s

module _ {K : Type 0} (a : Algebra K) (w : Waiting K) where
  pub reached : (m n : ℕ) (b c : Option (Entry K)) → m ≡ n → c ≡ b → Scanned a w m b → Scanned a w n c
  reached m n b c e f s = subst (λ x. Scanned a w x c) e (subst (λ x. Scanned a w m x) (sym f) s)

  pub pass : (n : ℕ) (b c : Option (Entry K)) → c ≡ b → w n ≡ None → Scanned a w n b → Scanned a w (n + 1) c
  pass n b c e absent s = reached (suc n) (n + 1) b c (sym (add-one n)) e (passed a w n b absent s)

  pub find : CostLaws a → (n : ℕ) (e : Entry K) (b c : Option (Entry K)) → e.state ≡ n → w n ≡ Some (label_of e) → c ≡ Some (better_entry a b e) → Scanned a w n b → Scanned a w (n + 1) c
  find laws n e b c here stands is s = reached (suc n) (n + 1) (Some (better_entry a b e)) c (sym (add-one n)) is (found a w n laws e here stands b s)

module _ {K : Type 0} where
  pub written : (xs : List (Slot K)) (p : ℕ) (s : Slot K) → p < length xs → Changed (slot_label xs) (slot_label (set xs p s)) p (label_in s)
  written xs p s h = record {
    here = let e = field_set label_in None xs p s h p in grind (arith, nat_tests);
    others = λ q ne. let e = field_set label_in None xs p s h q in grind (arith, nat_tests);
  }

  module _ (xs ys : List (Slot K)) (long : length ys ≡ length xs) where
    pub change : (p : ℕ) (x : Option (Label K)) → p < room_of (length xs) → Changed (slot_label xs) (slot_label ys) p x → Changed (flat_waiting xs) (flat_waiting ys) p x
    change p x h w = record {
      here = let e = w.here in grind (arith, nat_tests);
      others = λ q ne. let e = w.others q ne in grind (arith, nat_tests);
    }

    pub freed : (a : Algebra K) (r : Option (Entry K)) → Scanned a (slot_label xs) (room_of (length xs)) r → Taken (slot_label xs) (slot_label ys) r → Taken (flat_waiting xs) (flat_waiting ys) r
    freed a None s t = λ p. let e = t p in grind (arith, nat_tests)
    freed a (Some e) s t = change e.state None s.0.below t

  pub shown : (a : Algebra K) (xs : List (Slot K)) (r : Option (Entry K)) → Scanned a (slot_label xs) (room_of (length xs)) r → Least a (flat_waiting xs) (flat_next a xs) r
  shown a xs None s = (λ p. grind (arith, nat_tests, s.0 p), s.1)
  shown a xs (Some e) s = (
    record {
      waits = let b = s.0.below in let e = s.0.stands in grind (arith, nat_tests);
      least = λ q y at. grind (arith, nat_tests, s.0.least q y);
    },
    s.1,
  )
