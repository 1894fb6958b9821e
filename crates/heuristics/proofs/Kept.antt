-- The blind heuristic is admissible and consistent, and the layers keep what the heuristics below have.
use Rattle.std.proofs.Common.{◌≡◌, ℕ, ◌%◌, max, Bool, true, false, eqb, Some, None, Option, refl, arith}
use Rattle.planning.specs.Costs.{Algebra, CostLaws}
use Rattle.planning.specs.Estimates.{Estimates, AtMost}
use Rattle.planning.proofs.Admissibility.{not_before_trans}
use Rattle.heuristics.specs.Layers.{later_estimate, maximum, strided}
use Rattle.heuristics.specs.Promises.{BlindAdmissible, MaximumAdmissible, MaximumConsistent, StridedAdmissible}

module _ {K : Type 0} (a : Algebra K) (laws : CostLaws a) where
  pub blind_admissible : BlindAdmissible a
  blind_admissible t p actions k s = (a.zero, refl, laws.zero_first k)

  later_at_most : (h g : Estimates K) (p : ℕ) (k : K) → AtMost a h p k → AtMost a g p k → AtMost a (maximum a h g) p k
  later_at_most h g p k (x, ex, px) (y, ey, py) = go (a.before x y) refl
    where
      go : (b : Bool) → a.before x y ≡ b → AtMost a (maximum a h g) p k
      go true e = (y, grind arith, py)
      go false e = (x, grind arith, px)

  pub maximum_admissible : (h g : Estimates K) → MaximumAdmissible a h g
  maximum_admissible h g t hh hg p actions k s = later_at_most h g p k (hh p actions k s) (hg p actions k s)

  -- an estimate that is at most j is at most any k that is not before j
  at_most_more : (h : Estimates K) (p : ℕ) (j k : K) → AtMost a h p j → a.before k j ≡ false → AtMost a h p k
  at_most_more h p j k (x, e, below) more = (x, e, not_before_trans a laws k j x more below)

  -- what is known where the later of two estimates is z
  record Later (u v : Option K) (z : K) : Type 0 where
    x : K
    y : K
    first : u ≡ Some x
    second : v ≡ Some y
    first_not_after : a.before z x ≡ false
    second_not_after : a.before z y ≡ false

  later_from : (u v : Option K) (z : K) → later_estimate a u v ≡ Some z → Later u v z
  later_from None v z e = let n : ◌≡◌ {A = ℕ} 0 1 = cc in absurd (omega arith)
  later_from (Some x) None z e = let n : ◌≡◌ {A = ℕ} 0 1 = cc in absurd (omega arith)
  later_from (Some x) (Some y) z e =
      record {
        x = x;
        y = y;
        first = refl;
        second = refl;
        first_not_after = grind (arith, laws.irreflexive, laws.transitive);
        second_not_after = grind (arith, laws.irreflexive, laws.transitive);
      }

  pub maximum_consistent : (h g : Estimates K) → MaximumConsistent a h g
  maximum_consistent h g t hh hg p action to e z f =
      let l = later_from (h to.state) (g to.state) z f in
      let c = a.charge to.coins in
      later_at_most h g p (a.plus c z)
      (at_most_more h p _ _ (hh p action to e l.x l.first) (laws.isotone_front l.x z c l.first_not_after))
      (at_most_more g p _ _ (hg p action to e l.y l.second) (laws.isotone_front l.y z c l.second_not_after))

  pub strided_admissible : (stride : ℕ) (h : Estimates K) → StridedAdmissible a stride h
  strided_admissible stride h t hh p actions k s = go (eqb (p % max stride 1) 0) refl
    where
      go : (b : Bool) → eqb (p % max stride 1) 0 ≡ b → AtMost a (strided a stride h) p k
      go true e = let (x, ex, px) = hh p actions k s in (x, grind arith, px)
      go false e = (a.zero, grind arith, laws.zero_first k)
