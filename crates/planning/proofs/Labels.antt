-- The order of labels: "not after" is a total preorder, and adding a cost behind keeps it both ways.
use Rattle.std.proofs.Common.{◌≡◌, true, false, ap, arith}
use Rattle.planning.specs.Costs.{Algebra, CostLaws, Strict}
use Rattle.planning.specs.Labels.{Label, earlier}

-- x is not after y
abbrev pub NotAfter : {K : Type 0} → Algebra K → Label K → Label K → Type 0
NotAfter a x y = earlier a y x ≡ false

-- the label with a cost added behind
abbrev pub shift : {K : Type 0} → Algebra K → Label K → K → Label K
shift a x k = record { cost = a.plus x.cost k; tagged = x.tagged }

module _ {K : Type 0} (a : Algebra K) (l : CostLaws a) where
  pub not_after_self : (x : Label K) → NotAfter a x x
  not_after_self x = grind (arith, l.irreflexive x.cost)

  pub not_after_trans : (x y z : Label K) → NotAfter a x y → NotAfter a y z → NotAfter a x z
  not_after_trans x y z p q = grind (arith, l.transitive, l.total, l.irreflexive)

  pub earlier_not_after : (x y : Label K) → earlier a x y ≡ true → NotAfter a x y
  earlier_not_after x y p = grind (arith, l.transitive, l.total, l.irreflexive)

  pub not_after_cost : (x y : Label K) → NotAfter a x y → a.before y.cost x.cost ≡ false
  not_after_cost x y p = grind arith

  -- a label that is not after a tagged one of no earlier cost is tagged
  pub tagged_from : (x : Label K) (k : K) → NotAfter a x (record { cost = k; tagged = true }) → a.before x.cost k ≡ false → x.tagged ≡ true
  tagged_from x k p q = grind (arith, l.total)

  pub zero_from : (x : K) → a.before a.zero x ≡ false → x ≡ a.zero
  zero_from x p = l.total x a.zero (l.zero_first x) p

  pub shift_zero : (x : Label K) → shift a x a.zero ≡ x
  shift_zero x = ap {B = Label K} (λ k. record { cost = k; tagged = x.tagged }) (l.zero_right x.cost)

  pub shift_shift : (x : Label K) (j k : K) → shift a (shift a x j) k ≡ shift a x (a.plus j k)
  shift_shift x j k = ap {B = Label K} (λ k. record { cost = k; tagged = x.tagged }) (l.assoc x.cost j k)

  -- a later cost behind makes no earlier label
  pub shift_front : (x : Label K) (j k : K) → a.before k j ≡ false → NotAfter a (shift a x j) (shift a x k)
  shift_front x j k p = grind (arith, l.isotone_front j k x.cost p)

  module _ (strict : Strict a) where
    pub shift_earlier : (x y : Label K) (k : K) → earlier a x y ≡ true → earlier a (shift a x k) (shift a y k) ≡ true
    shift_earlier x y k p = grind (arith, l.total, l.irreflexive, strict.behind)

    pub shift_not_after : (x y : Label K) (k : K) → NotAfter a x y → NotAfter a (shift a x k) (shift a y k)
    shift_not_after x y k p = grind (arith, l.total, l.irreflexive, l.transitive, strict.behind)
