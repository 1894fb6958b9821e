-- Cost algebras: costs that add up along a path and compare.
use Rattle.std.specs.Prelude.{◌≡◌, ℕ, ◌+◌, ◌^◌, ◌≤◌, Bool, true, false}

pub record Algebra (K : Type 0) : Type 0 where
  pub zero : K
  -- the exact sum
  pub plus : K → K → K
  pub before : K → K → Bool
  pub size : K → ℕ
  -- what an action is charged for its coins
  pub charge : ℕ → K
  -- the sum as it is computed, which stops at a bound
  pub computed : K → K → K

pub record CostLaws {K : Type 0} (a : Algebra K) : Type 0 where
  pub assoc : (x y z : K) → a.plus (a.plus x y) z ≡ a.plus x (a.plus y z)
  pub zero_left : (x : K) → a.plus a.zero x ≡ x
  pub zero_right : (x : K) → a.plus x a.zero ≡ x
  -- a strict total order in which nothing is before zero
  pub irreflexive : (x : K) → a.before x x ≡ false
  pub transitive : (x y z : K) → a.before x y ≡ true → a.before y z ≡ true → a.before x z ≡ true
  pub total : (x y : K) → a.before x y ≡ false → a.before y x ≡ false → x ≡ y
  pub zero_first : (x : K) → a.before x a.zero ≡ false
  -- adding the same cost in front or behind keeps "not after"
  pub isotone_front : (x y z : K) → a.before y x ≡ false → a.before (a.plus z y) (a.plus z x) ≡ false
  pub isotone_behind : (x y z : K) → a.before y x ≡ false → a.before (a.plus y z) (a.plus x z) ≡ false
  pub size_zero : a.size a.zero ≡ 0
  pub size_plus : (x y : K) → a.size (a.plus x y) ≤ a.size x + a.size y
  pub size_charge : (c : ℕ) → c ≤ 1000000 → a.size (a.charge c) ≤ 1000000
  -- the computed sum is exact while the sizes add up to at most 2 ^ 62
  pub exact : (x y : K) → a.size x + a.size y ≤ 2 ^ 62 → a.computed x y ≡ a.plus x y

-- adding the same cost behind keeps "before"
pub record Strict {K : Type 0} (a : Algebra K) : Type 0 where
  pub behind : (x y z : K) → a.before x y ≡ true → a.before (a.plus x z) (a.plus y z) ≡ true
