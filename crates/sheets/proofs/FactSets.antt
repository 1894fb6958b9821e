-- Sets of facts as numbers: what `&`, `|` and `!` do to them.
use Rattle.std.proofs.Common.{◌≡◌, ℕ, zero, suc, ◌+◌, ◌-◌, ◌*◌, ◌/◌, ◌%◌, ◌^◌, ◌<◌, ◌≤◌, min, max, Bool, true, false, cond, not, ◌&&◌, ◌||◌, eqb, ◌⊎◌, sym, refl, ap, ◌∙◌, inl, inr, ⊎_elim, mod-eq_of_lt, arith, pow_mono}
use native.Mathlib.Nat.{pow-succ', div-div-eq-div-mul}
use lib.Bits.{bit_and, bit_or, and_step, or_step, and_shr, or_shr, and_le_l, and_le_r, or_lt}
use Rattle.std.proofs.lemmas.Nat.{mod-pow-add}
use Rattle.std.proofs.lemmas.Bool.{and_parts, and_from, eqb-true, eq-eqb, cases_lt, cond_both}
use Rattle.std.proofs.lemmas.Bool.Decides.{nat_tests}
use Rattle.sheets.specs.StripsTasks.{Facts, facts_of, set_of, subset, applied}

-- bit i of a conjunction and of a disjunction
and_bit : (a b i : ℕ) → bit_and a b / 2 ^ i % 2 ≡ min (a / 2 ^ i % 2) (b / 2 ^ i % 2)
and_bit a b i = rw (and_shr a b i, and_step (a / 2 ^ i) (b / 2 ^ i)) (omega arith)

or_bit : (a b i : ℕ) → bit_or a b / 2 ^ i % 2 ≡ max (a / 2 ^ i % 2) (b / 2 ^ i % 2)
or_bit a b i = rw (or_shr a b i, or_step (a / 2 ^ i) (b / 2 ^ i)) (omega arith)

-- a number shifted by one more
shift_more : (x i : ℕ) → x / 2 ^ suc i ≡ x / 2 / 2 ^ i
shift_more x i = ap (λ n. x / n) (pow-succ' 2 i) ∙ sym (div-div-eq-div-mul x 2 (2 ^ i))

-- the bits of a complement are turned over
not_bit : (k d i : ℕ) → d < 2 ^ k → i < k → (2 ^ k - 1 - d) / 2 ^ i % 2 ≡ 1 - d / 2 ^ i % 2
not_bit zero d i h lt = absurd (omega arith)
not_bit (suc k) d zero h lt =
    let even : 2 ^ suc k ≡ 2 * 2 ^ k = pow-succ' 2 k in
    let top : d < 2 * 2 ^ k = omega arith in
    rw even (odd (2 ^ k) d top)
  where
    odd : (n m : ℕ) → m < 2 * n → (2 * n - 1 - m) / 1 % 2 ≡ 1 - m / 1 % 2
    odd n m h = omega arith
not_bit (suc k) d (suc i) h lt =
    let even : 2 ^ suc k ≡ 2 * 2 ^ k = pow-succ' 2 k in
    let top : d < 2 * 2 ^ k = omega arith in
    let half : (2 * 2 ^ k - 1 - d) / 2 ≡ 2 ^ k - 1 - d / 2 = halved (2 ^ k) d top in
    let less : d / 2 < 2 ^ k = omega arith in
    rw (shift_more (2 ^ suc k - 1 - d) i, shift_more d i, even, half) (not_bit k (d / 2) i less (omega arith))
  where
    halved : (n m : ℕ) → m < 2 * n → (2 * n - 1 - m) / 2 ≡ n - 1 - m / 2
    halved n m h = omega arith

low_bit : (x i : ℕ) → x / 2 ^ i % 2 < 2
low_bit x i = omega arith

both_bits : (x y : ℕ) → x < 2 → y < 2 → eqb (min x y) 1 ≡ (eqb x 1 && eqb y 1)
both_bits x y hx hy = grind (arith, nat_tests)

either_bit : (x y : ℕ) → x < 2 → y < 2 → eqb (max x y) 1 ≡ (eqb x 1 || eqb y 1)
either_bit x y hx hy = grind (arith, nat_tests)

turned_bit : (x : ℕ) → x < 2 → eqb (1 - x) 1 ≡ not (eqb x 1)
turned_bit x hx = grind (arith, nat_tests)

pub facts_and : (a b i : ℕ) → facts_of (bit_and a b) i ≡ (facts_of a i && facts_of b i)
facts_and a b i = ap (λ n. eqb n 1) (and_bit a b i) ∙ both_bits _ _ (low_bit a i) (low_bit b i)

pub facts_or : (a b i : ℕ) → facts_of (bit_or a b) i ≡ (facts_of a i || facts_of b i)
facts_or a b i = ap (λ n. eqb n 1) (or_bit a b i) ∙ either_bit _ _ (low_bit a i) (low_bit b i)

pub facts_not : (k d i : ℕ) → d < 2 ^ k → i < k → facts_of (2 ^ k - 1 - d) i ≡ not (facts_of d i)
facts_not k d i h lt = ap (λ n. eqb n 1) (not_bit k d i h lt) ∙ turned_bit _ (low_bit d i)

pub set_same : (n : ℕ) (f g : Facts) → ((i : ℕ) → i < n → f i ≡ g i) → set_of n f ≡ set_of n g
set_same zero f g h = refl
set_same (suc n) f g h = λ j. set_same n f g (λ i lt. h i (omega arith)) j + cond (h n (omega arith) j) (2 ^ n) 0

-- the facts of a number below n are its last n bits
set_low : (n x : ℕ) → set_of n (facts_of x) ≡ x % 2 ^ n
set_low zero x = omega arith
set_low (suc n) x =
    let rest = set_low n x in
    let split : x % 2 ^ (1 + n) ≡ (x / 2 ^ n % 2 ^ 1) * 2 ^ n + x % 2 ^ n = mod-pow-add x 1 n in
    let more : x % 2 ^ suc n ≡ (x / 2 ^ n % 2) * 2 ^ n + x % 2 ^ n = ap (λ m. x % 2 ^ m) (omega arith) ∙ split in
    ap (λ m. m + cond (facts_of x n) (2 ^ n) 0) rest ∙ digit (x / 2 ^ n % 2) (2 ^ n) (x % 2 ^ n) (low_bit x n) ∙ sym more
  where
    digit : (b m r : ℕ) → b < 2 → r + cond (eqb b 1) m 0 ≡ b * m + r
    digit b m r h =
        ⊎_elim
        (λ (e : b ≡ 0). rw e (omega arith))
        (λ (e : b ≡ 1). rw e (omega arith))
        (two b h)
      where
        two : (b : ℕ) → b < 2 → (b ≡ 0) ⊎ (b ≡ 1)
        two zero h = inl refl
        two (suc zero) h = inr refl
        two (suc (suc n)) h = absurd (omega arith)

pub set_of_lem : (n x : ℕ) → x < 2 ^ n → set_of n (facts_of x) ≡ x
set_of_lem n x h = set_low n x ∙ mod-eq_of_lt h

implied : (a b : Bool) → (not a || b) ≡ true → a ≡ true → b ≡ true
implied true b h e = h
implied false b h e = cc

implies : (a b : Bool) → (a ≡ true → b ≡ true) → (not a || b) ≡ true
implies true b h = h refl
implies false b h = refl

pub subset_true : (n : ℕ) (f g : Facts) → subset n f g ≡ true → (i : ℕ) → i < n → f i ≡ true → g i ≡ true
subset_true zero f g h i lt e = absurd (omega arith)
subset_true (suc n) f g h i lt e =
    let parts = and_parts (subset n f g) (not (f n) || g n) h in
    ⊎_elim
    (λ (less : i < n). subset_true n f g parts.0 i less e)
    (λ (more : n ≤ i).
    let same : i ≡ n = omega arith in
    ap g same ∙ implied (f n) (g n) parts.1 (ap f (sym same) ∙ e))
    (cases_lt i n)

pub subset_from : (n : ℕ) (f g : Facts) → ((i : ℕ) → i < n → f i ≡ true → g i ≡ true) → subset n f g ≡ true
subset_from zero f g h = refl
subset_from (suc n) f g h =
    and_from (subset n f g) (not (f n) || g n) (subset_from n f g (λ i lt. h i (omega arith))) (implies (f n) (g n) (h n (omega arith)))

-- two tests that hold together are equal
same_test : (a b : Bool) → (a ≡ true → b ≡ true) → (b ≡ true → a ≡ true) → a ≡ b
same_test true b f g = sym (f refl)
same_test false true f g = g refl
same_test false false f g = refl

absorbed : (a b : Bool) → (a ≡ true → b ≡ true) → (b && a) ≡ a
absorbed true b h = ap (λ x. x && true) (h refl)
absorbed false true h = refl
absorbed false false h = refl

-- a set lies within another exactly when their conjunction is the set
pub contains : (n p s : ℕ) → p < 2 ^ n → eqb (bit_and s p) p ≡ subset n (facts_of p) (facts_of s)
contains n p s h =
    same_test (eqb (bit_and s p) p) (subset n (facts_of p) (facts_of s))
    (λ e. subset_from n (facts_of p) (facts_of s) (λ i lt holds.
    (and_parts (facts_of s i) (facts_of p i) (sym (facts_and s p i) ∙ ap (λ x. facts_of x i) (eqb-true (bit_and s p) p e) ∙ holds)).0))
    (λ e. eq-eqb (bit_and s p) p
    (
    sym (set_of_lem n (bit_and s p) (le_lt (and_le_r s p) h))
    ∙ set_same n (facts_of (bit_and s p)) (facts_of p) (λ i lt. facts_and s p i ∙ absorbed (facts_of p i) (facts_of s i) (subset_true n (facts_of p) (facts_of s) e i lt))
    ∙ set_of_lem n p h
    ))
  where
    le_lt : {a b c : ℕ} → a ≤ b → b < c → a < c
    le_lt x y = omega arith

-- what is left of a state without the deleted facts, with the added ones
pub applied-set : (n s d a : ℕ) → n ≤ 32 → s < 2 ^ n → d < 2 ^ n → a < 2 ^ n → bit_or (bit_and s (2 ^ 32 - 1 - d)) a ≡ set_of n (applied (facts_of s) (facts_of d) (facts_of a))
applied-set n s d a few hs hd ha =
    let wide : d < 2 ^ 32 = lt_le hd (pow_mono few) in
    let kept = bit_and s (2 ^ 32 - 1 - d) in
    let low : kept < 2 ^ n = le_lt (and_le_l s (2 ^ 32 - 1 - d)) hs in
    sym (set_of_lem n (bit_or kept a) (or_lt n kept a low ha))
    ∙ set_same n (facts_of (bit_or kept a)) (applied (facts_of s) (facts_of d) (facts_of a)) (λ i lt.
    facts_or kept a i ∙ ap (λ b. b || facts_of a i) (facts_and s (2 ^ 32 - 1 - d) i ∙ ap (λ b. facts_of s i && b) (facts_not 32 d i wide (omega arith))))
  where
    le_lt : {x y z : ℕ} → x ≤ y → y < z → x < z
    le_lt f g = omega arith

    lt_le : {x y z : ℕ} → x < y → y ≤ z → x < z
    lt_le f g = omega arith

pub set_below : (n : ℕ) (f : Facts) → set_of n f < 2 ^ n
set_below zero f = omega arith
set_below (suc n) f =
    let less = set_below n f in
    let twice : 2 ^ suc n ≡ 2 * 2 ^ n = pow-succ' 2 n in
    cond_both (f n) (2 ^ n) 0 (λ x. set_of n f + x < 2 ^ suc n) (λ e. omega arith) (λ e. omega arith)
