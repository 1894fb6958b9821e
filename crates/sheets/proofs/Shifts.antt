-- A number shifted right to nothing.
use Rattle.std.proofs.Common.{◌≡◌, ℕ, ◌/◌, ◌^◌, ◌<◌, ◌≤◌, eqb, ltb, sym, ◌∙◌, ⊎_elim, one-mul, arith, pow_pos}
use Rattle.std.proofs.lemmas.Nat.{div_below, le-div}
use Rattle.std.proofs.lemmas.Bool.{cases_lt, lt-ltb, le-ltb, eq-eqb, ne_eqb}

pub shifted_out : (n k : ℕ) → eqb (n / 2 ^ k) 0 ≡ ltb n (2 ^ k)
shifted_out n k =
    ⊎_elim
    (λ (lt : n < 2 ^ k). let none : n / 2 ^ k < 1 = div_below n (2 ^ k) 1 (pow_pos k) (rw one-mul lt) in eq-eqb (n / 2 ^ k) 0 (omega arith) ∙ sym (lt-ltb n (2 ^ k) lt))
    (λ (le : 2 ^ k ≤ n). let some : 1 ≤ n / 2 ^ k = le-div 1 n (2 ^ k) (pow_pos k) (rw one-mul le) in ne_eqb (n / 2 ^ k) 0 (λ e. omega arith) ∙ sym (le-ltb n (2 ^ k) le))
    (cases_lt n (2 ^ k))
