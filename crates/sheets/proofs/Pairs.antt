-- The pairs of a list, as the code reads them: two bytes at a time.
use Rattle.std.proofs.Common.{◌≡◌, ℕ, zero, suc, ◌+◌, ◌*◌, ◌/◌, ◌<◌, ◌≤◌, ◌&&◌, leb, ltb, List, [], ◌∷◌, length, get_or, refl, ap, ◌∙◌, arith}
use Rattle.std.specs.Simd.{first_chunks}
use Rattle.sheet_layout.specs.FiniteDomain.{part, present_pair}
use Rattle.sheet_layout.specs.Numbers.{byte_at}
use Rattle.sheet_layout.proofs.Assigning.{part_length, part_at}

chunk_at : (xs : List ℕ) (n k : ℕ) → 2 * n ≤ length xs → k < n → get_or (first_chunks 2 n xs) k [] ≡ get_or xs (2 * k) 0 ∷ get_or xs (2 * k + 1) 0 ∷ []
chunk_at xs zero k long h = absurd (omega arith)
chunk_at [] (suc n) k long h = absurd (omega arith)
chunk_at (x ∷ []) (suc n) k long h = absurd (omega arith)
chunk_at (x ∷ y ∷ xs) (suc n) zero long h = refl
chunk_at (x ∷ y ∷ xs) (suc n) (suc k) long h =
    let e : suc (suc (2 * k)) ≡ 2 * suc k = omega arith in
    let f : suc (suc (2 * k + 1)) ≡ 2 * suc k + 1 = omega arith in
    chunk_at xs n k (omega arith) (omega arith) ∙ (λ i. get_or (x ∷ y ∷ xs) (e i) 0 ∷ get_or (x ∷ y ∷ xs) (f i) 0 ∷ [])

pub pair_at : (bs s : List ℕ) (n p k : ℕ) → s ≡ part bs p (2 * n) → p + 2 * n ≤ length bs → k < n → get_or (first_chunks 2 (length s / 2) s) k [] ≡ byte_at bs (p + 2 * k) ∷ byte_at bs (p + 2 * k + 1) ∷ []
pair_at bs s n p k e fits h =
    let long : length s ≡ 2 * n = ap length e ∙ part_length bs p (2 * n) fits in
    let half : length s / 2 ≡ n = omega arith in
    let one = part_at bs p (2 * n) (2 * k) (omega arith) in
    let two = part_at bs p (2 * n) (2 * k + 1) (omega arith) in
    let next : p + (2 * k + 1) ≡ p + 2 * k + 1 = omega arith in
    (λ i. get_or (first_chunks 2 (half i) (e i)) k []) ∙ chunk_at (part bs p (2 * n)) n k (omega (arith, part_length bs p (2 * n) fits)) h ∙ (λ i. one i ∷ two i ∷ []) ∙ ap (λ j. byte_at bs (p + 2 * k) ∷ byte_at bs j ∷ []) next

-- the test of a pair that was read
pub pair_tested : (bs pair : List ℕ) (p least : ℕ) → pair ≡ byte_at bs p ∷ byte_at bs (p + 1) ∷ [] → (leb least (get_or pair 0 0) && (ltb (get_or pair 0 0) (byte_at bs 6) && ltb (get_or pair 1 0) (byte_at bs (9 + get_or pair 0 0)))) ≡ present_pair bs p least
pair_tested bs pair p least e = ap (λ l. leb least (get_or l 0 0) && (ltb (get_or l 0 0) (byte_at bs 6) && ltb (get_or l 1 0) (byte_at bs (9 + get_or l 0 0)))) e
