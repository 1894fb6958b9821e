-- Reading and writing numbers and parts at a place of a list of bytes.
use Rattle.std.proofs.Common.{◌≡◌, ℕ, ◌+◌, ◌*◌, ◌/◌, ◌%◌, ◌<◌, ◌≤◌, List, [], ◌∷◌, ◌++◌, length, get_or, drop, sym, refl, ap, ◌∙◌, add-zero, arith}
use Rattle.std.proofs.lemmas.List.{drop_more, drop-drop, get_or-drop, drop_at}
use Rattle.sheet_layout.specs.Numbers.{Bytes, be16, be32, byte_at, num16, num32}

-- written out, a number that was read gives the bytes back
back16 : (x y : ℕ) → x < 256 → y < 256 → be16 (x * 256 + y) ≡ x ∷ y ∷ []
back16 x y hx hy =
    let e : (x * 256 + y) / 256 % 256 ≡ x = omega arith in
    let f : (x * 256 + y) % 256 ≡ y = omega arith in
    cc

back32 : (x y z w : ℕ) → x < 256 → y < 256 → z < 256 → w < 256 → be32 (x * 16777216 + y * 65536 + z * 256 + w) ≡ x ∷ y ∷ z ∷ w ∷ []
back32 x y z w hx hy hz hw =
    let e : (x * 16777216 + y * 65536 + z * 256 + w) / 16777216 % 256 ≡ x = omega arith in
    let f : (x * 16777216 + y * 65536 + z * 256 + w) / 65536 % 256 ≡ y = omega arith in
    let g : (x * 16777216 + y * 65536 + z * 256 + w) / 256 % 256 ≡ z = omega arith in
    let h : (x * 16777216 + y * 65536 + z * 256 + w) % 256 ≡ w = omega arith in
    cc

pub next : (bs : List ℕ) (p q : ℕ) → p + 1 ≡ q → p < length bs → drop p bs ≡ byte_at bs p ∷ drop q bs
next bs p q e h = drop_more bs p 0 h ∙ ap (λ i. get_or bs p 0 ∷ drop i bs) e

pub read16 : (bs : List ℕ) (p : ℕ) → Bytes bs → p + 2 ≤ length bs → be16 (num16 bs p) ++ drop (p + 2) bs ≡ drop p bs
read16 bs p small fits =
    let a = next bs p (p + 1) refl (omega arith) in
    let b = next bs (p + 1) (p + 2) (omega arith) (omega arith) in
    let e = back16 (byte_at bs p) (byte_at bs (p + 1)) (small p) (small (p + 1)) in
    ap (λ l. l ++ drop (p + 2) bs) e ∙ sym (a ∙ ap (λ l. byte_at bs p ∷ l) b)

pub read32 : (bs : List ℕ) (p : ℕ) → Bytes bs → p + 4 ≤ length bs → be32 (num32 bs p) ++ drop (p + 4) bs ≡ drop p bs
read32 bs p small fits =
    let a = next bs p (p + 1) refl (omega arith) in
    let b = next bs (p + 1) (p + 2) (omega arith) (omega arith) in
    let c = next bs (p + 2) (p + 3) (omega arith) (omega arith) in
    let d = next bs (p + 3) (p + 4) (omega arith) (omega arith) in
    let e = back32 (byte_at bs p) (byte_at bs (p + 1)) (byte_at bs (p + 2)) (byte_at bs (p + 3)) (small p) (small (p + 1)) (small (p + 2)) (small (p + 3)) in
    ap (λ l. l ++ drop (p + 4) bs) e ∙ sym (a ∙ ap (λ l. byte_at bs p ∷ l) (b ∙ ap (λ l. byte_at bs (p + 1) ∷ l) (c ∙ ap (λ l. byte_at bs (p + 2) ∷ l) d)))

-- what is read where a list was written
pub at_front : (bs : List ℕ) (p : ℕ) (xs rest : List ℕ) → drop p bs ≡ xs ++ rest → (i : ℕ) → get_or bs (p + i) 0 ≡ get_or (xs ++ rest) i 0
at_front bs p xs rest e i = sym (get_or-drop p bs i 0) ∙ ap (λ l. get_or l i 0) e

pub past : (bs : List ℕ) (p n : ℕ) (xs rest : List ℕ) → drop p bs ≡ xs ++ rest → length xs ≡ n → drop (p + n) bs ≡ rest
past bs p n xs rest e h = sym (drop-drop n p bs) ∙ ap (drop n) e ∙ drop_at xs rest n h

pub written16 : (bs : List ℕ) (p v : ℕ) (rest : List ℕ) → v < 65536 → drop p bs ≡ be16 v ++ rest → num16 bs p ≡ v
written16 bs p v rest h e =
    let a : byte_at bs p ≡ v / 256 % 256 = ap (λ i. get_or bs i 0) (sym (add-zero p)) ∙ at_front bs p (be16 v) rest e 0 in
    let b : byte_at bs (p + 1) ≡ v % 256 = at_front bs p (be16 v) rest e 1 in
    omega arith

-- a number below 2 ^ 32 is its four digits in base 256
digits32 : (v : ℕ) → v < 4294967296 → (v / 16777216 % 256) * 16777216 + (v / 65536 % 256) * 65536 + (v / 256 % 256) * 256 + v % 256 ≡ v
digits32 v h =
    let e : v / 65536 ≡ v / 256 / 256 = omega arith in
    let f : v / 16777216 ≡ v / 256 / 256 / 256 = omega arith in
    let a : v / 256 * 256 + v % 256 ≡ v = omega arith in
    let b : v / 256 / 256 * 256 + v / 256 % 256 ≡ v / 256 = omega arith in
    let c : v / 256 / 256 / 256 * 256 + v / 256 / 256 % 256 ≡ v / 256 / 256 = omega arith in
    let g : v / 256 / 256 / 256 % 256 ≡ v / 256 / 256 / 256 = omega arith in
    rw (e, f) (glue (v / 256 / 256 / 256) (v / 256 / 256 / 256 % 256) (v / 256 / 256 % 256) (v / 256 % 256) (v % 256) (v / 256 / 256) (v / 256) v g c b a)
  where
    glue : (q x y z w m k n : ℕ) → x ≡ q → q * 256 + y ≡ m → m * 256 + z ≡ k → k * 256 + w ≡ n → x * 16777216 + y * 65536 + z * 256 + w ≡ n
    glue q x y z w m k n a b c d = omega arith

pub written32 : (bs : List ℕ) (p v : ℕ) (rest : List ℕ) → v < 4294967296 → drop p bs ≡ be32 v ++ rest → num32 bs p ≡ v
written32 bs p v rest h e =
    let a : byte_at bs p ≡ v / 16777216 % 256 = ap (λ i. get_or bs i 0) (sym (add-zero p)) ∙ at_front bs p (be32 v) rest e 0 in
    let b : byte_at bs (p + 1) ≡ v / 65536 % 256 = at_front bs p (be32 v) rest e 1 in
    let c : byte_at bs (p + 2) ≡ v / 256 % 256 = at_front bs p (be32 v) rest e 2 in
    let d : byte_at bs (p + 3) ≡ v % 256 = at_front bs p (be32 v) rest e 3 in
    omega (arith, digits32 v h)
