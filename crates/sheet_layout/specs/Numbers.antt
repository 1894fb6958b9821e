-- Numbers in a sheet: unsigned, big-endian.
use Rattle.std.specs.Prelude.{ℕ, ◌+◌, ◌*◌, ◌/◌, ◌%◌, ◌<◌, List, [], ◌∷◌, slice_index}

-- every element is a byte
abbrev pub Bytes : List ℕ → Type 0
Bytes bs = (i : ℕ) → slice_index bs i < 256

abbrev pub be16 : ℕ → List ℕ
be16 n = n / 256 % 256 ∷ n % 256 ∷ []

abbrev pub be32 : ℕ → List ℕ
be32 n = n / 16777216 % 256 ∷ n / 65536 % 256 ∷ n / 256 % 256 ∷ n % 256 ∷ []

-- the byte, and the numbers of 16 and 32 bits, that stand at a place
abbrev pub byte_at : List ℕ → ℕ → ℕ
byte_at bs p = slice_index bs p

abbrev pub num16 : List ℕ → ℕ → ℕ
num16 bs p = byte_at bs p * 256 + byte_at bs (p + 1)

abbrev pub num32 : List ℕ → ℕ → ℕ
num32 bs p = byte_at bs p * 16777216 + byte_at bs (p + 1) * 65536 + byte_at bs (p + 2) * 256 + byte_at bs (p + 3)
