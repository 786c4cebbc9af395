-- Numbers in bytes, the lowest byte first. Behind the end a byte is 0.
use Rattle.std.specs.Prelude.{ℕ, zero, suc, ◌+◌, ◌*◌, ◌/◌, ◌%◌, ◌^◌, ◌<◌, List, [], ◌∷◌, ◌++◌, get_or}

abbrev pub byte : List ℕ → ℕ → ℕ
byte s at = get_or s at 0

abbrev pub u16 : List ℕ → ℕ → ℕ
u16 s at = byte s at + byte s (at + 1) * 256

abbrev pub u64 : List ℕ → ℕ → ℕ
u64 s at =
    byte s at + byte s (at + 1) * 256 + byte s (at + 2) * 256 ^ 2 + byte s (at + 3) * 256 ^ 3 + byte s (at + 4) * 256 ^ 4
    + byte s (at + 5) * 256 ^ 5 + byte s (at + 6) * 256 ^ 6 + byte s (at + 7) * 256 ^ 7

-- n numbers of eight bytes, one after another
abbrev pub constants : ℕ → List ℕ → ℕ → List ℕ
constants zero s at = []
constants (suc n) s at = u64 s at ∷ constants n s (at + 8)

-- a list of bytes
abbrev pub Bytes : List ℕ → Type 0
Bytes s = (i : ℕ) → byte s i < 256

-- ---- writing

-- n bytes of a number, the lowest first
abbrev pub bytes_of : ℕ → ℕ → List ℕ
bytes_of zero x = []
bytes_of (suc n) x = x % 256 ∷ bytes_of n (x / 256)

abbrev pub all_bytes : ℕ → List ℕ → List ℕ
all_bytes n [] = []
all_bytes n (x ∷ xs) = bytes_of n x ++ all_bytes n xs
