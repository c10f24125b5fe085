-- Verified flags of a child, as the bits of a number.
use Rattle.std.specs.Prelude.{ℕ, ◌/◌, ◌%◌, ◌^◌, ◌==◌, Bool, bit_or, nat_le, List, [], ◌∷◌, Option, Some, None, if◌then◌else◌}
use Rattle.std.specs.List.{list_any}

-- the flag that a number is: 0 to 15
unfoldable pub flag_of : ℕ → Option ℕ
flag_of n = if nat_le n 15 then Some n else None

-- the number with the bit of each of these flags, where a flag that is repeated counts once
abbrev pub bits_of : List ℕ → ℕ
bits_of [] = 0
bits_of (flag ∷ flags) = bit_or (2 ^ flag) (bits_of flags)

-- whether the bit of a flag is among the flags
abbrev pub has_flag : ℕ → ℕ → Bool
has_flag bits flag = bits / 2 ^ flag % 2 == 1

-- whether the flag is one of these
abbrev pub is_among : List ℕ → ℕ → Bool
is_among flags flag = list_any (λ other. other == flag) flags
