-- The length of a body, as a request writes it.
use Rattle.std.specs.Prelude.{ℕ, Bool, ◌&&◌, List, length, if◌then◌else◌, Option, Some, None}
use Rattle.std.specs.List.{list_all}
use Rattle.std.specs.Char.{is_ascii_digit}
use Rattle.std.specs.Str.Parse.{digits_value}
use Rattle.adm_types.specs.Limits.{is_from}

-- 1 to 10 decimal digits
abbrev pub is_short_numeral : List ℕ → Bool
is_short_numeral bytes = is_from 1 10 (length bytes) && list_all is_ascii_digit bytes

-- the number that 1 to 10 decimal digits write
abbrev pub body_length_of : List ℕ → Option ℕ
body_length_of bytes = if is_short_numeral bytes then Some (digits_value 10 bytes) else None
