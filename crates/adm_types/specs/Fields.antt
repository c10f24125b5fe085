-- The texts of numbers, as commands, rows of a file and letters share them.
use Rattle.std.specs.Prelude.{ℕ, ◌^◌, Bool, not, ◌&&◌, ◌||◌, ◌==◌, nat_lt, nat_eq, List, length, slice_index, Option, Some, None, if◌then◌else◌}
use Rattle.std.specs.List.{list_all}
use Rattle.std.specs.Option.{option_and_then}
use Rattle.std.specs.Fmt.{decimal}
use Rattle.std.specs.Char.{is_ascii_digit}
use Rattle.std.specs.Str.Parse.{digits_value}
use Rattle.adm_types.specs.Numbers.{is_from, child_of}

-- 1 to 10 decimal digits without a leading zero, save `0` itself
abbrev pub has_plain_digits : List ℕ → Bool
has_plain_digits text = is_from 1 10 (length text) && list_all is_ascii_digit text && (nat_eq (length text) 1 || not (slice_index text 0 == 48))

-- the number that a plain number writes: its digits, where they write at most 4,294,967,295
abbrev pub plain_of : List ℕ → Option ℕ
plain_of text = if has_plain_digits text && nat_lt (digits_value 10 text) (2 ^ 32) then Some (digits_value 10 text) else None

-- the child number that a text writes, as a plain number from 1 to 9,999,999
abbrev pub child_named : List ℕ → Option ℕ
child_named text = option_and_then child_of (plain_of text)
