-- Ranges of numbers: those of children, and of days.
use Rattle.std.specs.Prelude.{ℕ, Bool, ◌&&◌, nat_le, Option, Some, None, if◌then◌else◌}

-- the greatest number of a child
abbrev pub highest_child : ℕ
highest_child = 9999999

-- the first day of the range, 1990-01-01, and the last, 2110-12-31, counted from 1970-01-01
abbrev pub first_day : ℕ
first_day = 7305

-- the last day of the range, 2110-12-31, in days since 1970-01-01
abbrev pub last_day : ℕ
last_day = 51498

-- a number from low to high
abbrev pub is_from : ℕ → ℕ → ℕ → Bool
is_from low high n = nat_le low n && nat_le n high

-- the number of a child
abbrev pub is_child_number : ℕ → Bool
is_child_number n = is_from 1 highest_child n

-- the child number that a number is
unfoldable pub child_of : ℕ → Option ℕ
child_of n = if is_child_number n then Some n else None
