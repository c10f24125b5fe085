-- A day as it is written: YYYY-MM-DD (ISO 8601).
use Rattle.std.specs.Prelude.{ℕ, zero, suc, ◌+◌, ◌-◌, Bool, nat_le, List, pos, if◌then◌else◌}
use Rattle.jiff_core.specs.Calendar.{days_in_month}
use Rattle.adm_types.specs.Seasons.{day_number}
use Rattle.adm_types.specs.DayText.{date_form}

-- the first number from this one on that passes the test, or else the one that many further on
abbrev pub first_from : (ℕ → Bool) → ℕ → ℕ → ℕ
first_from test zero n = n
first_from test (suc further) n = if test n then n else first_from test further (n + 1)

-- the year of a day, from 1990 to 2110: the first that ends on it or after it
unfoldable pub year_of_day : ℕ → ℕ
year_of_day day = first_from (λ year. nat_le day (day_number year 12 31)) 120 1990

-- the month of a day in its year: the first that ends on it or after it
unfoldable pub month_of : ℕ → ℕ → ℕ
month_of year day = first_from (λ month. nat_le day (day_number year month (days_in_month (pos year) month))) 11 1

-- YYYY-MM-DD, where the days of the month count from 1
abbrev pub day_in_month : ℕ → ℕ → ℕ → List ℕ
day_in_month year month day = date_form year month (day + 1 - day_number year month 1)

-- the day as YYYY-MM-DD
unfoldable pub day_text : ℕ → List ℕ
day_text day = day_in_month (year_of_day day) (month_of (year_of_day day) day) day
