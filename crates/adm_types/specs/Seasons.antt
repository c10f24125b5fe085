-- A season and its days, as day numbers.
use Rattle.std.specs.Prelude.{◌≡◌, ℕ, zero, suc, ◌≤◌, ◌<◌, ◌+◌, ◌-◌, ◌==◌, Bool, false, not, ◌&&◌, ◌||◌, nat_lt, List, length, All, IsTrue, pos, unsigned_abs}
use Rattle.std.specs.List.{list_any}
use Rattle.std.specs.List.Sorted.{IsStrictlyIncreasing}
use Rattle.jiff_core.specs.Calendar.{days_from_civil, weekday_number}
use Rattle.adm_types.specs.Numbers.{first_day, last_day}
use Rattle.adm_types.specs.declared.seasons.Phase.{Phase}
use Rattle.adm_types.specs.declared.seasons.Phase.TheVariants.{Primary, Secondary}
use Rattle.adm_types.specs.declared.seasons.Size.{Size}

-- a phase, an entry year, the holidays, each once and in order, and how large its register may become
pub record SeasonFacts : Type 0 where
  pub phase : Phase
  pub year : ℕ
  pub holidays : List ℕ
  pub size : Size

-- a day from 1990-01-01 to 2110-12-31
abbrev pub IsDay : ℕ → Type 0
IsDay day = (first_day ≤ day) × (day ≤ last_day)

-- an entry year from 2000 to 2100, and at most 40 holidays, in rising order and each once
pub record IsSeason (season : SeasonFacts) : Type 0 where
  pub year : (2000 ≤ season.year) × (season.year ≤ 2100)
  pub few : length season.holidays ≤ 40
  pub rising : IsStrictlyIncreasing season.holidays
  pub days : All IsDay season.holidays

-- the number of the day, counted from 1970-01-01
abbrev pub day_number : ℕ → ℕ → ℕ → ℕ
day_number year month day = unsigned_abs (days_from_civil (pos year) month day)

-- the list has just these days, in rising order and each once
pub record IsRising (days list : List ℕ) : Type 0 where
  pub rising : IsStrictlyIncreasing list
  pub same : (day : ℕ) → list_any (λ other. other == day) list ≡ list_any (λ other. other == day) days

-- 31 October of the year before entry, or 15 January of the entry year
abbrev pub closing_of : Phase → ℕ → ℕ
closing_of Primary year = day_number year 1 15
closing_of Secondary year = day_number (year - 1) 10 31

-- the closing date of a season: an application by this day takes part in the first round
abbrev pub closing : SeasonFacts → ℕ
closing season = closing_of season.phase season.year

-- 16 April or 1 March of the entry year
abbrev pub national_day_of : Phase → ℕ → ℕ
national_day_of Primary year = day_number year 4 16
national_day_of Secondary year = day_number year 3 1

-- no Saturday, no Sunday and no holiday
abbrev pub is_working_day : List ℕ → ℕ → Bool
is_working_day holidays day = nat_lt (weekday_number (pos day)) 5 && not (list_any (λ holiday. holiday == day) holidays)

-- the first working day not before the national day
pub record IsOfferDay (season : SeasonFacts) (day : ℕ) : Type 0 where
  pub not_before : national_day_of season.phase season.year ≤ day
  pub working : IsTrue (is_working_day season.holidays day)
  pub first : (earlier : ℕ) → national_day_of season.phase season.year ≤ earlier → earlier < day → is_working_day season.holidays earlier ≡ false

-- whether one of so many days, from the first on, is a working day
abbrev pub has_working_day : List ℕ → ℕ → ℕ → Bool
has_working_day holidays first zero = false
has_working_day holidays first (suc days) = is_working_day holidays (first + days) || has_working_day holidays first days

-- whether the day is the offer day or a later one: from the national day to it there is a working day
abbrev pub reaches_offer_day : SeasonFacts → ℕ → Bool
reaches_offer_day season day = let first = national_day_of season.phase season.year in has_working_day season.holidays first (day + 1 - first)

-- 31 December of the entry year
abbrev pub lists_end : SeasonFacts → ℕ
lists_end season = day_number season.year 12 31
