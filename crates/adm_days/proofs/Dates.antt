-- The year, the month and the day of a day number are those of its date.
use Rattle.std.proofs.Common.{◌≡◌, ◌∙◌, ℕ, zero, suc, ◌+◌, ◌-◌, ◌<◌, ◌≤◌, Bool, true, false, inl, inr, List, sym, refl, arith, ℤ, pos, negsuc, ◌≤ℤ◌, ◌<ℤ◌, unsigned_abs}
use Rattle.std.specs.Prelude.{nat_le}
use Rattle.std.proofs.lemmas.Bool.{cases_lt, le-leb}
use Rattle.std.proofs.lemmas.Bool.Decides.{nat_tests}
use Rattle.jiff.specs.Words.{date_text}
use Rattle.jiff_core.specs.Calendar.{day_count, days_from_civil, days_in_month, IsCivilDate}
use Rattle.jiff_core.specs.Date.{epoch_day}
use Rattle.jiff_core.specs.declared.civil.date.Date.{Date}
use Rattle.jiff_core.proofs.SignedLemmas.{signed_arith}
use Rattle.jiff_core.proofs.MarchLemmas.{day_count-early}
use Rattle.jiff_core.proofs.CalendarLemmas.{days_from_civil-day_count, day_count-day_of_year, day_of_year_bound, day_count-last_of_year, day_count-later_year, day_count-next_year, day_count-lt_year, day_count-lt_month, day_count-day, days_in_month_bounds}
use Rattle.jiff_core.proofs.DateLemmas.{civil}
use borrow.Author.Differences.{up, down}
use Rattle.adm_types.specs.Numbers.{first_day, last_day}
use Rattle.adm_types.specs.Seasons.{day_number}
use Rattle.adm_types.specs.DayText.{IsDayText, date_form}
use Rattle.adm_days.specs.Days.{first_from, year_of_day, month_of, day_text}

-- ---- the first number that passes a test

pub first_is : (test : ℕ → Bool) (further n found : ℕ) → n ≤ found → found ≤ n + further → test found ≡ true → ((k : ℕ) → n ≤ k → k < found → test k ≡ false) → first_from test further n ≡ found
first_is test zero n found low high passes earlier = omega arith
first_is test (suc further) n found low high passes earlier = elim (cases_lt n found) [
  | inl before ↦ rw (earlier n (omega arith) before) (first_is test further (n + 1) found (omega arith) (omega arith) passes (λ k from to. earlier k (omega arith) to))
  | inr after ↦ let same : n ≡ found = omega arith in rw (same, passes) refl
]

after_is : (day last : ℕ) → last < day → nat_le day last ≡ false
after_is day last h = grind (arith, nat_tests)

-- ---- day numbers as counts of days

pub day_count-1990 : day_count (pos 1990) 1 1 ≡ 4_379_258
day_count-1990 = day_count-early (pos 1990) 11989 1 1 refl (omega arith) (omega arith) (omega arith)

day_count-2111 : day_count (pos 2111) 1 1 ≡ 4_423_452
day_count-2111 = day_count-early (pos 2111) 12110 1 1 refl (omega arith) (omega arith) (omega arith)

-- from 1990 on no day has less before it than 1 January 1990
late_count : (y m d : ℕ) → 1990 ≤ y → 1 ≤ d → 4_379_258 ≤ day_count (pos y) m d
late_count y m d low first = elim (cases_lt 1990 y) [
  | inl after ↦ omega (arith, day_count-day_of_year (pos y) m d first, day_count-later_year (pos 1990) (pos y) (omega (arith, signed_arith)) (omega (arith, signed_arith)), day_count-1990)
  | inr same ↦ let is : y ≡ 1990 = omega arith in rw is (omega (arith, day_count-day_of_year (pos 1990) m d first, day_count-1990))
]

count_of : (number : ℤ) (count : ℕ) → up number + 4_371_953 ≡ down number + count → 4_379_258 ≤ count → unsigned_abs number + 4_371_953 ≡ count
count_of (pos n) count is late = omega (arith, signed_arith, is)
count_of (negsuc n) count is late = absurd (omega (arith, signed_arith, is))

-- day numbers are counts of days
pub number_count : (y m d : ℕ) → 1990 ≤ y → 1 ≤ d → day_number y m d + 4_371_953 ≡ day_count (pos y) m d
number_count y m d low first = count_of (days_from_civil (pos y) m d) (day_count (pos y) m d) (days_from_civil-day_count (pos y) m d) (late_count y m d low first)

-- ---- a date from 1990 to 2110

last_is_civil : (y : ℕ) → y ≤ 2110 → IsCivilDate (pos y) 12 31
last_is_civil y high = ((omega (arith, signed_arith), omega (arith, signed_arith)), (omega arith, omega arith), (omega arith, omega arith))

end_is_civil : (y m : ℕ) → y ≤ 2110 → 1 ≤ m → m ≤ 12 → IsCivilDate (pos y) m (days_in_month (pos y) m)
end_is_civil y m high low most = ((omega (arith, signed_arith), omega (arith, signed_arith)), (low, most), (omega (arith, days_in_month_bounds (pos y) m), omega arith))

-- the year, the month and the day of a date in range, by the count of its days
module _ (year month of_month day : ℕ) (is_civil : IsCivilDate (pos year) month of_month) (low : 1990 ≤ year) (high : year ≤ 2110)
    (count : day + 4_371_953 ≡ day_count (pos year) month of_month) where
  year_is : year_of_day day ≡ year
  unfolding year_of_day
  year_is =
      first_is (λ y. nat_le day (day_number y 12 31)) 120 1990 year low high
      (le-leb _ _ (omega (
        arith,
        number_count year 12 31 low (omega arith),
        day_count-last_of_year (pos year),
        day_count-day_of_year (pos year) month of_month is_civil.2.0,
        day_of_year_bound (pos year) month of_month is_civil,
      )))
      (λ y from before. after_is _ _ (omega (
        arith,
        number_count y 12 31 from (omega arith),
        day_count-lt_year (pos y) 12 31 (pos year) month of_month (last_is_civil y (omega arith)) is_civil.2.0 (omega (arith, signed_arith)),
      )))

  month_is : month_of year day ≡ month
  unfolding month_of
  month_is =
      first_is (λ m. nat_le day (day_number year m (days_in_month (pos year) m))) 11 1 month is_civil.1.0 (omega (arith, is_civil.1.1))
      (le-leb _ _ (omega (
        arith,
        number_count year month (days_in_month (pos year) month) low (omega (arith, days_in_month_bounds (pos year) month)),
        day_count-day (pos year) month of_month (days_in_month (pos year) month) is_civil.2.0 (omega (arith, days_in_month_bounds (pos year) month)),
        is_civil.2.1,
      )))
      (λ m from before. after_is _ _ (omega (
        arith,
        number_count year m (days_in_month (pos year) m) low (omega (arith, days_in_month_bounds (pos year) m)),
        day_count-lt_month (pos year) m (days_in_month (pos year) m) month of_month (end_is_civil year m high from (omega (arith, is_civil.1.1))) is_civil.2.0 before,
      )))

  of_month_is : day + 1 - day_number year month 1 ≡ of_month
  of_month_is = omega (arith, number_count year month 1 low (omega arith), day_count-day (pos year) month of_month 1 is_civil.2.0 (omega arith))

  pub form_is : day_text day ≡ date_form year month of_month
  unfolding day_text
  form_is = rw (year_is, month_is, of_month_is) refl

-- ---- the text of a day

early : (d : Date) → d.year <ℤ pos 1990 → epoch_day d <ℤ pos first_day
early d before =
    let lt = day_count-lt_year d.year d.month d.day (pos 1990) 1 1 (civil d) (omega arith) before in
    omega (arith, signed_arith, days_from_civil-day_count, day_count-1990, lt)

late : (d : Date) → pos 2111 ≤ℤ d.year → pos last_day <ℤ epoch_day d
late d after =
    let lt = day_count-lt_year (pos 2110) 12 31 d.year d.month d.day (last_is_civil 2110 (omega arith)) (omega (arith, (civil d).2.0)) (omega (arith, signed_arith)) in
    omega (
      arith,
      signed_arith,
      days_from_civil-day_count,
      day_count-2111,
      day_count-last_of_year (pos 2110),
      day_count-next_year (pos 2110) (pos 2111) (omega (arith, signed_arith)) (omega (arith, signed_arith)),
      lt,
    )

form_at : (d : Date) (year day : ℕ) → d.year ≡ pos year → IsCivilDate d.year d.month d.day → pos day ≡ epoch_day d → first_day ≤ day → day ≤ last_day → date_text d ≡ day_text day
form_at d year day is is_civil number low high =
    let from : 1990 ≤ year = elim (cases_lt year 1990) [
      | inl before ↦ absurd (omega (arith, signed_arith, early d (omega (arith, signed_arith))))
      | inr after ↦ after
    ] in
    let to : year ≤ 2110 = elim (cases_lt 2110 year) [
      | inl after ↦ absurd (omega (arith, signed_arith, late d (omega (arith, signed_arith))))
      | inr before ↦ before
    ] in
    let count : day + 4_371_953 ≡ day_count d.year d.month d.day = omega (arith, signed_arith, days_from_civil-day_count d.year d.month d.day) in
    rw is (sym (form_is year d.month d.day day (rw is at is_civil) from to (rw is at count)))

text_by : (d : Date) (year : ℤ) (day : ℕ) → d.year ≡ year → pos day ≡ epoch_day d → first_day ≤ day → day ≤ last_day → date_text d ≡ day_text day
text_by d (pos year) day is number low high = form_at d year day is (civil d) number low high
text_by d (negsuc year) day is number low high = absurd (omega (arith, signed_arith, early d (rw is (omega (arith, signed_arith)))))

pub text_is : (text : List ℕ) (day : ℕ) → IsDayText text day → text ≡ day_text day
text_is text day is = is.written ∙ text_by is.date is.date.year day refl is.number is.in_range.0 is.in_range.1
