-- How far the next working day can be.
use Rattle.std.proofs.Common.{◌≡◌, ◌∙◌, ap, refl, sym, subst, zero, suc, ℕ, ◌+◌, ◌-◌, ◌*◌, ◌%◌, ◌<◌, ◌≤◌, Bool, true, false, cond, not, List, [], ◌∷◌, length, pos, arith}
use Rattle.std.specs.Prelude.{◌==◌, nat_lt, nat_le, ◌&&◌, ◌||◌}
use Rattle.std.specs.List.{list_any}
use Rattle.std.specs.Ordering.{nat_cmp, is_le}
use Rattle.std.specs.Cmp.{nat_cmp_is}
use Rattle.std.specs.declared.cmp.Ordering.TheVariants.{Less, Equal, Greater}
use mathlib.Core.Logic.{⊎_elim}
use Rattle.std.proofs.lemmas.Bool.{le-ltb, lt-ltb, cases_lt}
use Rattle.std.proofs.lemmas.Bool.Decides.{nat_tests}
use Rattle.jiff_core.specs.Calendar.{weekday_number}
use Rattle.adm_types.specs.Seasons.{SeasonFacts, IsOfferDay, is_working_day, has_working_day}

weekday_number-pos : (day : ℕ) → weekday_number (pos day) ≡ (day + 3) % 7
unfolding weekday_number
weekday_number-pos day = refl

day_after : (n : ℕ) → ((n % 7 < 6) → (n + 1) % 7 ≡ n % 7 + 1) × ((n % 7 ≡ 6) → (n + 1) % 7 ≡ 0)
day_after n = (λ early. omega arith, λ last. omega arith)

-- how many holidays remain from the day on
abbrev pub holidays_from : List ℕ → ℕ → ℕ
holidays_from [] day = 0
holidays_from (holiday ∷ holidays) day = cond (nat_le day holiday) 1 0 + holidays_from holidays day

-- a bound on the days to the next working day: three for each holiday, and the rest of the weekend
unfoldable pub wait_left : List ℕ → ℕ → ℕ
wait_left holidays day = 3 * holidays_from holidays day + cond (nat_lt (weekday_number (pos day)) 5) 0 (7 - weekday_number (pos day))

fewer : (day holiday a b : ℕ) → a ≤ b → cond (nat_le (day + 1) holiday) 1 0 + a ≤ cond (nat_le day holiday) 1 0 + b
fewer day holiday a b h = grind (arith, nat_tests)

one_fewer : (day holiday a b : ℕ) (listed : Bool) → a ≤ b → (listed ≡ true → a + 1 ≤ b) → ((holiday == day) || listed) ≡ true
    → (cond (nat_le (day + 1) holiday) 1 0 + a) + 1 ≤ cond (nat_le day holiday) 1 0 + b
one_fewer day holiday a b listed h rest one = grind (arith, nat_tests)

one_at_most : (day holiday a n : ℕ) → a ≤ n → cond (nat_le day holiday) 1 0 + a ≤ n + 1
one_at_most day holiday a n h = grind (arith, nat_tests)

holidays_from-le : (day : ℕ) (holidays : List ℕ) → holidays_from holidays (day + 1) ≤ holidays_from holidays day
holidays_from-le day [] = omega arith
holidays_from-le day (holiday ∷ holidays) = fewer day holiday _ _ (holidays_from-le day holidays)

holidays_from-lt : (day : ℕ) (holidays : List ℕ) → list_any (λ holiday. holiday == day) holidays ≡ true → holidays_from holidays (day + 1) + 1 ≤ holidays_from holidays day
holidays_from-lt day [] e = cc
holidays_from-lt day (holiday ∷ holidays) e = one_fewer day holiday _ _ _ (holidays_from-le day holidays) (holidays_from-lt day holidays) e

holidays_from-length : (day : ℕ) (holidays : List ℕ) → holidays_from holidays day ≤ length holidays
holidays_from-length day [] = omega arith
holidays_from-length day (holiday ∷ holidays) = omega (arith, one_at_most day holiday _ _ (holidays_from-length day holidays))

short_weekend : (w a : ℕ) → a ≤ 40 → 3 * a + cond (nat_lt w 5) 0 (7 - w) ≤ 122
short_weekend w a h = grind (arith, nat_tests)

pub wait_left-first : (holidays : List ℕ) (day : ℕ) → length holidays ≤ 40 → wait_left holidays day ≤ 122
unfolding wait_left
wait_left-first holidays day few = short_weekend (weekday_number (pos day)) (holidays_from holidays day) (omega (arith, holidays_from-length day holidays))

nearer : (w next a b : ℕ) (listed : Bool) → w < 7 → (w < 6 → next ≡ w + 1) → (w ≡ 6 → next ≡ 0) → a ≤ b → (listed ≡ true → a + 1 ≤ b) → (nat_lt w 5 && not listed) ≡ false
    → (3 * a + cond (nat_lt next 5) 0 (7 - next)) + 1 ≤ 3 * b + cond (nat_lt w 5) 0 (7 - w)
nearer w next a b listed small early last le lt rests = grind (arith, nat_tests)

-- each day that is no working day brings the next one nearer
pub wait_left-falls : (holidays : List ℕ) (day : ℕ) → is_working_day holidays day ≡ false → wait_left holidays (day + 1) + 1 ≤ wait_left holidays day
unfolding wait_left
wait_left-falls holidays day rests =
    let here = weekday_number-pos day in
    let next = weekday_number-pos (day + 1) in
    let after = day_after (day + 3) in
    nearer (weekday_number (pos day)) (weekday_number (pos (day + 1))) _ _ (list_any (λ holiday. holiday == day) holidays)
    (omega (arith, here)) (λ early. omega (arith, here, next, after.0 (omega (arith, here)))) (λ last. omega (arith, here, next, after.1 (omega (arith, here))))
    (holidays_from-le day holidays) (holidays_from-lt day holidays) rests

-- the days from the first on reach the first working day where they go past it
pub has_working_day-reaches : (holidays : List ℕ) (first day : ℕ) → first ≤ day → is_working_day holidays day ≡ true
    → ((earlier : ℕ) → first ≤ earlier → earlier < day → is_working_day holidays earlier ≡ false)
    → (days : ℕ) → has_working_day holidays first days ≡ nat_lt day (first + days)
has_working_day-reaches holidays first day since works none zero = sym (le-ltb day (first + 0) (omega (arith, since)))
has_working_day-reaches holidays first day since works none (suc days) =
    let rest = has_working_day-reaches holidays first day since works none days in
    let before : first + days < day → is_working_day holidays (first + days) ≡ false = λ less. none (first + days) (omega arith) less in
    let at : first + days ≡ day → is_working_day holidays (first + days) ≡ true = λ e. subst (λ d. is_working_day holidays d ≡ true) (sym e) works in
    grind (arith, nat_tests)

-- a day is not before another where it is less than what goes past that one
pub not_before : (a b first : ℕ) → first ≤ a → is_le (nat_cmp a b) ≡ nat_lt a (first + (b + 1 - first))
not_before a b first since =
    ⊎_elim (λ less. ap is_le (sym (nat_cmp_is a b Less less)) ∙ sym (lt-ltb a (first + (b + 1 - first)) (omega (arith, since, less))))
    (λ le. ⊎_elim (λ past. ap is_le (sym (nat_cmp_is a b Greater past)) ∙ sym (le-ltb a (first + (b + 1 - first)) (omega (arith, since, past))))
    (λ most. let same : a ≡ b = omega (arith, le, most) in ap is_le (sym (nat_cmp_is a b Equal same))
    ∙ sym (lt-ltb a (first + (b + 1 - first)) (omega (arith, since, same)))) (cases_lt b a)) (cases_lt a b)

past : (a b : ℕ) → nat_lt a (a + (b + 1 - a)) ≡ nat_le a b
past a b = grind (arith, nat_tests)

-- a day is not before another where it is less or the same
pub reached : (a b : ℕ) → is_le (nat_cmp a b) ≡ nat_le a b
reached a b = not_before a b a (omega arith) ∙ past a b

-- there is one offer day
pub one_offer_day : (season : SeasonFacts) (a b : ℕ) → IsOfferDay season a → IsOfferDay season b → a ≡ b
one_offer_day season a b one other =
    ⊎_elim (λ less. absurd (let rests = other.first a one.not_before less in let works = one.working in cc))
    (λ le. ⊎_elim (λ less. absurd (let rests = one.first b other.not_before less in let works = other.working in cc)) (λ most. omega (arith, le, most)) (cases_lt b a)) (cases_lt a b)
