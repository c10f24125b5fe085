-- Numbers, texts, days, flags, criteria and lists are determined by their data.
use Rattle.std.proofs.Common.{◌≡◌, ◌∙◌, ap, sym, subst, refl, cond, ℕ, zero, suc, ◌+◌, ◌-◌, ◌/◌, ◌%◌, ◌^◌, ◌<◌, ◌≤◌, Bool, true, false, List, [], ◌∷◌, map, filter, length, eq-eqb, Option, Some, None, inl, inr, arith, pos}
use Rattle.std.specs.Prelude.{nat_le, nat_eq, ◌==◌}
use Rattle.std.specs.Int.{bit_at}
use Rattle.std.proofs.lemmas.Bool.{cases_Bool, cases_lt, eqb-true, false≢true}
use Rattle.std.proofs.lemmas.Bool.Decides.{nat_tests}
use Rattle.std.proofs.lemmas.Nat.Bits.{same_from_bits, bit_at-lt, bit_at_above}
use Rattle.std.proofs.lemmas.Option.{same_Some}
use Rattle.jiff_core.specs.Calendar.{days_in_month}
use Rattle.jiff_core.proofs.SignedLemmas.{signed_arith}
use Rattle.jiff_core.proofs.CalendarLemmas.{day_count-last_of_year, day_count-next_year, day_count-next_month, day_count-day, days_in_month_bounds}
use Rattle.serde_json.specs.Data.{Data, null, boolean, string}
use Rattle.adm_lists.proofs.Members.{In, in_left, in_right, in_filter, from_filter}
use Rattle.adm_types.specs.Numbers.{first_day}
use Rattle.adm_types.specs.Seasons.{day_number}
use Rattle.adm_types.specs.DayText.{date_form}
use Rattle.adm_types.specs.Flags.{has_flag}
use Rattle.adm_types.specs.Limits.{is_code_or_none}
use Rattle.adm_types.specs.Criteria.{criterion_of, criterion_text, is_criterion}
use Rattle.adm_types.specs.declared.criteria.Criterion.{Criterion}
use Rattle.adm_types.proofs.CriteriaLemmas.{criterion_again}
use Rattle.adm_days.specs.Days.{first_from, year_of_day, month_of, day_text}
use Rattle.adm_days.proofs.Dates.{day_count-1990, number_count}
use Rattle.adm_view.specs.Writing.{number_data, list_data, code_or_empty, day_data, numbers_below, flags_data, criterion_data}
use Rattle.adm_view.specs.Draws.{code_or_null, round_or_null}

-- ---- lists

-- lists with the same data have the same of what the data of an item tell
pub same_images : {X Y : Type 0} (f g : X → Data) (h : X → Y) (xs ys : List X) → ((x y : X) → In x xs → In y ys → f x ≡ g y → h x ≡ h y) → list_data f xs ≡ list_data g ys → map h xs ≡ map h ys
same_images f g h [] [] each e = refl
same_images f g h [] (y ∷ ys) each e = cc
same_images f g h (x ∷ xs) [] each e = cc
same_images f g h (x ∷ xs) (y ∷ ys) each e =
    let here : f x ≡ g y = cc in
    let rest : list_data f xs ≡ list_data g ys = cc in
    let first : h x ≡ h y = each x y (inl refl) (inl refl) here in
    let others : map h xs ≡ map h ys = same_images f g h xs ys (λ u v p q. each u v (inr p) (inr q)) rest in
    λ i. first i ∷ others i

itself : {X : Type 0} (xs : List X) → map (λ x. x) xs ≡ xs
itself [] = refl
itself (x ∷ xs) = ap (λ rest. x ∷ rest) (itself xs)

-- lists with the same data are the same where the data of an item tell it
pub same_items : {X : Type 0} (f g : X → Data) (xs ys : List X) → ((x y : X) → In x xs → In y ys → f x ≡ g y → x ≡ y) → list_data f xs ≡ list_data g ys → xs ≡ ys
same_items f g xs ys each e = sym (itself xs) ∙ same_images f g (λ x. x) xs ys each e ∙ itself ys

-- one list with the same data in two forms has them of each item
pub same_forms : {X : Type 0} (f g : X → Data) (xs : List X) → list_data f xs ≡ list_data g xs → (x : X) → In x xs → f x ≡ g x
same_forms f g [] e x there = absurd there
same_forms f g (y ∷ ys) e x there =
    let here : f y ≡ g y = cc in
    let rest : list_data f ys ≡ list_data g ys = cc in
    elim there [ inl same ↦ subst (λ z. f z ≡ g z) same here | inr later ↦ same_forms f g ys rest x later ]

-- ---- numbers and texts

pub same_number : (m n : ℕ) → number_data m ≡ number_data n → m ≡ n
same_number m n e = cc

pub same_text : (x y : List ℕ) → string x ≡ string y → x ≡ y
same_text x y e = cc

-- texts of other lengths are others
pub other_length : (x y : List ℕ) → nat_eq (length x) (length y) ≡ false → x ≡ y → ⊥
other_length x y differ same = false≢true (sym differ ∙ eq-eqb (length x) (length y) (ap length same))

pub same_truth : (x y : Bool) → boolean x ≡ boolean y → x ≡ y
same_truth x y e = cc

pub same_code : (x y : Option (List ℕ)) → code_or_null x ≡ code_or_null y → x ≡ y
same_code None None e = refl
same_code None (Some y) e = cc
same_code (Some x) None e = cc
same_code (Some x) (Some y) e = cc

not_empty : (code : List ℕ) → is_code_or_none (Some code) ≡ true → string [] ≡ string code → ⊥
not_empty [] fits e = false≢true fits
not_empty (c ∷ code) fits e = cc

-- the empty text is no code, so it says that there is none
pub same_present : (x y : Option (List ℕ)) → is_code_or_none x ≡ true → is_code_or_none y ≡ true → code_or_empty x ≡ code_or_empty y → x ≡ y
same_present None None p q e = refl
same_present None (Some y) p q e = absurd (not_empty y q e)
same_present (Some x) None p q e = absurd (not_empty x p (sym e))
same_present (Some x) (Some y) p q e = cc

pub same_round : (x y : ℕ) → round_or_null x ≡ round_or_null y → x ≡ y
same_round x y e = by (nat_eq x 0) (nat_eq y 0) refl refl e
  where
    by : (b c : Bool) → nat_eq x 0 ≡ b → nat_eq y 0 ≡ c → cond b null (number_data x) ≡ cond c null (number_data y) → x ≡ y
    by true true p q e = eqb-true x 0 p ∙ sym (eqb-true y 0 q)
    by true false p q e = cc
    by false true p q e = cc
    by false false p q e = cc

-- ---- days

-- the first number that passes is not below where the search begins
starts_from : (test : ℕ → Bool) (further n : ℕ) → n ≤ first_from test further n
starts_from test zero n = omega arith
starts_from test (suc further) n = elim (cases_Bool (test n)) [
  | inl passes ↦ rw passes (omega arith)
  | inr fails ↦ rw fails (omega (arith, starts_from test further (n + 1)))
]

-- and none before it passes
fails_before : (test : ℕ → Bool) (further n k : ℕ) → n ≤ k → k < first_from test further n → test k ≡ false
fails_before test zero n k from before = absurd (omega arith)
fails_before test (suc further) n k from before = elim (cases_Bool (test n)) [
  | inl passes ↦
      let early : k < n = subst (λ b. k < cond b n (first_from test further (n + 1))) passes before in
      absurd (omega arith)
  | inr fails ↦
      let later : k < first_from test further (n + 1) = subst (λ b. k < cond b n (first_from test further (n + 1))) fails before in
      elim (cases_lt n k) [
        | inl after ↦ fails_before test further (n + 1) k (omega arith) later
        | inr not_after ↦ let is : n ≡ k = omega arith in subst (λ j. test j ≡ false) is fails
      ]
]

after : (day last : ℕ) → nat_le day last ≡ false → last < day
after day last h = grind (arith, nat_tests)

-- the first of January is the day after the last of December
year_start : (y day : ℕ) → 1990 < y → day_number (y - 1) 12 31 < day → day_number y 1 1 ≤ day
year_start y day low late =
    omega (
      arith,
      number_count (y - 1) 12 31 (omega arith) (omega arith),
      number_count y 1 1 (omega arith) (omega arith),
      day_count-last_of_year (pos (y - 1)),
      day_count-next_year (pos (y - 1)) (pos y) (omega (arith, signed_arith)) (omega (arith, signed_arith)),
    )

-- and the first of a month the one after the last of the month before
month_start : (y m day : ℕ) → 1990 ≤ y → 1 ≤ m → day_number y m (days_in_month (pos y) m) < day → day_number y (m + 1) 1 ≤ day
month_start y m day low first late =
    let bounds = days_in_month_bounds (pos y) m in
    omega (
      arith,
      number_count y m (days_in_month (pos y) m) low (omega (arith, bounds)),
      number_count y (m + 1) 1 low (omega arith),
      day_count-next_month (pos y) m first,
      day_count-day (pos y) m 1 (days_in_month (pos y) m) (omega arith) (omega (arith, bounds)),
    )

start_1990 : day_number 1990 1 1 ≡ first_day
start_1990 = omega (arith, number_count 1990 1 1 (omega arith) (omega arith), day_count-1990)

-- a day is not before the first of a month before which all months and years end too early
not_before : (y m day : ℕ) → 1990 ≤ y → 1 ≤ m → first_day ≤ day → ((k : ℕ) → 1990 ≤ k → k < y → nat_le day (day_number k 12 31) ≡ false)
    → ((k : ℕ) → 1 ≤ k → k < m → nat_le day (day_number y k (days_in_month (pos y) k)) ≡ false) → day_number y m 1 ≤ day
not_before y m day low first from years months = elim (cases_lt 1 m) [
  | inl more ↦
      let is : m - 1 + 1 ≡ m = omega arith in
      subst (λ n. day_number y n 1 ≤ day) is (month_start y (m - 1) day low (omega arith) (after day _ (months (m - 1) (omega arith) (omega arith))))
  | inr no_more ↦
      let is : 1 ≡ m = omega arith in
      subst (λ n. day_number y n 1 ≤ day) is (elim (cases_lt 1990 y) [
        | inl later ↦ year_start y day later (after day _ (years (y - 1) (omega arith) (omega arith)))
        | inr not_later ↦ let same : 1990 ≡ y = omega arith in subst (λ n. day_number n 1 1 ≤ day) same (omega (arith, start_1990))
      ])
]

abbrev month_at : ℕ → ℕ
month_at day = month_of (year_of_day day) day

-- the years before that of a day end before it
year_bounds : (day : ℕ) → (1990 ≤ year_of_day day) × ((k : ℕ) → 1990 ≤ k → k < year_of_day day → nat_le day (day_number k 12 31) ≡ false)
unfolding year_of_day
year_bounds day = (starts_from (λ year. nat_le day (day_number year 12 31)) 120 1990, fails_before (λ year. nat_le day (day_number year 12 31)) 120 1990)

-- and so do the months before its month
month_bounds : (y day : ℕ) → (1 ≤ month_of y day) × ((k : ℕ) → 1 ≤ k → k < month_of y day → nat_le day (day_number y k (days_in_month (pos y) k)) ≡ false)
unfolding month_of
month_bounds y day = (
  starts_from (λ month. nat_le day (day_number y month (days_in_month (pos y) month))) 11 1,
  fails_before (λ month. nat_le day (day_number y month (days_in_month (pos y) month))) 11 1,
)

-- a day is not before the first of its month
in_month : (day : ℕ) → first_day ≤ day → day_number (year_of_day day) (month_at day) 1 ≤ day
in_month day from =
    let years = year_bounds day in
    let months = month_bounds (year_of_day day) day in
    not_before (year_of_day day) (month_at day) day years.0 months.0 from years.1 months.1

same_digits : (a b : ℕ) → 48 + a / 10 ≡ 48 + b / 10 → 48 + a % 10 ≡ 48 + b % 10 → a ≡ b
same_digits a b tens ones = omega arith

same_year : (a b : ℕ) → a / 100 ≡ b / 100 → a % 100 ≡ b % 100 → a ≡ b
same_year a b p q = omega arith

-- YYYY-MM-DD determines the year, the month and the day
same_form : (y m d z n e : ℕ) → date_form y m d ≡ date_form z n e → (y ≡ z) × (m ≡ n) × (d ≡ e)
same_form y m d z n e h = (
  same_year y z (same_digits (y / 100) (z / 100) (cc) (cc)) (same_digits (y % 100) (z % 100) (cc) (cc)),
  same_digits m n (cc) (cc),
  same_digits d e (cc) (cc),
)

same_of_month : (x y start begin : ℕ) → start ≤ x → begin ≤ y → start ≡ begin → x + 1 - start ≡ y + 1 - begin → x ≡ y
same_of_month x y start begin p q same e = omega arith

same_day_text : (x y : ℕ) → first_day ≤ x → first_day ≤ y → day_text x ≡ day_text y → x ≡ y
unfolding day_text
same_day_text x y from too texts =
    let start : ℕ = day_number (year_of_day x) (month_at x) 1 in
    let begin : ℕ = day_number (year_of_day y) (month_at y) 1 in
    let form = same_form (year_of_day x) (month_at x) (x + 1 - start) (year_of_day y) (month_at y) (y + 1 - begin) texts in
    same_of_month x y start begin (in_month x from) (in_month y too) (λ i. day_number (form.0 i) (form.1 i) 1) form.2

pub same_day : (x y : ℕ) → first_day ≤ x → first_day ≤ y → day_data x ≡ day_data y → x ≡ y
same_day x y from too e = same_day_text x y from too (same_text (day_text x) (day_text y) e)

-- ---- flags

among : (n i : ℕ) → i < n → In i (numbers_below n)
among zero i low = absurd (omega arith)
among (suc n) i low = elim (cases_lt i n) [
  | inl lower ↦ in_left (numbers_below n) (n ∷ []) i (among n i lower)
  | inr not_lower ↦ let is : n ≡ i = omega arith in in_right (numbers_below n) (n ∷ []) i (inl is)
]

-- lists that are kept of the same numbers are kept by the same tests
same_kept : (p q : ℕ → Bool) (ns : List ℕ) → filter p ns ≡ filter q ns → (i : ℕ) → In i ns → p i ≡ q i
same_kept p q ns e i there = elim (cases_Bool (p i)) [
  | inl passes ↦ passes ∙ sym (from_filter q ns i (subst (In i) e (in_filter p ns i there passes))).1
  | inr fails ↦ elim (cases_Bool (q i)) [
    | inl other ↦ absurd (false≢true (sym fails ∙ (from_filter p ns i (subst (In i) (sym e) (in_filter q ns i there other))).1))
    | inr also ↦ fails ∙ sym also
  ]
]

same_bit : (a b : ℕ) → a < 2 → b < 2 → (a == 1) ≡ (b == 1) → a ≡ b
same_bit a b p q e = elim (cases_Bool (a == 1)) [
  | inl one ↦ let other : (b == 1) ≡ true = sym e ∙ one in grind (arith, nat_tests)
  | inr none ↦ let other : (b == 1) ≡ false = sym e ∙ none in grind (arith, nat_tests)
]

same_numbers : (xs ys : List ℕ) → list_data number_data xs ≡ list_data number_data ys → xs ≡ ys
same_numbers xs ys e = same_items number_data number_data xs ys (λ m n p q. same_number m n) e

same_below : (width x y : ℕ) → x < 2 ^ width → y < 2 ^ width → filter (has_flag x) (numbers_below width) ≡ filter (has_flag y) (numbers_below width) → x ≡ y
same_below width x y p q e = same_from_bits x y (λ i. elim (cases_lt i width) [
  | inl low ↦ same_bit (bit_at x i) (bit_at y i) (bit_at-lt x i) (bit_at-lt y i) (same_kept (has_flag x) (has_flag y) (numbers_below width) e i (among width i low))
  | inr high ↦ bit_at_above x width i p high ∙ sym (bit_at_above y width i q high)
])

pub same_flags : (x y : ℕ) → x < 65536 → y < 65536 → flags_data x ≡ flags_data y → x ≡ y
same_flags x y p q e = same_below 16 x y p q (same_numbers (filter (has_flag x) (numbers_below 16)) (filter (has_flag y) (numbers_below 16)) e)

-- ---- criteria

pub same_criterion : (x y : Criterion) → is_criterion x ≡ true → is_criterion y ≡ true → criterion_data x ≡ criterion_data y → x ≡ y
same_criterion x y p q e =
    same_Some x y (sym (criterion_again x p) ∙ ap criterion_of (same_text (criterion_text x) (criterion_text y) e) ∙ criterion_again y q)
