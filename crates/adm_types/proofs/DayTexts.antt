-- Texts of days: what each is read as, and that a day that was written is read back.
use Rattle.std.proofs.Common.{◌≡◌, ◌∙◌, ap, sym, refl, arith, ℕ, ◌≤◌, ℤ, pos, negsuc, ◌≤ℤ◌, ◌<ℤ◌, Bool, true, false, true≢false, List, Some, None, Ok, Err}
use Rattle.std.specs.Prelude.{Option, Result, IfSome, IsSome, ◌↔◌, ◌&&◌, int_le, unsigned_abs, if◌then◌else◌}
use Rattle.std.specs.Str.{bytes_eq}
use Rattle.std.proofs.lemmas.Bool.{and_parts}
use Rattle.std.proofs.lemmas.Int.{ints}
use Rattle.jiff_core.specs.Date.{epoch_day}
use Rattle.jiff_core.specs.declared.civil.date.Date.{Date}
use Rattle.jiff_core.specs.declared.error.Error.{Error}
use Rattle.jiff_core.proofs.DateLemmas.{epoch_day_same}
use Rattle.jiff.specs.Words.{parse_date, date_text, date_view, date_parts}
use Rattle.jiff.proofs.Family.{parse_date-date_text}
use Rattle.adm_types.specs.DayText.{IsDayText, date_form, is_day_number, day_on, day_named}
use Rattle.adm_types.specs.Numbers.{first_day, last_day}
use Rattle.adm_types.proofs.Calendar.{epoch_day_lower}

pub if_some_both : {A : Type 0} (P Q R : A → Type 0) (r : Option A) → IfSome r P → IfSome r Q → ((x : A) → P x → Q x → R x) → IfSome r R
if_some_both P Q R None p q f = tt
if_some_both P Q R (Some x) p q f = f x p q

-- what jiff reads of a date's text is that date
pub read_text : (text : List ℕ) (date : Date) (read : Result Date Error) → date_view read ≡ parse_date text → text ≡ date_text date → date_view read ≡ Ok (date_parts date)
read_text text date read is written = is ∙ ap parse_date written ∙ parse_date-date_text date

pub read_err : (date : Date) (e : Error) → date_view (Err e) ≡ Ok (date_parts date) → ⊥
read_err date e is = cc

pub read_same : (date other : Date) → date_view (Ok other) ≡ Ok (date_parts date) → (other.year ≡ date.year) × (other.month ≡ date.month) × (other.day ≡ date.day)
read_same date other is = let parts : date_parts other ≡ date_parts date = cc in (ap (λ p. p.year) parts, ap (λ p. p.month) parts, ap (λ p. p.day) parts)

pub same_text : (a b : Date) → (a.year ≡ b.year) × (a.month ≡ b.month) × (a.day ≡ b.day) → date_text a ≡ date_text b
same_text a b same = let year = same.0 in let month = same.1 in let day = same.2 in cc

-- a text that is the text of this date and of another names one day
pub none_read : (text : List ℕ) (date : Date) → date_view (Ok date) ≡ parse_date text
    → ((day : ℕ) → text ≡ date_text date → pos day ≡ epoch_day date → first_day ≤ day → day ≤ last_day → ⊥) → (day : ℕ) → IsDayText text day → ⊥
none_read text date is none day named =
    let same = read_same named.date date (read_text text named.date (Ok date) is named.written) in
    none day (named.written ∙ sym (same_text date named.date same)) (named.number ∙ sym (epoch_day_same date named.date same.0 same.1 same.2)) named.in_range.0 named.in_range.1

pub none_unread : (text : List ℕ) (e : Error) → date_view (Err e) ≡ parse_date text → (day : ℕ) → IsDayText text day → ⊥
none_unread text e is day named = read_err named.date e (read_text text named.date (Err e) is named.written)

-- ---- the day that a text names

in_range : (n : ℤ) → is_day_number n ≡ true → (pos first_day ≤ℤ n) × (n ≤ℤ pos last_day)
in_range n e = let both = and_parts (int_le (pos first_day) n) (int_le n (pos last_day)) e in let low = both.0 in let high = both.1 in (omega (arith, ints), omega (arith, ints))

int_le-true : (a b : ℤ) → a ≤ℤ b → int_le a b ≡ true
int_le-true a b h = by (int_le a b) refl
  where
    by : (t : Bool) → int_le a b ≡ t → int_le a b ≡ true
    by true e = e
    by false e = absurd (omega (arith, ints, h))

is_in_range : (n : ℤ) → (pos first_day ≤ℤ n) × (n ≤ℤ pos last_day) → is_day_number n ≡ true
is_in_range n h =
    rw (int_le-true (pos first_day) n h.0, int_le-true n (pos last_day) h.1) refl

number_by : (n : ℤ) (b : Bool) (r : Option ℕ) → is_day_number n ≡ b → (IsSome r ↔ ((pos first_day ≤ℤ n) × (n ≤ℤ pos last_day))) → IfSome r (λ day. pos day ≡ n)
    → r ≡ (if b then Some (unsigned_abs n) else None)
number_by n true (Some day) e valid value = ap (λ k. Some (unsigned_abs k)) value
number_by n false None e valid value = refl
number_by n true None e valid value = absurd (true≢false (sym (valid.1 (in_range n e))))
number_by n false (Some day) e valid value = absurd (true≢false (sym (is_in_range n (valid.0 refl)) ∙ e))

form_at : (date : Date) (n : ℕ) → date.year ≡ pos n → date_text date ≡ date_form n date.month date.day
form_at date n e = rw e refl

-- the text of a date in range
form_of : (date : Date) (year : ℤ) → date.year ≡ year → is_day_number (epoch_day date) ≡ true → date_form (unsigned_abs year) date.month date.day ≡ date_text date
form_of date (pos n) e range = sym (form_at date n e)
form_of date (negsuc n) e range =
    let early : date.year <ℤ pos 1990 = rw e (omega (arith, ints)) in
    absurd (omega (arith, ints, (in_range (epoch_day date) range).0, epoch_day_lower date early))

day_on_by : (text : List ℕ) (date : Date) (b : Bool) → is_day_number (epoch_day date) ≡ b
    → day_on text date.year date.month date.day ≡ (if b && bytes_eq (date_text date) text then Some (unsigned_abs (epoch_day date)) else None)
day_on_by text date false e = rw e refl
day_on_by text date true e = rw e (ap (λ t. if bytes_eq t text then Some (unsigned_abs (epoch_day date)) else None) (form_of date date.year refl e))

pub day_on_none : (text : List ℕ) (date : Date) → bytes_eq (date_text date) text ≡ false → None ≡ day_on text date.year date.month date.day
day_on_none text date other = sym (day_on_by text date (is_day_number (epoch_day date)) refl ∙ last (is_day_number (epoch_day date)) (bytes_eq (date_text date) text) other)
  where
    last : (a b : Bool) → b ≡ false → (if a && b then Some (unsigned_abs (epoch_day date)) else None) ≡ None
    last true false e = refl
    last false false e = refl
    last a true e = absurd (true≢false e)

pub day_on_some : (text : List ℕ) (date : Date) (n : ℤ) (r : Option ℕ) → bytes_eq (date_text date) text ≡ true → n ≡ epoch_day date
    → (IsSome r ↔ ((pos first_day ≤ℤ n) × (n ≤ℤ pos last_day))) → IfSome r (λ day. pos day ≡ n) → r ≡ day_on text date.year date.month date.day
day_on_some text date n r same is valid value =
    number_by n (is_day_number n) r refl valid value
    ∙ (λ k. if is_day_number (is k) then Some (unsigned_abs (is k)) else None)
    ∙ sym (day_on_by text date (is_day_number (epoch_day date)) refl ∙ last (is_day_number (epoch_day date)) (bytes_eq (date_text date) text) same)
  where
    last : (a b : Bool) → b ≡ true → (if a && b then Some (unsigned_abs (epoch_day date)) else None) ≡ (if a then Some (unsigned_abs (epoch_day date)) else None)
    last true true e = refl
    last false true e = refl
    last a false e = absurd (true≢false (sym e))

pub named_read : (text : List ℕ) (date : Date) → date_view (Ok date) ≡ parse_date text → day_on text date.year date.month date.day ≡ day_named text
unfolding day_named
named_read text date is = rw (← is) refl

pub named_unread : (text : List ℕ) (e : Error) → date_view (Err e) ≡ parse_date text → None ≡ day_named text
unfolding day_named
named_unread text e is = rw (← is) refl
