-- Which rows are those of no child, no application, no imported row, no place and no left pair.
use Rattle.std.proofs.Common.{◌≡◌, ℕ, zero, suc, List, ◌<◌, ◌+◌, ◌^◌, Option, true, [], ◌∷◌, length, Some, None, pos, nat_le, refl, sym, ap, ◌∙◌, drop, arith}
use Rattle.std.specs.Prelude.{◌&&◌, nat_lt, nat_eq}
use Rattle.std.specs.Option.{unwrap_or}
use Rattle.std.proofs.lemmas.Bool.{and_parts}
use Rattle.std.proofs.lemmas.Bool.Decides.{nat_tests}
use Rattle.sqlite.specs.declared.types.Value.{Value}
use Rattle.sqlite.specs.declared.types.Value.TheVariants.{Int, Text}
use Rattle.sqlite.specs.Order.{Row, column}
use Rattle.std.specs.List.{list_all}
use Rattle.std.specs.Str.{is_utf8}
use Rattle.adm_types.specs.Code.{is_code}
use Rattle.adm_types.specs.Joined.{codes_of}
use Rattle.adm_types.specs.Children.{bare_child, bare_import}
use Rattle.adm_types.specs.Limits.{is_child_number, is_on_map, is_without_repeat, is_code_or_none}
use Rattle.adm_types.specs.declared.rows.Child.{Child}
use Rattle.adm_types.specs.declared.rows.Application.{Application}
use Rattle.adm_types.specs.declared.rows.Row.{Row as ImportRow}
use Rattle.adm_types.specs.declared.rows.PlaceRow.{PlaceRow}
use Rattle.adm_types.specs.declared.rows.LeftPair.{LeftPair}
use Rattle.adm_types.specs.declared.rows.PlaceState.{PlaceState}
use Rattle.adm_types.specs.declared.rows.PlaceState.TheVariants.{Offered, Accepted, Plan}
use Rattle.adm_types.specs.Numbers.{is_from, first_day, last_day}
use Rattle.adm_register.specs.WellFormed.{has_days_in_order}
use Rattle.adm_fields.specs.Lists.{Format, child_columns, application_fields, import_columns}
use Rattle.adm_fields.specs.Records.{home_of, home_values, application_of, application_values, bare_import_of, import_values}
use Rattle.adm_rows.specs.Forms.{truth_code, school_value, codes_text, two_codes_text, two_lists_of, schools_value, day_value, state_columns, child_row, application_row, imported_row, place_row, left_row}
use Rattle.adm_rows.specs.Faults.{IsChild, IsImportRow, IsImportReadAgain, IsChildReadAgain, AreReadAgain, IsPlaceRow, HasPlaceColumns, is_day, is_day_or_none, has_days_in_range}
use Rattle.adm_rows.proofs.RowLemmas.{number_in, text_in}
use Rattle.adm_rows.proofs.CodeLemmas.{codes_again, both_again}
use Rattle.adm_rows.proofs.DrawRows.{school_from, school_back, truth_back}

-- ---- children

metres_fit : (n : ℕ) → nat_le n 1500000 ≡ true → n < 2 ^ 32
metres_fit n h = grind (arith, nat_tests)

-- a home has coordinates of 32 bits
pub home_fits : (child : Child) → IsChild child → (child.home.east < 2 ^ 32) × (child.home.north < 2 ^ 32)
home_fits child fits =
    let areas = and_parts _ _ fits.in_range in
    let room = and_parts _ _ areas.0 in
    let known = and_parts (is_on_map child.home && nat_le (length child.siblings) 6 && is_without_repeat child.siblings) (is_code_or_none child.present) room.0 in
    let few = and_parts (is_on_map child.home && nat_le (length child.siblings) 6) (is_without_repeat child.siblings) known.0 in
    let home = and_parts (is_on_map child.home) (nat_le (length child.siblings) 6) few.0 in
    let each = and_parts (nat_le child.home.east 1500000) (nat_le child.home.north 1500000) home.0 in
    (metres_fit child.home.east each.0, metres_fit child.home.north each.1)

pub flags_fit : (flags : ℕ) → nat_lt flags 65536 ≡ true → flags < 65536
flags_fit flags h = grind (arith, nat_tests)

-- what each field of a child keeps, and then what others keep
pub home_fit : {Others : Type 0} (child : Child) → IsChild child → Others
    → (is_child_number child.no ≡ true) × ((is_utf8 child.name ≡ true) × ((child.home.east < 2 ^ 32) × ((child.home.north < 2 ^ 32)
    × (Unit {0} × ((child.flags < 65536) × (((list_all is_code child.siblings ≡ true) × (list_all is_code child.catchments ≡ true)) × Others))))))
home_fit child fits others =
    let home = home_fits child fits in
    (fits.number_form, (fits.text, (home.0, (home.1, (tt, (flags_fit child.flags fits.flags, ((fits.codes, fits.catchments), others)))))))

-- ---- fields from their columns

-- how a value is written in a column and read from it, and what was written when it is read again
record ReadBack (A : Type 0) : Type 0 where
  value : A → Value
  from : Value → A
  again : A → A
  back : (x : A) → from (value x) ≡ again x

-- the same of a record
record RowBack (A : Type 0) : Type 0 where
  row : A → Row
  from : Row → A
  again : A → A
  back : (x : A) → from (row x) ≡ again x

abbrev itself : {A : Type 0} (value : A → Value) (from : Value → A) → ((x : A) → from (value x) ≡ x) → ReadBack A
itself value from back = record { value = value; from = from; again = λ x. x; back = back }

abbrev a_number : ReadBack ℕ
a_number = itself (λ n. Int (pos n)) number_in (λ n. refl)

-- codes are read again as what their text is read as
abbrev read_back : Format ReadBack RowBack
read_back = record {
  field = λ name otherwise kind others. record {
    row = λ v. kind.value v.0 ∷ others.row v.1;
    from = λ cells. (kind.from (column cells 0), others.from (drop 1 cells));
    again = λ v. (kind.again v.0, others.again v.1);
    back = λ v k. (kind.back v.0 k, others.back v.1 k);
  };
  no_more = record { row = λ v. []; from = λ cells. tt; again = λ v. tt; back = λ v. refl };
  a_child = a_number;
  a_code_or_none = itself school_value school_from school_back;
  a_text = itself Text text_in (λ text. refl);
  a_number = a_number;
  a_truth = itself (λ truth. Int (pos (truth_code truth))) (λ v. nat_eq (number_in v) 1) truth_back;
  a_day = a_number;
  some_flags = a_number;
  some_codes = record { value = λ codes. Text (codes_text codes); from = λ v. unwrap_or (codes_of (text_in v)) []; again = λ codes. unwrap_or (codes_of (codes_text codes)) []; back = λ codes. refl };
}

-- the two lists that a text is read as
abbrev lists_of : List ℕ → List (List ℕ) × List (List ℕ)
lists_of text = unwrap_or (two_lists_of text) ([], [])

-- the schools of siblings and catchment schools, the same way
abbrev both_back : ReadBack (List (List ℕ) × List (List ℕ))
both_back = record { value = schools_value; from = λ v. lists_of (text_in v); again = λ lists. lists_of (two_codes_text lists); back = λ lists. refl }

-- a child from its row, which does not say its present school
abbrev pub child_from : Row → Child
child_from cells = home_of ((child_columns read_back both_back).from cells)

pub child_back : (c : Child) → IsChildReadAgain c → child_from (child_row c) ≡ bare_child c
child_back c again =
    ap home_of ((child_columns read_back both_back).back (home_values c))
    ∙ (λ k. record (bare_child c) { siblings = (unwrap_or (again k) ([], [])).0; catchments = (unwrap_or (again k) ([], [])).1 })

pub child_again : (c : Child) → IsChild c → IsChildReadAgain c
child_again c fits = both_again (c.siblings, c.catchments) fits.codes fits.catchments

-- ---- applications

abbrev pub application_from : Row → Application
application_from cells = application_of ((application_fields read_back).from cells)

pub application_back : (a : Application) → AreReadAgain a.list → application_from (application_row a) ≡ a
application_back a again = ap application_of ((application_fields read_back).back (application_values a)) ∙ (λ k. record a { list = unwrap_or (again k) [] })

-- ---- imported rows

-- an imported row from its row
abbrev pub imported_from : Row → ImportRow
imported_from cells = bare_import_of ((import_columns read_back both_back).from cells)

pub imported_back : (r : ImportRow) → IsImportReadAgain r → imported_from (imported_row r) ≡ bare_import r
imported_back r again =
    ap bare_import_of ((import_columns read_back both_back).back (import_values r))
    ∙ (λ k. record {
      child = record (bare_child r.child) { siblings = (unwrap_or (again.0 k) ([], [])).0; catchments = (unwrap_or (again.0 k) ([], [])).1 };
      day = r.day;
      preferences = unwrap_or (again.1 k) [];
    })

pub import_again : (last : ℕ) (r : ImportRow) → IsImportRow last r → IsImportReadAgain r
import_again last r fits = (child_again r.child fits.child, codes_again r.preferences fits.application.codes)

-- ---- places

day_in : Value → Option ℕ
day_in (Int (pos day)) = Some day
day_in other = None

day_back : (day : Option ℕ) → day_in (day_value day) ≡ day
unfolding day_in
day_back None = refl
day_back (Some day) = refl

pub state_from : ℕ → Value → Value → PlaceState
state_from (suc zero) day reminded = Offered (number_in day) (day_in reminded)
state_from (suc (suc zero)) day reminded = Accepted
state_from other day reminded = Plan

state_back : (state : PlaceState) → state_from (number_in (column (state_columns state) 0)) (column (state_columns state) 1) (column (state_columns state) 2) ≡ state
unfolding state_from
state_back (Offered day reminded) = ap (Offered day) (day_back reminded)
state_back Accepted = refl
state_back Plan = refl

-- a place from its row
abbrev pub place_from : Row → PlaceRow
place_from cells = record {
  child = number_in (column cells 0);
  place = record { school = text_in (column cells 1); state = state_from (number_in (column cells 2)) (column cells 3) (column cells 4) };
}

pub place_back : (p : PlaceRow) → place_from (place_row p) ≡ p
place_back p = λ k. record { child = p.child; place = record { school = p.place.school; state = state_back p.place.state k } }

-- the day of a reminder is a day, as that of the offer before it is
later_day : (day reminded : ℕ) → is_from first_day last_day day ≡ true → is_from (day + 14) last_day reminded ≡ true → is_from first_day last_day reminded ≡ true
later_day day reminded first later = grind (arith, nat_tests)

pub state_days : (state : PlaceState) → has_days_in_order state ≡ true → has_days_in_range state ≡ true
state_days (Offered day None) fits = λ k. fits k && true
state_days (Offered day (Some reminded)) fits =
    let parts = and_parts (is_from first_day last_day day) (is_from (day + 14) last_day reminded) fits in
    λ k. parts.0 k && later_day day reminded parts.0 parts.1 k
state_days Accepted fits = refl
state_days Plan fits = refl

-- the columns of a place
pub has_place_columns : (row : Row) (x : PlaceRow) → IsPlaceRow x → row ≡ place_row x → (kind : ℕ) × (day reminded : Option ℕ) × HasPlaceColumns row x.child x.place.school kind day reminded
    × (state_columns x.place.state ≡ Int (pos kind) ∷ day_value day ∷ day_value reminded ∷ [])
has_place_columns row x fits is = go x.place.state fits.days is
  where
    go : (state : PlaceState) → has_days_in_range state ≡ true → row ≡ Int (pos x.child) ∷ Text x.place.school ∷ state_columns state
        → (kind : ℕ) × (day reminded : Option ℕ) × HasPlaceColumns row x.child x.place.school kind day reminded
        × (state_columns state ≡ Int (pos kind) ∷ day_value day ∷ day_value reminded ∷ [])
    go (Offered day reminded) days is =
        let parts = and_parts (is_day day) (is_day_or_none reminded) days in
        (1, Some day, reminded, record { row_is = is; number_form = fits.number_form; code_form = fits.code_form; kind_fits = omega arith; day_fits = parts.0; reminded_fits = parts.1 }, refl)
    go Accepted days is = (2, None, None, record { row_is = is; number_form = fits.number_form; code_form = fits.code_form; kind_fits = omega arith; day_fits = refl; reminded_fits = refl }, refl)
    go Plan days is = (3, None, None, record { row_is = is; number_form = fits.number_form; code_form = fits.code_form; kind_fits = omega arith; day_fits = refl; reminded_fits = refl }, refl)

-- the kind, the day and the day of the reminder
pub last_columns : (row : Row) (x : PlaceRow) (child kind : ℕ) (school : List ℕ) (day reminded : Option ℕ)
    → row ≡ Int (pos child) ∷ Text school ∷ Int (pos kind) ∷ day_value day ∷ day_value reminded ∷ [] → row ≡ place_row x
    → state_columns x.place.state ≡ Int (pos kind) ∷ day_value day ∷ day_value reminded ∷ []
last_columns row x child kind school day reminded read is = ap (drop 2) (sym is ∙ read)

-- ---- left pairs

-- a left pair from its row
abbrev pub left_from : Row → LeftPair
left_from cells = record { child = number_in (column cells 0); school = text_in (column cells 1) }

pub left_back : (p : LeftPair) → left_from (left_row p) ≡ p
left_back p = refl
