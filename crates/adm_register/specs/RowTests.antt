-- The tests of rows that the code makes: each passes just where the row fits (`WellFormed`).
use Rattle.std.specs.Prelude.{ℕ, Bool, ◌&&◌, not, nat_eq, nat_le, nat_lt, List, length, bytes_eq}
use Rattle.std.specs.List.{list_all}
use Rattle.std.specs.Ordering.{nat_cmp}
use Rattle.std.specs.FinMap.{FinMap, get, contains_key}
use Rattle.std.specs.Str.{is_utf8}
use Rattle.adm_types.specs.Code.{is_code}
use Rattle.adm_types.specs.Limits.{is_from, is_child_number, first_day, most_preferences, is_name, is_school_of_size, is_child_of_size, is_without_repeat, code_cmp}
use Rattle.adm_types.specs.declared.seasons.Size.{Size}
use Rattle.adm_types.specs.declared.rows.School.{School}
use Rattle.adm_types.specs.declared.rows.Child.{Child}
use Rattle.adm_types.specs.declared.rows.Application.{Application}
use Rattle.adm_types.specs.declared.rows.Row.{Row as ImportRow}
use Rattle.adm_types.specs.declared.rows.PlaceRow.{PlaceRow}
use Rattle.adm_types.specs.declared.rows.LeftPair.{LeftPair}
use Rattle.adm_types.specs.declared.draws.Draw.{Draw}
use Rattle.adm_table.specs.Same.{is_same_left}
use Rattle.adm_register.specs.State.{application_of}
use Rattle.adm_register.specs.Draws.{is_choice, is_known_outcome, is_known_lot}
use Rattle.adm_register.specs.WellFormed.{are_schools, has_schools_of, has_days_in_order, is_entitled, is_unplanned_at, places_outside_plans}

-- whether a school fits, but for its key
abbrev pub is_school : Size → School → Bool
is_school size school = is_code school.code && is_utf8 school.name && is_name school.name && is_school_of_size size school

-- whether a school fits at its code
abbrev pub fits_school : Size → List ℕ → School → Bool
fits_school size code school = bytes_eq school.code code && is_school size school

-- whether a child fits, but for its key
abbrev pub is_child : Size → FinMap code_cmp School → Child → Bool
is_child size schools child =
    is_child_number child.no && is_utf8 child.name && is_name child.name && is_child_of_size size child && nat_lt child.flags 65536 && has_schools_of schools child

-- whether a child fits at its number
abbrev pub fits_child : Size → FinMap code_cmp School → ℕ → Child → Bool
fits_child size schools number child = nat_eq child.no number && is_child size schools child

-- whether an application fits, but for its key
abbrev pub is_application : ℕ → FinMap code_cmp School → FinMap nat_cmp Child → Application → Bool
is_application last_list_day schools children application =
    contains_key children application.child && is_from first_day last_list_day application.day && is_from 1 most_preferences (length application.list)
    && is_without_repeat application.list && are_schools schools application.list

-- whether an application fits at its child's number
abbrev pub fits_application : ℕ → FinMap code_cmp School → FinMap nat_cmp Child → ℕ → Application → Bool
fits_application last_list_day schools children number application = nat_eq application.child number && is_application last_list_day schools children application

-- whether a place fits, but for its key
abbrev pub is_place : FinMap code_cmp School → FinMap nat_cmp Child → FinMap nat_cmp Application → Bool → PlaceRow → Bool
is_place schools children applications had_round row =
    contains_key children row.child && contains_key schools row.place.school && has_days_in_order row.place.state && is_entitled had_round (get applications row.child) row.place

-- whether a place fits at its child's number
abbrev pub fits_place : FinMap code_cmp School → FinMap nat_cmp Child → FinMap nat_cmp Application → Bool → ℕ → PlaceRow → Bool
fits_place schools children applications had_round number row = nat_eq row.child number && is_place schools children applications had_round row

-- whether a left pair fits, but for its key
abbrev pub is_left : FinMap code_cmp School → FinMap nat_cmp Child → FinMap nat_cmp PlaceRow → LeftPair → Bool
is_left schools children places pair = contains_key children pair.child && contains_key schools pair.school && not (is_unplanned_at (get places pair.child) pair.school)

-- whether a left pair fits at its key
abbrev pub fits_left : FinMap code_cmp School → FinMap nat_cmp Child → FinMap nat_cmp PlaceRow → LeftPair → LeftPair → Bool
fits_left schools children places key pair = is_same_left pair key && is_left schools children places pair

-- whether a school fits at its code, and its places that are not a plan's are at most its admission number
abbrev pub fits_school_with : Size → FinMap nat_cmp PlaceRow → List ℕ → School → Bool
fits_school_with size places code school = fits_school size code school && nat_le (places_outside_plans places code) school.pan

-- whether an imported row fits at its child's number
abbrev pub fits_import : Size → ℕ → FinMap code_cmp School → FinMap nat_cmp Child → ℕ → ImportRow → Bool
fits_import size last_list_day schools children number row = fits_child size schools number row.child && fits_application last_list_day schools children number (application_of row)

-- whether a draw fits, but for its form and its key
abbrev pub is_known_draw : FinMap code_cmp School → FinMap nat_cmp Child → Draw → Bool
is_known_draw schools children draw =
    nat_le first_day draw.day && is_choice schools draw.school && list_all (is_known_outcome schools children) draw.outcomes
    && list_all (is_known_lot schools children) draw.lots

-- whether a draw fits at its number, but for its form
abbrev pub fits_known_draw : FinMap code_cmp School → FinMap nat_cmp Child → ℕ → Draw → Bool
fits_known_draw schools children number draw = nat_eq draw.number number && is_known_draw schools children draw
