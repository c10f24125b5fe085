-- The test of a school decides that it fits.
use Rattle.std.proofs.Common.{◌≡◌, true, List, ℕ, ◌≤◌}
use Rattle.std.specs.Prelude.{nat_eq, nat_le, ◌&&◌, ◌↔◌}
use Rattle.std.specs.Cmp.Lexicographic.{pointwise, bytes_decides}
use Rattle.std.specs.Ordering.{nat_cmp}
use Rattle.std.specs.FinMap.{FinMap}
use borrow.Author.Tests.{le-leb, leb-true}
use Rattle.std.proofs.lemmas.Bool.{and_parts}
use Rattle.adm_types.specs.declared.rows.PlaceRow.{PlaceRow}
use Rattle.adm_types.specs.declared.seasons.Size.{Size}
use Rattle.adm_types.specs.declared.rows.School.{School}
use Rattle.adm_register.specs.WellFormed.{SchoolFits, places_outside_plans}
use Rattle.adm_register.specs.RowTests.{fits_school, fits_school_with, is_school}

pub school_decided : (size : Size) (code : List ℕ) (school : School) → (fits_school size code school ≡ true) ↔ SchoolFits size code school
school_decided size code school = (
  λ test.
      let own = and_parts (pointwise nat_eq school.code code) (is_school size school) test in
      let first = and_parts _ _ own.1 in
      let range = and_parts _ _ first.1 in
      let second = and_parts _ _ first.0 in
      let third = and_parts _ _ second.0 in
      record { own_code = (bytes_decides school.code code).0 own.0; code_form = third.0; text = third.1; name = second.1; in_range = range.0; of_size = range.1 },
  λ fits i. (bytes_decides school.code code).1 fits.own_code i && (fits.code_form i && fits.text i && fits.name i && (fits.in_range i && fits.of_size i)),
)

-- and the test beside the places, that there is room too
pub school_decided_with : (size : Size) (places : FinMap nat_cmp PlaceRow) (code : List ℕ) (school : School)
    → (fits_school_with size places code school ≡ true) ↔ (SchoolFits size code school × (places_outside_plans places code ≤ school.pan))
school_decided_with size places code school = (
  λ test. let both = and_parts (fits_school size code school) _ test in ((school_decided size code school).0 both.0, le_told both.1),
  λ fits i. (school_decided size code school).1 fits.0 i && le_test fits.1 i,
)
  where
    le_told : nat_le (places_outside_plans places code) school.pan ≡ true → places_outside_plans places code ≤ school.pan
    le_told e = leb-true _ _ e

    le_test : places_outside_plans places code ≤ school.pan → nat_le (places_outside_plans places code) school.pan ≡ true
    le_test h = le-leb _ _ h
