-- The test of a left pair decides that it fits.
use Rattle.std.proofs.Common.{◌≡◌, true}
use Rattle.std.specs.Prelude.{◌&&◌, ◌↔◌}
use Rattle.std.specs.Ordering.{nat_cmp}
use Rattle.std.specs.FinMap.{FinMap}
use Rattle.std.proofs.lemmas.Bool.{and_parts}
use Rattle.adm_types.specs.declared.rows.Child.{Child}
use Rattle.adm_types.specs.declared.rows.LeftPair.{LeftPair}
use Rattle.adm_types.specs.declared.rows.PlaceRow.{PlaceRow}
use Rattle.adm_types.specs.declared.rows.School.{School}
use Rattle.adm_table.specs.Same.{is_same_left}
use Rattle.adm_types.specs.Limits.{code_cmp}
use Rattle.adm_register.specs.WellFormed.{LeftPairFits}
use Rattle.adm_register.specs.RowTests.{fits_left, is_left}
use Rattle.adm_register.proofs.SameLemmas.{same_left}

pub left_decided : (schools : FinMap code_cmp School) (children : FinMap nat_cmp Child) (places : FinMap nat_cmp PlaceRow) (key pair : LeftPair)
    → (fits_left schools children places key pair ≡ true) ↔ LeftPairFits schools children places key pair
left_decided schools children places key pair = (
  λ test.
      let own = and_parts (is_same_left pair key) (is_left schools children places pair) test in
      let no_place = and_parts _ _ own.1 in
      let school = and_parts _ _ no_place.0 in
      record { own_key = (same_left pair key).0 own.0; child = school.0; school = school.1; no_place = no_place.1 },
  λ fits i. (same_left pair key).1 fits.own_key i && (fits.child i && fits.school i && fits.no_place i),
)
