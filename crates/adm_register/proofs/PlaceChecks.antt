-- The test of a place decides that it fits.
use Rattle.std.proofs.Common.{◌≡◌, Bool, true, ℕ}
use Rattle.std.specs.Prelude.{nat_eq, ◌&&◌, ◌↔◌}
use Rattle.std.specs.Ordering.{nat_cmp}
use Rattle.std.specs.Cmp.{unsigned_Decides}
use Rattle.std.specs.FinMap.{FinMap}
use Rattle.std.proofs.lemmas.Bool.{and_parts}
use Rattle.adm_types.specs.declared.rows.Application.{Application}
use Rattle.adm_types.specs.declared.rows.Child.{Child}
use Rattle.adm_types.specs.declared.rows.PlaceRow.{PlaceRow}
use Rattle.adm_types.specs.declared.rows.School.{School}
use Rattle.adm_types.specs.Limits.{code_cmp}
use Rattle.adm_register.specs.WellFormed.{PlaceFits}
use Rattle.adm_register.specs.RowTests.{fits_place, is_place}

pub place_decided : (schools : FinMap code_cmp School) (children : FinMap nat_cmp Child) (applications : FinMap nat_cmp Application) (held : Bool) (number : ℕ) (row : PlaceRow)
    → (fits_place schools children applications held number row ≡ true) ↔ PlaceFits schools children applications held number row
place_decided schools children applications held number row = (
  λ test.
      let own = and_parts (nat_eq row.child number) (is_place schools children applications held row) test in
      let entitled = and_parts _ _ own.1 in
      let state = and_parts _ _ entitled.0 in
      let school = and_parts _ _ state.0 in
      record {
        own_number = (unsigned_Decides row.child number).0 own.0;
        child = school.0;
        school = school.1;
        state = state.1;
        entitled = entitled.1;
      },
  λ fits i.
      (unsigned_Decides row.child number).1 fits.own_number i
      && (fits.child i && fits.school i && fits.state i && fits.entitled i),
)
