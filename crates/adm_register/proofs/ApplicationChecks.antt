-- The test of an application decides that it fits.
use Rattle.std.proofs.Common.{◌≡◌, true, ℕ}
use Rattle.std.specs.Prelude.{nat_eq, ◌&&◌, ◌↔◌}
use Rattle.std.specs.Ordering.{nat_cmp}
use Rattle.std.specs.Cmp.{unsigned_Decides}
use Rattle.std.specs.FinMap.{FinMap}
use Rattle.std.proofs.lemmas.Bool.{and_parts}
use Rattle.adm_types.specs.declared.rows.Application.{Application}
use Rattle.adm_types.specs.declared.rows.Child.{Child}
use Rattle.adm_types.specs.declared.rows.School.{School}
use Rattle.adm_types.specs.Limits.{code_cmp}
use Rattle.adm_register.specs.WellFormed.{ApplicationFits}
use Rattle.adm_register.specs.RowTests.{fits_application, is_application}

pub application_decided : (last_list_day : ℕ) (schools : FinMap code_cmp School) (children : FinMap nat_cmp Child) (number : ℕ) (application : Application)
    → (fits_application last_list_day schools children number application ≡ true) ↔ ApplicationFits last_list_day schools children number application
application_decided last_list_day schools children number application = (
  λ test.
      let own = and_parts (nat_eq application.child number) (is_application last_list_day schools children application) test in
      let known = and_parts _ _ own.1 in
      let without_repeat = and_parts _ _ known.0 in
      let list_length = and_parts _ _ without_repeat.0 in
      let day = and_parts _ _ list_length.0 in
      record {
        own_number = (unsigned_Decides application.child number).0 own.0;
        child = day.0;
        day = day.1;
        list_length = list_length.1;
        without_repeat = without_repeat.1;
        known = known.1;
      },
  λ fits i.
      (unsigned_Decides application.child number).1 fits.own_number i
      && (fits.child i && fits.day i && fits.list_length i && fits.without_repeat i && fits.known i),
)
