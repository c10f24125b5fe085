-- The test of an imported row decides that it fits.
use Rattle.std.proofs.Common.{◌≡◌, true, ℕ}
use Rattle.std.specs.Prelude.{◌&&◌, ◌↔◌}
use Rattle.std.specs.Ordering.{nat_cmp}
use Rattle.std.specs.FinMap.{FinMap}
use Rattle.std.proofs.lemmas.Bool.{and_parts}
use Rattle.adm_types.specs.declared.rows.Child.{Child}
use Rattle.adm_types.specs.declared.rows.Row.{Row as ImportRow}
use Rattle.adm_types.specs.declared.seasons.Size.{Size}
use Rattle.adm_types.specs.declared.rows.School.{School}
use Rattle.adm_types.specs.Limits.{code_cmp}
use Rattle.adm_register.specs.State.{application_of}
use Rattle.adm_register.specs.WellFormed.{ImportFits}
use Rattle.adm_register.specs.RowTests.{fits_import, fits_child, fits_application}
use Rattle.adm_register.proofs.ApplicationChecks.{application_decided}
use Rattle.adm_register.proofs.ChildChecks.{child_decided}

pub import_decided : (size : Size) (last_list_day : ℕ) (schools : FinMap code_cmp School) (children : FinMap nat_cmp Child) (number : ℕ) (row : ImportRow)
    → (fits_import size last_list_day schools children number row ≡ true) ↔ ImportFits size last_list_day schools children number row
import_decided size last_list_day schools children number row =
    let child = child_decided size schools number row.child in
    let application = application_decided last_list_day schools children number (application_of row) in (
      λ test.
          let both = and_parts (fits_child size schools number row.child) (fits_application last_list_day schools children number (application_of row)) test in
          record { child = child.0 both.0; application = application.0 both.1 },
      λ fits i. child.1 fits.child i && application.1 fits.application i,
    )
