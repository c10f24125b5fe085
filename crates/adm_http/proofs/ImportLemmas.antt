-- What is read of a body whose reads do not fail.
use Rattle.std.proofs.Common.{◌≡◌, refl, List}
use Rattle.adm_csv.specs.Rows.{FailsAt, Record}
use Rattle.adm_csv.specs.declared.fault.Fault.{Fault}
use Rattle.adm_csv.specs.declared.fault.Fault.TheVariants.{Header, FieldCount, BadNumber, BadDate, BadText, TooManyRows, Read, Memory}
use Rattle.adm_csv.specs.declared.fault.RowFault.{RowFault}

pub never_read : (e : RowFault) (fault : Fault) (records : List Record) → (fault ≡ Read → ⊥) → FailsAt (Unit {0}) e fault records → FailsAt ⊥ e fault records
never_read e Header records never it = it
never_read e FieldCount records never it = it
never_read e BadNumber records never it = it
never_read e BadDate records never it = it
never_read e BadText records never it = it
never_read e TooManyRows records never it = it
never_read e Read records never it = absurd (never refl)
never_read e Memory records never it = tt
