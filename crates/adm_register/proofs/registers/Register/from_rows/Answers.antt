use Rattle.std.proofs.Common.{subst}
use Rattle.std.proofs.lemmas.Bool.{both_ways}
use Rattle.std.proofs.lemmas.Result.{err_from_is_err_and}
use Rattle.adm_register.specs.WellFormed.{WellFormed}
use Rattle.adm_register.proofs.SameFault.{same_fault}
use Rattle.adm_register.proofs.registers.Register.from_rows.Goals as goal

pub returns-in_err-tables-clause-bad_row : goal.returns-in_err-tables-clause-bad_row
returns-in_err-tables-clause-bad_row c =
    let p = err_from_is_err_and c.from_residual.result c.from_residual.ensures.1 in
    rw (p.1, p.2) (λ bad state well same.
    c.in_err-tables.ensures.repeated (same_fault _ _ bad) state well same)

pub returns-else-fits-clause-bad_row : goal.returns-else-fits-clause-bad_row
returns-else-fits-clause-bad_row c fault state well same =
    both_ways c.in_ok-fits.fits c.if-fits.false (c.in_ok-fits.ensures.1 (subst WellFormed (c.in_ok-tables.ensures.made.1 state well same) well))
