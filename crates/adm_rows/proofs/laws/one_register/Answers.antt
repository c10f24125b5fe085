use Rattle.adm_rows.proofs.OneRegister.{one_register_lem}
use Rattle.adm_rows.proofs.laws.one_register.Goals as goal

pub returns : goal.returns
returns c = one_register_lem
