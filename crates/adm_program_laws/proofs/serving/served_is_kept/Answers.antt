use Rattle.sqlite.specs.Held.{state}
use Rattle.adm_program_laws.proofs.ServingLemmas.{served_is_kept_lem}
use Rattle.adm_program_laws.proofs.serving.served_is_kept.Goals as goal

pub returns : goal.returns
returns g c = served_is_kept_lem (state g.S.Store)
