use Rattle.std.proofs.Common.{subst}
use Rattle.sqlite.specs.Held.{Held}
use Rattle.adm_host.specs.Found.{Closes}
use Rattle.adm_files.proofs.closing.close.Goals as goal

pub returns-clause-closes : goal.returns-clause-closes
returns-clause-closes g c = subst (λ (h : Held _). Closes h c.close_files.result) c.connection_of.ensures.same c.close_files.ensures
