use Rattle.std.proofs.Common.{inr, refl, sym, subst}
use Rattle.sqlite.specs.Files.{file_state}
use Rattle.sqlite.specs.Held.{Held}
use Rattle.sqlite.specs.State.{Survives}
use Rattle.adm_store.specs.Migration.{IsMigrated}
use Rattle.adm_host.specs.Found.{LeavesAsFound}
use Rattle.adm_host.specs.declared.connecting.OpenError.{OpenError}
use Rattle.adm_files.proofs.opening.changed_meanwhile.Goals as goal

pub returns-clause-err : goal.returns-clause-err
returns-clause-err g c = rw c.changed.ensures (inr (_, refl))

pub returns-clause-left : goal.returns-clause-left
returns-clause-left g c =
    let opened = c.requires in
    let kept = subst (λ (h : Held _). Survives (file_state opened.found) (file_state h) (IsMigrated (file_state opened.found))) (sym c.connection_of.ensures.same) opened.kept in
    subst (λ (it : OpenError _ _). LeavesAsFound _ it.remains) (sym c.changed.ensures) (opened.found, opened.is_found, kept)
