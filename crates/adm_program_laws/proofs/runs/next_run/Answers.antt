use Rattle.std.proofs.Common.{subst, sym}
use Rattle.sqlite_store.specs.declared.store.FileStore.{FileStore}
use Rattle.sqlite.specs.Files.{file_state}
use Rattle.sqlite.specs.Held.{Held}
use Rattle.adm_desk.specs.Acknowledged.{LeavesAcknowledged}
use Rattle.adm_program_laws.proofs.NextRunLemmas.{after_stop, after_close, goes_on}
use Rattle.adm_program_laws.proofs.runs.next_run.Goals as goal

pub returns-clause-crashed : goal.returns-clause-crashed
returns-clause-crashed g c = λ r work leaves clean image may.
    let conn = c.into_connection.result in
    goes_on {h = g.E.Disk} g.met.E.Disk.seen_may_stay c.one_register.ensures image r work
    (after_stop {g = g.D.Disk} conn r work (subst (λ (x : Held (FileStore g.row.D.Denot g.D.Disk)). LeavesAcknowledged r work (file_state x)) (sym c.into_connection.ensures.same) leaves)
    c.into_store.result c.into_store.ensures.quiet c.into_store.ensures.numbered c.into_store.ensures.sound clean image may)

pub returns-clause-closed : goal.returns-clause-closed
returns-clause-closed g c = λ r work leaves files copied image out.
    goes_on {h = g.E.Disk} g.met.E.Disk.seen_may_stay c.one_register.ensures image r work
    (after_close {g = g.D.Disk} c.args.desk.conn r work leaves g.met.D.Disk.seen_may_stay files copied image out)
