use Rattle.std.proofs.lemmas.Result.{IfErr-weaker, IfOk-weaker}
use Rattle.adm_crashes.proofs.StartLemmas.{closed_files}
use Rattle.adm_crashes.proofs.files.close_files.Goals as goal

pub returns-clause-disks : goal.returns-clause-disks
returns-clause-disks g c r work leaves = IfOk-weaker c.close_files.result _ _
    (λ files copied clean. closed_files {g = g.D.Disk} g.met.D.Disk.seen_may_stay r work c.args.conn leaves files (copied clean)) c.close_files.ensures.copied

pub returns-clause-left : goal.returns-clause-left
returns-clause-left g c = IfErr-weaker c.close_files.result _ _ (λ e closed. closed.0) c.close_files.ensures.err
