use Rattle.std.proofs.Common.{rules, ◌++◌, take}
use Rattle.std.proofs.lemmas.Result.{err_from_is_err_and}
use Rattle.adm_lists.proofs.KnownBytes.{Appends-then}
use Rattle.adm_wire.proofs.Puts.{put_failed, cut_more}
use Rattle.adm_wire.proofs.streams.WatchedOutput.put.Goals as goal

pub loop-rest-preserved : goal.loop-rest-preserved
loop-rest-preserved g c =
    let i = c.loop-rest.invariant in (
      i.0 ++ take c.in_ok-count.count c.loop-rest.rest.now,
      cut_more c.args.bytes.now i.0 c.loop-rest.rest.now c.in_ok-count.count i.1,
      Appends-then _ _ _ i.0 _ i.2 c.in_ok-count.ensures.ok,
      search rules,
    )

pub returns-in_err-count-clause-bytes : goal.returns-in_err-count-clause-bytes
returns-in_err-count-clause-bytes g c =
    let i = c.loop-rest.invariant in
    let p = err_from_is_err_and c.from_residual.result c.from_residual.ensures.1 in
    rw p.1 (put_failed _ _ _ c.args.bytes.now i.0 c.loop-rest.rest.now i.1 i.2 c.in_err-count.ensures.err)
