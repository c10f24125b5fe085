use Rattle.std.proofs.Common.{subst}
use Rattle.std.specs.BTreeMap.{Updates}
use Rattle.std.proofs.Common.{Some}
use Rattle.adm_round.specs.declared.applicants.Pair.{Pair}
use Rattle.adm_round.specs.Lookups.{pair_cmp}
use Rattle.adm_round.proofs.Walks.{lots_more}
use Rattle.adm_round.proofs.round_index.lots_by_pair.Goals as goal

pub loop-back-preserved : goal.loop-back-preserved
loop-back-preserved c =
    lots_more c.args.lots.now c.loop-back.back c.index-lots-lots.result c.loop-back.values c.insert.new.self
    c.loop-back-test.true c.index-lots-lots.is c.loop-back.invariant
    (subst (λ (key : Pair). Updates pair_cmp c.loop-back.values c.insert.new.self key (Some c.index-lots-lots.result.lot)) c.pair_of.ensures c.in_ok-insert.ensures.updates)
