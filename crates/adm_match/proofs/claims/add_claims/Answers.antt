use Rattle.adm_match.proofs.Asking.{asked_more}
use Rattle.adm_match.proofs.claims.add_claims.Goals as goal

pub loop-index-preserved : goal.loop-index-preserved
loop-index-preserved c = asked_more c.args.entrant.now c.args.list.now c.loop-index.index c.index-list-index.result c.args.claims.now.items c.loop-index.claims.items
    c.add_claim.new.claims.items c.loop-index-test.true c.index-list-index.is c.loop-index.invariant c.in_ok-add_claim.ensures
