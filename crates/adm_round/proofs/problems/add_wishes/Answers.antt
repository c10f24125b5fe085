use Rattle.adm_round.specs.Lookups.{site_in, lot_in}
use Rattle.adm_round.proofs.Walks.{wishes_more}
use Rattle.adm_round.proofs.problems.add_wishes.Goals as goal

pub loop-index-preserved : goal.loop-index-preserved
loop-index-preserved c =
    wishes_more (site_in c.args.sites.now c.args.round_index.now) (lot_in c.args.round_index.now) c.args.child.now c.args.schools.now c.loop-index.index c.index-schools-index.result
    c.args.wishes.now.items c.loop-index.wishes.items c.add_wish.new.wishes.items c.loop-index-test.true c.index-schools-index.is c.loop-index.invariant c.in_ok-add_wish.ensures
