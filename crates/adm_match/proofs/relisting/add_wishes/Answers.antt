use Rattle.adm_match.proofs.WhatIfs.{wishes_more}
use Rattle.adm_match.proofs.relisting.add_wishes.Goals as goal

pub loop-index-preserved : goal.loop-index-preserved
loop-index-preserved c = wishes_more c.args.list.now c.args.schools.now c.loop-index.index c.index-schools-index.result c.args.wishes.now.items c.loop-index.wishes.items
    c.add_wish.new.wishes.items c.loop-index-test.true c.index-schools-index.is c.loop-index.invariant c.in_ok-add_wish.ensures
