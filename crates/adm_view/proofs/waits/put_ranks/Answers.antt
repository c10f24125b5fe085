use Rattle.adm_view.proofs.Positions.{ranks_put}
use Rattle.adm_view.proofs.waits.put_ranks.Goals as goal

pub returns : goal.returns
returns c =
    ranks_put c.args.register.now c.tables-tables.ensures.well_formed c.args.school.now c.args.waits.now c.insert.new.self c.in_ok-ranks.ranks c.requires
    c.in_ok-insert.ensures.updates c.in_ok-ranks.ensures
