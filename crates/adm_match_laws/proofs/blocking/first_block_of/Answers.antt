use Rattle.std.proofs.Common.{◌∙◌, ap}
use Rattle.adm_match.specs.Market.{market_of}
use Rattle.adm_match.specs.Stability.{school_of}
use Rattle.adm_match_laws.proofs.FirstBlock.{listed_some, listed_none}
use Rattle.adm_match_laws.proofs.blocking.first_block_of.Goals as goal

pub returns-clause-some : goal.returns-clause-some
returns-clause-some c =
    listed_some (market_of c.args.entrants.now c.args.seats.now) (school_of c.args.offers.now) c.args.entrant.now c.deref.result.now c.first_of_list.result
    (c.deref.ensures.value ∙ ap (λ e. e.list) c.entrant.view_is) c.first_of_list.ensures

pub returns-clause-none : goal.returns-clause-none
returns-clause-none c =
    listed_none (market_of c.args.entrants.now c.args.seats.now) (school_of c.args.offers.now) c.args.entrant.now c.deref.result.now c.first_of_list.result
    (c.deref.ensures.value ∙ ap (λ e. e.list) c.entrant.view_is) c.first_of_list.ensures
