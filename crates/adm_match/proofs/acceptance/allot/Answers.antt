-- What the rows give is the best allocation.
use Rattle.adm_match.specs.Market.{market_of}
use Rattle.adm_match.proofs.GivenByRows.{Settled, best_if, none_if, proposals_if}
use Rattle.adm_match.proofs.acceptance.allot.Goals as goal

pub returns-clause-best : goal.returns-clause-best
returns-clause-best c =
    let m = market_of c.args.entrants.now c.args.seats.now in
    let h : Settled m c.in_ok-rows.rows.items = record { distinct = c.requires.distinct; sound = c.in_ok-rows.ensures.sound; done = c.in_ok-rows.ensures.done } in
    best_if m c.in_ok-rows.rows.items c.offers_of.result h c.offers_of.ensures.given

pub returns-clause-others : goal.returns-clause-others
returns-clause-others c =
    let m = market_of c.args.entrants.now c.args.seats.now in
    let h : Settled m c.in_ok-rows.rows.items = record { distinct = c.requires.distinct; sound = c.in_ok-rows.ensures.sound; done = c.in_ok-rows.ensures.done } in
    none_if m c.in_ok-rows.rows.items c.offers_of.result h c.offers_of.ensures.given

pub returns-clause-proposals : goal.returns-clause-proposals
returns-clause-proposals c =
    let m = market_of c.args.entrants.now c.args.seats.now in
    let h : Settled m c.in_ok-rows.rows.items = record { distinct = c.requires.distinct; sound = c.in_ok-rows.ensures.sound; done = c.in_ok-rows.ensures.done } in
    proposals_if m c.in_ok-rows.rows.items c.offers_of.result h c.offers_of.ensures.given c.offers_of.ensures.proposals
