use Rattle.std.proofs.Common.{◌≡◌, ◌∙◌, ◌+◌, ap, sym, subst, refl, length, Some, MatchOption}
use Rattle.std.specs.List.{slice_get}
use Rattle.std.proofs.lemmas.Option.{slice_get_read}
use Rattle.adm_match.specs.Market.{market_of}
use Rattle.adm_match.specs.Stability.{school_of}
use Rattle.adm_match_laws.specs.Blocks.{earlier}
use Rattle.adm_match_laws.proofs.FirstBlock.{ContentBelow, FirstBelow, block_more, block_found, block_none, match_found}
use Rattle.adm_match_laws.proofs.blocking.first_among.Goals as goal

pub loop-index-preserved : goal.loop-index-preserved
loop-index-preserved c =
    let m = market_of c.args.entrants.now c.args.seats.now in
    let a = school_of c.args.offers.now in
    let i = c.loop-index.index in
    let e = c.index-entrants-index.result in
    let found = c.first_block_of-found in
    let at : slice_get m.entrants i ≡ Some e = slice_get_read m.entrants (length m.entrants) i e refl c.loop-index-test.true c.index-entrants-index.is in
    let more = block_more m a i c.loop-index.first e found.result c.loop-index.invariant at (match_found m a e found.result found.ensures.some found.ensures.none) in
    let is = c.earlier-first.ensures ∙ ap (λ n. earlier c.loop-index.first n found.result) (ap (λ x. x.child) c.entrant.view_is) in
    subst (λ o. MatchOption o (ContentBelow m a (i + 1)) (FirstBelow m a (i + 1))) (sym is) more

pub returns-clause-found : goal.returns-clause-found
returns-clause-found c =
    block_found (market_of c.args.entrants.now c.args.seats.now) (school_of c.args.offers.now) c.loop-index.index c.loop-index.first c.loop-index-test.false c.loop-index.invariant

pub returns-clause-none : goal.returns-clause-none
returns-clause-none c =
    block_none (market_of c.args.entrants.now c.args.seats.now) (school_of c.args.offers.now) c.loop-index.index c.loop-index.first c.loop-index-test.false c.loop-index.invariant
