use Rattle.std.proofs.Common.{MatchOption}
use Rattle.adm_match.specs.Market.{market_of}
use Rattle.adm_match.specs.Stability.{school_of}
use Rattle.adm_match_laws.proofs.FirstBlock.{ContentBelow, FirstBelow}
use Rattle.adm_match_laws.proofs.blocking.first_among.Given as goal

abbrev pub invariant-loop-index : goal.invariant-loop-index
invariant-loop-index l =
    MatchOption l.first (ContentBelow (market_of l.entrants l.seats) (school_of l.offers) l.index) (FirstBelow (market_of l.entrants l.seats) (school_of l.offers) l.index)
