use Rattle.std.proofs.Common.{subst}
use Rattle.std.proofs.lemmas.Result.{MatchResult-weaker}
use Rattle.adm_match.specs.Market.{Market}
use Rattle.adm_match.specs.Stability.{IsBest, school_of}
use Rattle.adm_round.proofs.GivenToApplicants.{are_best, are_listed, have_room, in_order}
use Rattle.adm_round.proofs.allotting.allot.Goals as goal

pub returns-clause-best : goal.returns-clause-best
returns-clause-best c =
    MatchResult-weaker c.outcomes_of.result c.outcomes_of.ensures
    (λ outcomes given. are_best c.args.sites.now c.args.applicants.now c.args.lots.now c.requires.posed (school_of c.in_ok-offers.offers) outcomes.items
    (subst (λ (m : Market). IsBest m (school_of c.in_ok-offers.offers)) c.in_ok-problem.ensures c.in_ok-offers.ensures.best) given)
    (λ e _. tt)

pub returns-clause-listed : goal.returns-clause-listed
returns-clause-listed c =
    MatchResult-weaker c.outcomes_of.result c.outcomes_of.ensures
    (λ outcomes given. are_listed c.args.sites.now c.args.applicants.now c.args.lots.now c.requires.posed (school_of c.in_ok-offers.offers) outcomes.items
    (subst (λ (m : Market). IsBest m (school_of c.in_ok-offers.offers)) c.in_ok-problem.ensures c.in_ok-offers.ensures.best) given)
    (λ e _. tt)

pub returns-clause-room : goal.returns-clause-room
returns-clause-room c =
    MatchResult-weaker c.outcomes_of.result c.outcomes_of.ensures
    (λ outcomes given. have_room c.args.sites.now c.args.applicants.now c.args.lots.now c.requires.posed (school_of c.in_ok-offers.offers) outcomes.items
    (subst (λ (m : Market). IsBest m (school_of c.in_ok-offers.offers)) c.in_ok-problem.ensures c.in_ok-offers.ensures.best) given)
    (λ e _. tt)

pub returns-clause-children : goal.returns-clause-children
returns-clause-children c =
    MatchResult-weaker c.outcomes_of.result c.outcomes_of.ensures
    (λ outcomes given. in_order c.args.sites.now c.args.applicants.now c.args.lots.now c.requires.posed (school_of c.in_ok-offers.offers) outcomes.items
    (subst (λ (m : Market). IsBest m (school_of c.in_ok-offers.offers)) c.in_ok-problem.ensures c.in_ok-offers.ensures.best) given)
    (λ e _. tt)
