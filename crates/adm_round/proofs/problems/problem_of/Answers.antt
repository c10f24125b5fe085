use Rattle.std.proofs.Common.{ap, subst, ◌≡◌, ◌∙◌, IfOk}
use Rattle.adm_match.specs.Market.{first_fault}
use Rattle.adm_round.proofs.Faultless.{faultless, same_market}
use Rattle.adm_round.proofs.problems.problem_of.Goals as goal

pub posed-requires : goal.posed-requires
posed-requires c =
    ap first_fault (same_market c.args.sites.now c.args.applicants.now c.args.lots.now c.in_ok-round_index.round_index c.in_ok-entrants.entrants.items c.in_ok-seats.seats.items
    c.in_ok-round_index.ensures c.in_ok-entrants.ensures c.in_ok-seats.ensures) ∙ faultless c.args.sites.now c.args.applicants.now c.args.lots.now c.requires

pub returns : goal.returns
returns c =
    subst (λ market. IfOk c.posed.result (λ problem. problem ≡ market))
    (same_market c.args.sites.now c.args.applicants.now c.args.lots.now c.in_ok-round_index.round_index c.in_ok-entrants.entrants.items c.in_ok-seats.seats.items
    c.in_ok-round_index.ensures c.in_ok-entrants.ensures c.in_ok-seats.ensures) c.posed.ensures
