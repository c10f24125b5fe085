-- By no other list would a child have a better school.
use Rattle.std.proofs.Common.{◌≡◌, ◌≤◌, sym, subst, Option, None}
use Rattle.std.specs.Prelude.{All}
use Rattle.adm_match.specs.Market.{Code, Candidate, assigned_rank, first_fault}
use Rattle.adm_match.specs.Relisting.{NoGain}
use Rattle.adm_round.specs.Outcomes.{PosedWithoutFault}
use Rattle.adm_commands.specs.Commands.Round.{sites, round_applicants, round_lots, round_market}
use Rattle.adm_command_laws.specs.NextRound.{NoBetterList}
use Rattle.adm_commands.proofs.Posed.{posed}

pub no_better_list_lem : PosedWithoutFault → NoGain → NoBetterList
no_better_list_lem faultless law s numbers child schools school well passes found best is =
    let market = round_market s numbers in
    let fits : first_fault market ≡ None = faultless (sites s) (round_applicants s) (round_lots s numbers) (posed s numbers well passes) in
    subst (λ (place : Option Code). All (λ (entrant : Candidate). entrant.child ≡ child → assigned_rank entrant.list (best child) ≤ assigned_rank entrant.list place) market.entrants) (sym found.2)
    (law market child schools best found.0 fits is found.1)
