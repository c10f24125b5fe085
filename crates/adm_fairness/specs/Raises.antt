-- More places before a round: larger quotas, and a raised admission number (Gale and Shapley 1962; the number is this profile's).
use Rattle.std.specs.Prelude.{◌≡◌, ℕ, ◌≤◌, List, None}
use Rattle.std.specs.List.{AllZip}
use Rattle.adm_types.specs.declared.rows.School.{School}
use Rattle.adm_types.specs.declared.commands.Command.TheVariants.{RaisePan}
use Rattle.adm_types.specs.declared.draws.Lot.{Lot}
use Rattle.adm_types.specs.declared.draws.Outcome.{Outcome}
use Rattle.adm_match_laws.specs.Generous.{IsNoWorse}
use Rattle.adm_round.specs.declared.applicants.Applicant.{Applicant}
use Rattle.adm_round.specs.declared.applicants.Site.{Site}
use Rattle.adm_round.specs.Round.{IsPosed}
use Rattle.adm_round.specs.Ranks.{market_of_round}
use Rattle.adm_round.specs.Outcomes.{AreBest}
use Rattle.adm_register.specs.State.{State}
use Rattle.adm_register.specs.WellFormed.{WellFormed}
use Rattle.adm_commands.specs.Problem.{lots_fault}
use Rattle.adm_commands.specs.Commands.Round.{round_market, AreOutcomes}
use Rattle.adm_commands.specs.Steps.{Accepts}

-- the school with this admission number
abbrev pub with_pan : School → ℕ → School
with_pan school pan = record school { pan = pan }

-- a site then and now: the same school but for its admission number, and no smaller quota
pub record IsRaised (was now : Site) : Type 0 where
  pub school : now.school ≡ with_pan was.school now.school.pan
  pub quota : was.quota ≤ now.quota

-- More places before a round never hurt an applicant in it: where no quota is smaller and the lots are the same, its best
-- allocation gives each applicant what it would have had, or a school that it wants more.
abbrev pub NoLossByQuotas : Type 0
NoLossByQuotas =
    (sites raised : List Site) (applicants : List Applicant) (lots : List Lot) (before after : List Outcome)
    (first : AreBest (market_of_round sites applicants lots) applicants before)
    (second : AreBest (market_of_round raised applicants lots) applicants after)
    → AllZip IsRaised sites raised → IsPosed raised applicants lots
    → IsNoWorse (market_of_round sites applicants lots).entrants second.allocation first.allocation

-- Raising an admission number before a round leaves no child worse off in it: where the command is accepted and the lots pose
-- a round before it, the outcomes after it, by the same lots, give each entrant what it would have had, or a school that it
-- wants more.
abbrev pub NoLossByRaise : Type 0
NoLossByRaise =
    (old new : State) (school : List ℕ) (pan : ℕ) (numbers : List ℕ) (before after : List Outcome)
    (first : AreOutcomes old numbers before) (second : AreOutcomes new numbers after)
    → WellFormed old → Accepts old (RaisePan school pan) new → lots_fault old numbers ≡ None
    → IsNoWorse (round_market old numbers).entrants second.allocation first.allocation
