use Rattle.std.proofs.Common.{◌≡◌, take, map}
use Rattle.std.specs.Prelude.{filter}
use Rattle.adm_match.specs.Market.{Code}
use Rattle.adm_round.specs.Round.{number_of, wants}
use Rattle.adm_round.specs.Lookups.{children_for}
use Rattle.adm_round.proofs.wanting.children_by_school.Given as goal

abbrev pub invariant-loop-index : goal.invariant-loop-index
invariant-loop-index l =
    (code : Code) → children_for l.wanting code ≡ map number_of (filter (wants code) (take l.index l.applicants))
