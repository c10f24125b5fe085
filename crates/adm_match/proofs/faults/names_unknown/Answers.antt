use Rattle.std.proofs.Common.{◌∙◌}
use Rattle.adm_match.proofs.Coded.{unknown_same}
use Rattle.adm_match.proofs.faults.names_unknown.Goals as goal

pub returns : goal.returns
returns c = c.some_want_unknown.ensures ∙ unknown_same c.args.entrants.now c.args.seats.now c.in_ok-codes.codes c.in_ok-codes.ensures
