use Rattle.std.proofs.Common.{◌∙◌}
use Rattle.adm_match.proofs.Asking.{repeated_claims}
use Rattle.adm_match.proofs.Coded.{answer_as}
use Rattle.adm_match.proofs.faults.has_equal_rank.Goals as goal

pub returns : goal.returns
returns c = answer_as c.has_repeat.result _ _ (repeated_claims c.args.entrants.now c.deref.result.now c.requires (c.deref.ensures.value ∙ c.in_ok-claims.ensures)) c.has_repeat.ensures
