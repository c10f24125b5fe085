use Rattle.std.proofs.Common.{◌∙◌}
use Rattle.adm_match.proofs.Offered.{school_given}
use Rattle.adm_match.proofs.allotment.offers_of.Goals as goal

pub returns-clause-given : goal.returns-clause-given
returns-clause-given c child = school_given c.in_ok-rows.rows.items c.proposals-proposals.result child ∙ c.in_ok-rows.ensures.found child
