use Rattle.adm_match.proofs.Coded.{answer_as}
use Rattle.adm_match.proofs.WhatIfs.{codes_same}
use Rattle.adm_match.proofs.what_ifs.repeats.Goals as goal

pub returns : goal.returns
returns c = answer_as c.has_repeat.result _ _ (codes_same c.args.schools.now) c.has_repeat.ensures
