use Rattle.std.proofs.Common.{refl, inr, ap, ◌∙◌}
use Rattle.adm_rows.specs.FirstFault.{is_known_version}
use Rattle.adm_rows.proofs.SeasonRows.{no_code}
use Rattle.adm_rows.proofs.reading.season.version_in.Goals as goal

-- a number of no version
pub returns-in-None-clause-bad : goal.returns-in-None-clause-bad
returns-in-None-clause-bad c = inr (refl, ap is_known_version c.in-Ok.ensures.ok ∙ no_code c.in-Ok.number (c.version_of.ensures.none c.in-None.is))
