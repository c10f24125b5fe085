use Rattle.adm_view_laws.proofs.Parts.{child_only}
use Rattle.adm_view_laws.proofs.laws.child_entries_are_of_document.Goals as goal

pub returns : goal.returns
returns c = child_only
