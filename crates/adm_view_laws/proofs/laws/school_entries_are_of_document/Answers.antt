use Rattle.adm_view_laws.proofs.Parts.{school_only}
use Rattle.adm_view_laws.proofs.laws.school_entries_are_of_document.Goals as goal

pub returns : goal.returns
returns c = school_only
