use Rattle.adm_view_laws.proofs.Determined.{determined}
use Rattle.adm_view_laws.proofs.laws.document_determines_register.Goals as goal

pub returns : goal.returns
returns c = determined
