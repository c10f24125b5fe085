use Rattle.adm_view_laws.proofs.Entries.{vacancies_same}
use Rattle.adm_view_laws.proofs.laws.vacancies_are_those.Goals as goal

pub returns : goal.returns
returns c = vacancies_same
