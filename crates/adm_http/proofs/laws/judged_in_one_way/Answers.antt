use Rattle.adm_http.proofs.LawLemmas.{one_way}
use Rattle.adm_http.proofs.laws.judged_in_one_way.Goals as goal

pub returns : goal.returns
returns c = one_way
