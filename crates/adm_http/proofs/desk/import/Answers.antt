use Rattle.std.proofs.Common.{refl, sym}
use Rattle.std.proofs.lemmas.Bool.{true≢false}
use Rattle.adm_csv.specs.Rows.{records_of}
use Rattle.adm_http.proofs.ImportLemmas.{never_read}
use Rattle.adm_http.proofs.desk.import.Goals as goal

pub returns-in-Err : goal.returns-in-Err
returns-in-Err g c =
    let fault = c.in-Err.fault in
    (never_read fault fault.fault (records_of c.args.body.now) (λ is. true≢false (sym (c.in-Err.ensures.read is))) c.in-Err.ensures.rows, refl)
