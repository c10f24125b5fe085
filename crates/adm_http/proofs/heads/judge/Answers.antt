use Rattle.adm_http.proofs.HeadLemmas.{whole_head, inside_window}
use Rattle.adm_http.proofs.heads.judge.Goals as goal

pub returns-in-Ok-Complete-clause-judged : goal.returns-in-Ok-Complete-clause-judged
returns-in-Ok-Complete-clause-judged c =
    let whole = rw c.in-Ok-Complete.field-0-is at c.in-Ok-Complete.ensures.complete in
    whole_head c.args.input.now c.first_bytes-window.result.now c.parse_request.new.headers c.in-Ok-Complete.head
    c.of-method.result.now c.of-target.result.now c.decide.result
    c.first_bytes-window.ensures whole c.parse_request.auto.headers c.of-method.ensures c.of-target.ensures c.decide.ensures.decided

pub returns-in-Ok-Complete-clause-inside : goal.returns-in-Ok-Complete-clause-inside
returns-in-Ok-Complete-clause-inside c =
    let within = rw c.in-Ok-Complete.field-0-is at c.in-Ok-Complete.ensures.within in
    let fits = inside_window c.args.input.now _ _ c.first_bytes-window.ensures within.section.len_fits in
    (fits.0, fits.1, c.decide.ensures.small)
