use Rattle.std.proofs.Common.{◌∙◌}
use Rattle.adm_http.proofs.responses.bare.Goals as goal

pub returns : goal.returns
returns c =
    let e = c.as_str.ensures.value ∙ c.in_ok-body.ensures.ok in
    rw (e, c.as_u16-code.ensures.value) at c.response.ensures
