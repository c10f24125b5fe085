use Rattle.std.proofs.Common.{ap, ◌∙◌}
use Rattle.adm_http.specs.Texts.{response_bytes}
use Rattle.adm_http.proofs.responses.response.Goals as goal

pub returns : goal.returns
unfolding response_bytes
returns c =
    let v = ap (λ v. v.items) c.into_bytes.ensures.value in
    v ∙ c.in_ok-text.ensures.ok
