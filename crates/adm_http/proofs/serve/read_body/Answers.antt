use Rattle.std.proofs.Common.{[], refl, sym, arith, append-nil}
use Rattle.std.proofs.KnownBytes.{Consumes-nil}
use Rattle.adm_http.proofs.StepLemmas.{body_goes_on}
use Rattle.adm_http.proofs.serve.read_body.Goals as goal

pub read_to-requires-clause-on : goal.read_to-requires-clause-on
read_to-requires-clause-on g c =
    let judged = rw c.in-Run.is at c.requires.judged in
    let inside = rw c.in-Run.is at c.requires.inside in
    body_goes_on c.args.input.now.items _ c.args.len c.in-Run.length _ judged inside.0 inside.1 inside.2 refl (omega (arith, c.len.ensures, c.if-len-total.true))

-- no body is read
pub returns-in-Reject-2-clause-bytes : goal.returns-in-Reject-2-clause-bytes
returns-in-Reject-2-clause-bytes g c = ([], Consumes-nil _, sym (append-nil _), c.requires.near)

pub returns-in-Reject-3-clause-bytes : goal.returns-in-Reject-3-clause-bytes
returns-in-Reject-3-clause-bytes g c = ([], Consumes-nil _, sym (append-nil _), c.requires.near)
