use Rattle.std.proofs.Common.{ℕ, List, [], take, true, false, Some, refl, ap}
use Rattle.adm_http.proofs.ConnectionLemmas.{ended_so, unanswered, unwritten}
use Rattle.adm_http.proofs.listen.serve_connection.Goals as goal

-- the response could not be written whole
pub returns-in-Ok : goal.returns-in-Ok
returns-in-Ok g c =
    let answered = c.in-Ok.ensures.ok in
    let ended = c.in-Err-respond.ensures.err in (
      g.N.Connection.Input.remaining c.answer_request.new.reader,
      take ended.0 c.deref.result.now,
      (answered.0, c.in-Ok.output.items, answered.1, answered.2, (ended.0, ap (λ (bytes : List ℕ). take ended.0 bytes) c.deref.ensures.value)),
      ended_so _ _ _ _ _ true true c.in-Ok.ensures.reader refl ended.1,
    )

-- no response was made
pub returns : goal.returns
returns g c = (
  g.N.Connection.Input.remaining c.answer_request.new.reader,
  [],
  unanswered g.A.RequestHandler.runs g.A.RequestHandler.shows _ (Some []) (Some []) c.in-Err.fault c.in-Err.ensures.err refl,
  ended_so _ _ [] _ _ false _ c.in-Err.ensures.reader (unwritten g.A.RequestHandler.runs g.A.RequestHandler.shows _ c.in-Err.fault c.in-Err.ensures.err) c.close.ensures,
)
