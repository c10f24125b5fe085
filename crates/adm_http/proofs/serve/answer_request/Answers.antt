use Rattle.adm_http.proofs.serve.answer_request.Goals as goal

pub respond_to-requires-clause-judged : goal.respond_to-requires-clause-judged
respond_to-requires-clause-judged g c = rw (← c.deref.ensures.value) at c.in_ok-request.ensures.judged.0
