use Rattle.adm_http.proofs.respond.shown_response.Goals as goal

pub returns-in-Memory : goal.returns-in-Memory
returns-in-Memory c = rw c.in-Memory.is (rw c.memory_text.ensures at c.unavailable.ensures)

pub returns-in-Failed : goal.returns-in-Failed
returns-in-Failed c = rw c.in-Failed.is (rw c.failed_text.ensures at c.unavailable-in-Failed.ensures)
