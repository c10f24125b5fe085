use Rattle.std.proofs.Common.{inr}
use Rattle.adm_program.proofs.run.serve.Goals as goal

pub returns-in-Ok-clause-ok : goal.returns-in-Ok-clause-ok
returns-in-Ok-clause-ok g c = inr (c.in-Ok.desk, rw c.in-Ok.is at c.in_ok-desk.ensures.ok, c.serve_connections.ensures.serves)
