use Rattle.std.proofs.Common.{inr}
use Rattle.adm_files.proofs.lines.answer_questions.Goals as goal

pub returns-in-Ok-clause-ok : goal.returns-in-Ok-clause-ok
returns-in-Ok-clause-ok g c = inr (c.in-Ok.desk, rw c.in-Ok.is at c.in_ok-desk.ensures.ok, c.run_questions.ensures)
