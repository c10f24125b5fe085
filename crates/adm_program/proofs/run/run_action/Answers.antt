use Rattle.std.proofs.Common.{refl}
use Rattle.adm_program.proofs.Doing.{if_ok, season_made}
use Rattle.adm_program.proofs.run.run_action.Goals as goal

pub returns-in-Ok-clause-ok : goal.returns-in-Ok-clause-ok
returns-in-Ok-clause-ok g c =
    if_ok (λ ended made. season_made (g.R.Registers.held c.args.files) _ _ _ _ _ _ _ _ _ _ c.in-Ok.season _ c.in-Init.is c.as_slice.ensures refl refl c.in-Ok.ensures.season c.of_size-sized.ensures made) c.create.result c.create.ensures.ok

pub returns-in-Ok-clause-left : goal.returns-in-Ok-clause-left
returns-in-Ok-clause-left g c = rw c.in-Init.is c.create.ensures.left

pub returns-in-Init-clause-left : goal.returns-in-Init-clause-left
returns-in-Init-clause-left g c = c.before_opening.ensures.left _

pub returns-in-Do-clause-ok : goal.returns-in-Do-clause-ok
returns-in-Do-clause-ok g c = rw c.in-Do.is c.do_lines.ensures.ok

pub returns-in-Do-clause-left : goal.returns-in-Do-clause-left
returns-in-Do-clause-left g c = rw c.in-Do.is c.do_lines.ensures.left

pub returns-in-WhatIf-clause-ok : goal.returns-in-WhatIf-clause-ok
returns-in-WhatIf-clause-ok g c = rw c.in-WhatIf.is c.answer_questions.ensures.ok

pub returns-in-WhatIf-clause-left : goal.returns-in-WhatIf-clause-left
returns-in-WhatIf-clause-left g c = rw c.in-WhatIf.is c.answer_questions.ensures.left

pub returns-in-Import-clause-ok : goal.returns-in-Import-clause-ok
returns-in-Import-clause-ok g c = rw c.in-Import.is (if_ok (λ ended imported. (refl, imported)) c.import.result c.import.ensures.ok)

pub returns-in-Import-clause-left : goal.returns-in-Import-clause-left
returns-in-Import-clause-left g c = rw c.in-Import.is c.import.ensures.left

pub returns-in-Serve-clause-ok : goal.returns-in-Serve-clause-ok
returns-in-Serve-clause-ok g c = rw c.in-Serve.is (if_ok (λ ended served. (refl, served)) c.serve.result c.serve.ensures.ok)

pub returns-in-Serve-clause-left : goal.returns-in-Serve-clause-left
returns-in-Serve-clause-left g c = rw c.in-Serve.is c.serve.ensures.left

pub returns-in-Letter-clause-ok : goal.returns-in-Letter-clause-ok
returns-in-Letter-clause-ok g c = rw c.in-Letter.is (if_ok (λ ended printed. (refl, printed)) c.print.result c.print.ensures.ok)

pub returns-in-Letter-clause-left : goal.returns-in-Letter-clause-left
returns-in-Letter-clause-left g c = rw c.in-Letter.is c.print.ensures.left

pub returns-in-List-clause-ok : goal.returns-in-List-clause-ok
returns-in-List-clause-ok g c = rw c.in-List.is (if_ok (λ ended printed. (refl, printed)) c.print-in-List.result c.print-in-List.ensures.ok)

pub returns-in-List-clause-left : goal.returns-in-List-clause-left
returns-in-List-clause-left g c = rw c.in-List.is c.print-in-List.ensures.left

pub returns-in-RoundReport-clause-ok : goal.returns-in-RoundReport-clause-ok
returns-in-RoundReport-clause-ok g c = rw c.in-RoundReport.is (if_ok (λ ended printed. (refl, printed)) c.print-in-RoundReport.result c.print-in-RoundReport.ensures.ok)

pub returns-in-RoundReport-clause-left : goal.returns-in-RoundReport-clause-left
returns-in-RoundReport-clause-left g c = rw c.in-RoundReport.is c.print-in-RoundReport.ensures.left

pub returns-in-Pairs-clause-ok : goal.returns-in-Pairs-clause-ok
returns-in-Pairs-clause-ok g c = rw c.in-Pairs.is (if_ok (λ ended printed. (refl, printed)) c.print-in-Pairs.result c.print-in-Pairs.ensures.ok)

pub returns-in-Pairs-clause-left : goal.returns-in-Pairs-clause-left
returns-in-Pairs-clause-left g c = rw c.in-Pairs.is c.print-in-Pairs.ensures.left

pub returns-clause-ok : goal.returns-clause-ok
returns-clause-ok g c = rw (c.in-Show.is, ← c.shown.ensures) (if_ok (λ ended printed. (refl, printed)) c.print-in-Show.result c.print-in-Show.ensures.ok)

pub returns-clause-left : goal.returns-clause-left
returns-clause-left g c = rw c.in-Show.is c.print-in-Show.ensures.left
