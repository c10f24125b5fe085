use Rattle.adm_crashes.proofs.FoundLemmas.{restarts, was_clean}
use Rattle.adm_crashes.proofs.crashes.run_until_crash.Goals as goal

pub returns-clause-restarts : goal.returns-clause-restarts
returns-clause-restarts g c r file =
    restarts {g = g.D.Disk} r _ c.in_ok-answers.field-0.store (c.in_ok-answers.ensures.databases r file) c.restart-opened.result c.restart-opened.ensures.finds c.restart-opened.ensures.left
    c.restart-opened.ensures.never

pub returns-clause-answers : goal.returns-clause-answers
returns-clause-answers g c =
    let it = c.in_ok-answers.ensures.answers in
    record {
      desk = it.desk;
      alive = it.alive;
      register = λ r file clean.
          it.register r file (was_clean {g = g.D.Disk} c.in_ok-answers.field-0.store c.restart-opened.result c.restart-opened.ensures.finds c.restart-opened.ensures.left clean);
      last = it.last;
      run = it.run;
    }
