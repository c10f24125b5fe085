use Rattle.std.proofs.Common.{Ok, Err, ap, ◌∙◌}
use Rattle.adm_files.proofs.lines.run_questions.Goals as goal

pub returns-in-Ok : goal.returns-in-Ok
returns-in-Ok g c = record {
  after = c.args.desk;
  run = Ok c.in-Ok.run';
  ends = c.in-Ok.ensures.ends;
  reported = c.close.ensures.exit ∙ ap Ok c.exit_of.ensures;
  closes = c.close.ensures.closes;
}

pub returns-in-Err : goal.returns-in-Err
returns-in-Err g c = record {
  after = c.args.desk;
  run = Err c.in-Err.fault;
  ends = c.in-Err.ensures.ends;
  reported = c.close-in-Err.ensures.exit ∙ ap Err c.fault_of_run.ensures;
  closes = c.close-in-Err.ensures.closes;
}
