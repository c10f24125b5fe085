-- How a line of the command line ends, by what the desk answered.
use Rattle.std.specs.Prelude.{nat_lt, if◌then◌else◌, Result, Ok, Err}
use Rattle.adm_desk.specs.declared.answer.Answer.{Answer}
use Rattle.adm_desk.specs.declared.answer.Answer.TheVariants as answer
use Rattle.adm_desk.specs.declared.run.Run.{Run}
use Rattle.adm_desk.specs.declared.run.RunFault.{RunFault}
use Rattle.adm_desk.specs.declared.run.RunFault.TheVariants as run
use Rattle.adm_host.specs.declared.exit.Exit.{Exit}
use Rattle.adm_host.specs.declared.exit.Exit.TheVariants as exit
use Rattle.adm_host.specs.declared.fault.Fault.{Fault}
use Rattle.adm_host.specs.declared.fault.Fault.TheVariants.{Memory, Read, Write}

-- the program's error for an error of a run of lines, by the same name
abbrev pub of_run : RunFault → Fault
of_run run.Read = Read
of_run run.Write = Write
of_run run.Memory = Memory

-- 4 before 3: some answer was Failed; some line was refused, invalid or ran out of memory; or all were done
abbrev pub exit_of : Run → Exit
exit_of r = if r.failed then exit.Failed else (if nat_lt 0 r.refused then exit.Refused else exit.Done)

-- what is reported of a run of lines
abbrev pub of_lines : Result Run RunFault → Result Exit Fault
of_lines (Ok run) = Ok (exit_of run)
of_lines (Err fault) = Err (of_run fault)

-- the same of one answer
abbrev pub exit_of_answer : Answer → Exit
exit_of_answer (answer.Done reply) = exit.Done
exit_of_answer (answer.Refused refusal row) = exit.Refused
exit_of_answer answer.Memory = exit.Refused
exit_of_answer answer.Failed = exit.Failed
