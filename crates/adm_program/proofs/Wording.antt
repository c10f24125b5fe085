-- How a command line ends, from the clauses of what it calls.
use Rattle.std.proofs.Common.{◌≡◌, ℕ, List, Result, Ok, Err, sym, subst}
use Rattle.std.specs.Prelude.{IfOk, IfErr, IsErrAnd, OnErr, IsTrue}
use Rattle.std.specs.Borrow.{Bor}
use Rattle.sqlite_disk.specs.declared.Disk as disk
use Rattle.sqlite_wal.specs.Recovery.{Image}
use Rattle.adm_words.specs.Lines.{ReadsArguments}
use Rattle.adm_words.specs.declared.actions.Action.{Action}
use Rattle.adm_host.specs.Exits.{has_many_holidays, IsCauseIn, line_outcome, exit_of_result, exit_code, remains_at_end}
use Rattle.adm_host.specs.Found.{LeavesAsFound}
use Rattle.adm_host.specs.Reports.{ReportsOutcome}
use Rattle.adm_program.specs.Does.{Does, TakesByServing, file_of}
use Rattle.adm_program.specs.Arguments.{ActsAround, ActsOrFails, texts}
use Rattle.adm_program.specs.Given.{Around}
use Rattle.adm_program.specs.Served.{AreUntaken, IsUnlogged}
use Rattle.adm_host.specs.declared.connecting.OpenError.{OpenError}
use Rattle.adm_host.specs.declared.ended.LineEnd.{LineEnd}
use Rattle.adm_host.specs.declared.ended.Remains.{Remains}
use Rattle.adm_host.specs.declared.ended.RunEnd.{RunEnd}
use Rattle.adm_host.specs.declared.fault.Fault.TheVariants.{TooManyHolidays}

-- arguments that name an action
pub taken : {D : Type 0} {g : disk.Ghosts D} (held : List ℕ → Image) (arguments : List (Bor (List ℕ))) (a : Action) (around : Around) (r : Result (LineEnd D g) (OpenError D g)) (end : RunEnd D g)
    → ReadsArguments (texts arguments) (Ok a) → IfOk r (λ ended. Does (held (file_of a)) a around.given ended.exit ended.closed) → IfErr r (λ e. IsCauseIn a e.fault)
    → IfErr r (λ e. LeavesAsFound (held (file_of a)) e.remains)
    → (IsTrue (has_many_holidays a) → IsErrAnd r (λ e. e.fault ≡ TooManyHolidays)) → OnErr r ((around.given.input.new ≡ around.given.input.old) × (around.given.output.new ≡ around.given.output.old) × AreUntaken around.given.visits × IsUnlogged around.given.visits) → TakesByServing a around.given.visits
    → end.status ≡ exit_code (exit_of_result (line_outcome r)) → end.remains ≡ remains_at_end r → ReportsOutcome (line_outcome r) around.errors
    → ActsAround g held arguments around end
taken {D} {g} held arguments a around (Ok ended) end reads does cause left many kept took exits rest reported =
    record {
      read = Ok a;
      reads = reads;
      follows = subst (λ (it : Remains D g). ActsOrFails g (held (file_of a)) a around end.status it) (sym rest)
          (record { ended = ended.exit; does = does; taken = took; few = λ (t : IsTrue (has_many_holidays a)). many t; reported = reported; exits = exits });
    }
taken {D} {g} held arguments a around (Err f) end reads does cause left many kept took exits rest reported =
    record {
      read = Ok a;
      reads = reads;
      follows = subst (λ (it : Remains D g). ActsOrFails g (held (file_of a)) a around end.status it) (sym rest)
          (record { cause = f.fault; is_cause = cause; many = λ (t : IsTrue (has_many_holidays a)). many t; unread = kept.0; unwritten = kept.1; untaken = kept.2; unlogged = kept.3; reported = reported; exits = exits; left = left });
    }
