-- A run keeps what it acknowledged.
use Rattle.std.proofs.Common.{◌≡◌, ◌∙◌, ℕ, List, [], ◌∷◌, true, false, Result, refl, sym, ap, subst}
use Rattle.sqlite.specs.State.{State as Disk}
use Rattle.std.proofs.lemmas.Bool.{true≢false}
use Rattle.adm_types.specs.declared.commands.Command.{Command}
use Rattle.adm_wire.specs.declared.fault.WireFault.{WireFault}
use Rattle.adm_wire.specs.declared.fault.WireFault.TheVariants as fault
use Rattle.adm_register.specs.State.{State as Register}
use Rattle.adm_rows.specs.Represents.{LeavesOnly}
use Rattle.adm_desk.specs.declared.answer.Answer.{Answer}
use Rattle.adm_desk.specs.declared.answer.Answer.TheVariants.{Done, Refused, Memory, Failed}
use Rattle.adm_desk.specs.declared.answer.LineAnswer.{LineAnswer}
use Rattle.adm_desk.specs.declared.answer.LineAnswer.TheVariants.{Handled, Faulty, Queried}
use Rattle.adm_desk.specs.Lines.{AnswersLine, AnswersLines}
use Rattle.adm_desk.specs.DeskState.{DeskState, Handles, InFlight, WasClean}
use Rattle.adm_commands.specs.Imports.{Reaches}
use Rattle.adm_desk.specs.Acknowledged.{KeepsAcknowledged, acknowledged, handled, with_command}

-- ---- a run over commands with their answers

abbrev pub RunsOver : {D : Type 0} → (D → Command → Answer → D → Type 0) → D → List (Command × Answer) → D → Type 0
RunsOver step old [] new = new ≡ old
RunsOver {D} step old ((command, answer) ∷ more) new = (mid : D) × step old command answer mid × RunsOver step mid more new

from_same : {D : Type 0} (step : D → Command → Answer → D → Type 0) (old mid new : D) (more : List (Command × Answer)) → mid ≡ old → RunsOver step mid more new → RunsOver step old more new
from_same {D} step old mid new more same run = let P : D → Type 0 = λ h. RunsOver step h more new in subst P same run

over_lines : {D : Type 0} (step : D → Command → Answer → D → Type 0) (old new : D) (lines : List (List ℕ)) (answers : List LineAnswer)
    → AnswersLines (AnswersLine step) old lines answers new → RunsOver step old (handled lines answers) new
over_lines step old new [] [] run = run
over_lines step old new [] (a ∷ answers) run = absurd run
over_lines step old new (l ∷ lines) [] run = absurd run
over_lines step old new (l ∷ lines) (Faulty f ∷ answers) run = from_same step old run.0 new (handled lines answers) (unchanged step old run.0 l f run.1) (over_lines step run.0 new lines answers run.2)
  where
    unchanged : {D : Type 0} (step : D → Command → Answer → D → Type 0) (old mid : D) (line : List ℕ) (f : WireFault) → AnswersLine step old line (Faulty f) mid → mid ≡ old
    unchanged step old mid line fault.Memory by = by
    unchanged step old mid line fault.NotJson by = by.1
    unchanged step old mid line fault.UnknownCommand by = by.1
    unchanged step old mid line fault.MissingField by = by.1
    unchanged step old mid line fault.WrongKind by = by.1
    unchanged step old mid line fault.ExtraField by = by.1
over_lines step old new (l ∷ lines) (Queried t ∷ answers) run = absurd run.1
over_lines {D} step old new (l ∷ lines) (Handled a ∷ answers) run =
    let by = run.1 in
    let P : Result Command WireFault → Type 0 = λ read. RunsOver step old (with_command read a (handled lines answers)) new in
    subst P (sym by.1) (run.0, by.2, over_lines step run.0 new lines answers run.2)

-- ---- what it keeps

module _ {C : Type 0} (disk : C → Disk) where
  -- no command, and so no run, forgets a wrong answer of the disk
  handled_clean : (old new : DeskState C) (command : Command) (answer : Answer) → Handles disk old command answer new → WasClean (disk old.conn) (disk new.conn)
  handled_clean old new command (Done reply) it = it.4
  handled_clean old new command (Refused refusal row) it = subst (λ (s : DeskState C). WasClean (disk old.conn) (disk s.conn)) (sym it.2) (λ clean. clean)
  handled_clean old new command Memory it = subst (λ (s : DeskState C). WasClean (disk old.conn) (disk s.conn)) (sym it.1) (λ clean. clean)
  handled_clean old new command Failed it = it.4

  pub was_clean : (old new : DeskState C) (answered : List (Command × Answer)) → RunsOver (Handles disk) old answered new → WasClean (disk old.conn) (disk new.conn)
  was_clean old new [] run = subst (λ (s : DeskState C). WasClean (disk old.conn) (disk s.conn)) (sym run) (λ clean. clean)
  was_clean old new ((c, a) ∷ more) run = λ clean. handled_clean old run.0 c a run.1 (was_clean run.0 new more run.2 clean)

  pub lines_clean : (old new : DeskState C) (lines : List (List ℕ)) (answers : List LineAnswer) → AnswersLines (AnswersLine (Handles disk)) old lines answers new
      → WasClean (disk old.conn) (disk new.conn)
  lines_clean old new lines answers run = was_clean old new (handled lines answers) (over_lines (Handles disk) old new lines answers run)

  -- after a Failed nothing changes, and nothing is acknowledged
  pub all_failed : (old new : DeskState C) (answered : List (Command × Answer)) → old.failed ≡ true → RunsOver (Handles disk) old answered new → (new ≡ old) × (acknowledged answered ≡ [])
  all_failed old new [] dead run = (run, refl)
  all_failed old new ((c, Done reply) ∷ more) dead run = absurd (true≢false (sym dead ∙ run.1.0))
  all_failed old new ((c, Refused refusal row) ∷ more) dead run = absurd (true≢false (sym dead ∙ run.1.0))
  all_failed old new ((c, Memory) ∷ more) dead run = absurd (true≢false (sym dead ∙ run.1.0))
  all_failed old new ((c, Failed) ∷ more) dead run =
      let same = run.1.2 dead in
      let rest = all_failed run.0 new more run.1.0 run.2 in
      (rest.0 ∙ same, rest.1)

  at_same : (old new : DeskState C) → new ≡ old → old.failed ≡ false → LeavesOnly old.register (disk old.conn) → KeepsAcknowledged disk old new []
  at_same old new same alive leaves = record {
    run = ap (λ (s : DeskState C). s.register) same;
    failed = ap (λ (s : DeskState C). s.failed) same ∙ alive;
    leaves = subst (λ (s : DeskState C). LeavesOnly s.register (disk s.conn)) (sym same) leaves;
  }

  after_work : (old mid new : DeskState C) (c : Command) (more : List (Command × Answer)) → Handles disk old c Failed mid → old.failed ≡ false → RunsOver (Handles disk) mid more new → KeepsAcknowledged disk old new ((c, Failed) ∷ more)
  after_work old mid new c more by alive run =
      let rest = all_failed mid new more by.0 run in
      let register : new.register ≡ old.register = ap (λ (s : DeskState C). s.register) rest.0 ∙ by.1 in
      let at_mid : InFlight mid.register c (disk mid.conn) = subst (λ (r : Register). InFlight r c (disk mid.conn)) (sym by.1) (by.3 alive) in
      record {
        run = subst (λ cs. Reaches old.register cs new.register) (sym rest.1) register;
        failed = ap (λ (s : DeskState C). s.failed) rest.0 ∙ by.0;
        leaves = subst (λ (s : DeskState C). InFlight s.register c (disk s.conn)) (sym rest.0) at_mid;
      }

  pub keeps : (old new : DeskState C) (answered : List (Command × Answer)) → old.failed ≡ false → LeavesOnly old.register (disk old.conn) → RunsOver (Handles disk) old answered new → KeepsAcknowledged disk old new answered
  keeps old new [] alive leaves run = at_same old new run alive leaves
  keeps old new ((c, Done reply) ∷ more) alive leaves run =
      let by = run.1 in
      let rest = keeps run.0 new more by.2 by.3 run.2 in
      record { run = (run.0.register, (reply, by.1), rest.run); failed = rest.failed; leaves = rest.leaves }
  keeps old new ((c, Refused refusal row) ∷ more) alive leaves run =
      let rest = keeps old new more alive leaves (from_same (Handles disk) old run.0 new more run.1.2 run.2) in
      record { run = rest.run; failed = rest.failed; leaves = rest.leaves }
  keeps old new ((c, Memory) ∷ more) alive leaves run =
      let rest = keeps old new more alive leaves (from_same (Handles disk) old run.0 new more run.1.1 run.2) in
      record { run = rest.run; failed = rest.failed; leaves = rest.leaves }
  keeps old new ((c, Failed) ∷ more) alive leaves run = after_work old run.0 new c more run.1 alive run.2

  pub keeps_lines : (old new : DeskState C) (lines : List (List ℕ)) (answers : List LineAnswer) → old.failed ≡ false → LeavesOnly old.register (disk old.conn)
      → AnswersLines (AnswersLine (Handles disk)) old lines answers new → KeepsAcknowledged disk old new (handled lines answers)
  keeps_lines old new lines answers alive leaves run = keeps old new (handled lines answers) alive leaves (over_lines (Handles disk) old new lines answers run)
