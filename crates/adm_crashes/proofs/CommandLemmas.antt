-- Commands one after another: what a run of them keeps, and which register it leaves.
use Rattle.std.proofs.Common.{◌≡◌, ◌∙◌, List, [], ◌∷◌, false, Ok, sym, subst, zip}
use Rattle.sqlite.specs.State.{State as Disk}
use Rattle.adm_types.specs.declared.commands.Command.{Command}
use Rattle.adm_register.specs.State.{State as Register}
use Rattle.adm_commands.specs.Imports.{Reaches}
use Rattle.adm_command_laws.specs.Steps.{OneStep}
use Rattle.adm_rows.specs.Represents.{LeavesOnly}
use Rattle.adm_desk.specs.declared.answer.Answer.{Answer}
use Rattle.adm_desk.specs.Acknowledged.{KeepsAcknowledged}
use Rattle.adm_desk.specs.DeskState.{DeskState, Handles}
use Rattle.adm_desk.proofs.AcknowledgedLemmas.{RunsOver, keeps}
use Rattle.adm_crashes.specs.Steps.{IsRun, OneAfter}

pub over_commands : {D : Type 0} (step : D → Command → Answer → D → Type 0) (old new : D) (commands : List Command) (answers : List Answer)
    → IsRun step old commands answers new → RunsOver step old (zip commands answers) new
over_commands step old new [] [] run = run
over_commands step old new [] (a ∷ answers) run = absurd run
over_commands step old new (c ∷ commands) [] run = absurd run
over_commands step old new (c ∷ commands) (a ∷ answers) run = (run.0, run.1, over_commands step run.0 new commands answers run.2)

pub keeps_commands : {C : Type 0} (disk : C → Disk) (old new : DeskState C) (commands : List Command) (answers : List Answer) → old.failed ≡ false → LeavesOnly old.register (disk old.conn)
    → IsRun (Handles disk) old commands answers new → KeepsAcknowledged disk old new (zip commands answers)
keeps_commands disk old new commands answers alive leaves run = keeps disk old new (zip commands answers) alive leaves (over_commands (Handles disk) old new commands answers run)

pub one_after_lem : OneStep → OneAfter
one_after_lem step old a b [] one other = one ∙ sym other
one_after_lem step old a b (c ∷ commands) one other =
    let same = (step old one.0 other.0 c (Ok one.1.0) (Ok other.1.0) one.1.1 other.1.1).1 in
    one_after_lem step one.0 a b commands one.2 (subst (λ (r : Register). Reaches r commands b) (sym same) other.2)
