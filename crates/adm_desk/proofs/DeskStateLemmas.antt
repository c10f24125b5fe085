-- What a command is answered whose change was kept, or was not.
use Rattle.std.proofs.Common.{◌≡◌, ◌∙◌, false, sym, subst, Ok}
use Rattle.sqlite.specs.State.{State as Disk}
use Rattle.std.proofs.lemmas.Bool.{true≢false}
use Rattle.adm_types.specs.declared.commands.Command.{Command}
use Rattle.adm_types.specs.declared.commands.Reply.{Reply}
use Rattle.adm_register.specs.State.{State as Register}
use Rattle.adm_commands.specs.Steps.{Step}
use Rattle.adm_rows.specs.Represents.{LeavesOnly}
use Rattle.adm_desk.specs.declared.answer.Answer.{Answer}
use Rattle.adm_desk.specs.declared.answer.Answer.TheVariants.{Done, Refused, Memory, Failed}
use Rattle.adm_desk.specs.DeskState.{DeskState, Handles, Keeps, WasClean}

-- an accepted step that was kept, or not, is handled
pub handles : {C : Type 0} (disk : C → Disk) (old new : DeskState C) (command : Command) (next : Register) (reply : Reply) (answer : Answer)
    → old.failed ≡ false → Step old.register command (Ok reply) next → Keeps disk old next reply answer new → WasClean (disk old.conn) (disk new.conn)
    → Handles disk old command answer new
handles disk old new command next reply (Done r) alive step keeps was = (
  alive,
  subst (λ (x : Reply). Step old.register command (Ok x) new.register) (sym keeps.0) (subst (λ (x : Register). Step old.register command (Ok reply) x) (sym keeps.1) step),
  keeps.2,
  subst (λ (x : Register). LeavesOnly x (disk new.conn)) (sym keeps.1) keeps.3,
  was,
)
handles disk old new command next reply (Refused refusal row) alive step keeps was = absurd keeps
handles disk old new command next reply Memory alive step keeps was = (alive, keeps)
handles disk old new command next reply Failed alive step keeps was =
    (keeps.0, keeps.1, λ dead. absurd (true≢false (sym dead ∙ alive)), λ _. record { next = next; accepted = (reply, step); leaves = keeps.2 }, was)
