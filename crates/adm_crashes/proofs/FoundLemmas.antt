-- What is found after a run of commands and a crash.
use Rattle.std.proofs.Common.{IsTrue, inl, inr, sym, subst, Option, Some, None, List, Result, Ok, Err, IfOk, arith}
use Rattle.std.specs.Prelude.{IfErr}
use Rattle.std.proofs.Math.Logic.{∥∥₁_map}
use Rattle.sqlite_disk.specs.declared.Disk.{Ghosts}
use Rattle.sqlite_store.specs.declared.store.FileStore.{FileStore}
use Rattle.sqlite_store.specs.FileStore.{view, faults, recovers, is_shielded}
use Rattle.sqlite_trees.specs.View.{IsClean, IsQuiet}
use Rattle.sqlite.specs.Files.{file_state}
use Rattle.sqlite.specs.Held.{Held, AreDatabases}
use Rattle.sqlite.specs.State.{State as Disk, HasCleanDisk}
use Rattle.sqlite.specs.Tree.{Trees}
use Rattle.sqlite.proofs.Theorems.{opens_again}
use Rattle.adm_types.specs.declared.commands.Command.{Command}
use Rattle.adm_register.specs.State.{State as Register}
use Rattle.adm_commands.specs.History.{DrawsInOrder, DrawsStay}
use Rattle.adm_command_laws.specs.History.{DrawsKept, RoundIsRecorded}
use Rattle.adm_commands.specs.Imports.{Reaches}
use Rattle.adm_rows.specs.Faults.{IsNoRegister}
use Rattle.adm_rows.specs.Represents.{Represents}
use Rattle.adm_rows.specs.declared.fault.OpenFault.{OpenFault}
use Rattle.adm_store.proofs.MigrationLemmas.{represents_register}
use Rattle.adm_desk.specs.declared.answer.Answer.{Answer}
use Rattle.adm_desk.specs.Acknowledged.{acknowledged, in_flight, FindsAgain, LeavesAcknowledged, KeepsAcknowledged}
use Rattle.adm_crashes.specs.Crashes.{IsFoundAfter, KeepsEachDatabase, KeepsEveryImage, IsRestartOf, IsCleanStart}
use Rattle.adm_desk.specs.DeskState.{DeskState}
use Rattle.adm_desk.proofs.CrashLemmas.{each_again}
use Rattle.adm_crashes.specs.Restart.{FindsOne, FindsNone, LeavesSame}
use Rattle.adm_crashes.specs.Rounds.{RoundsAreRecorded, RoundsStay}
use Rattle.adm_crashes.proofs.RoundLemmas.{stay, found_rounds, held_or_not}

-- ---- draws and rounds of the register that is found

draws_stay : DrawsKept → (r kept found : Register) (commands : List Command) (work : Option Command) → DrawsInOrder r → Reaches r commands kept → FindsAgain kept work found → DrawsStay r found
draws_stay law r kept found commands None ordered run finds = subst (DrawsStay r) (sym finds) (stay law commands r kept ordered run).1
draws_stay law r kept found commands (Some command) ordered run finds =
    let first = stay law commands r kept ordered run in
    elim finds [
      | inl same ↦ subst (DrawsStay r) (sym same) first.1
      | inr step ↦ λ number draw there. (law kept found command first.0 step).1 number draw (first.1 number draw there)
    ]

module _ (law : DrawsKept) (recorded : RoundsAreRecorded) (more : RoundsStay) (held : RoundIsRecorded) (r kept : Register) (answered : List (Command × Answer)) (ordered : DrawsInOrder r)
    (reached : Reaches r (acknowledged answered) kept) (s : Disk) (leaves : LeavesAcknowledged kept (in_flight answered) s) where
  is_found_after : (found : Register) → FindsAgain kept (in_flight answered) found → IsFoundAfter r answered found
  is_found_after found again = record {
    kept = kept;
    reached = reached;
    again = again;
    rounds = found_rounds recorded more r kept found (acknowledged answered) (in_flight answered) ordered reached again;
    round = held_or_not held kept found (in_flight answered) s (recorded r kept (acknowledged answered) ordered reached).1 leaves again;
    draws = draws_stay law r kept found (acknowledged answered) (in_flight answered) ordered reached again;
  }

  pub each_after : HasCleanDisk s → (db : Trees) → s.may_leave db → (found : Register) × Represents db found × IsFoundAfter r answered found
  each_after clean db may =
      let it = each_again kept (in_flight answered) s leaves clean db may in
      (it.0, represents_register db it.0 it.2, is_found_after it.0 it.1)

-- ---- the run

module _ {D : Type 0} {g : Ghosts D} (law : DrawsKept) (recorded : RoundsAreRecorded) (more : RoundsStay) (held : RoundIsRecorded) (answered : List (Command × Answer))
    (desk last : DeskState (Held (FileStore D g))) (store : FileStore D g) (ordered : DrawsInOrder desk.register) (keeps : KeepsAcknowledged file_state desk last answered)
    (quiet : IsQuiet view faults recovers is_shielded last.conn.store store) (clean : IsClean (view store)) where
  pub each_database : KeepsEachDatabase desk.register answered (recovers store)
  each_database db may =
      each_after law recorded more held desk.register last.register answered ordered keeps.run (file_state last.conn) keeps.leaves (omega (arith, quiet.clean, clean)) db
      (quiet.outcomes db may)

  pub every_image : IsTrue (view store).is_numbered → AreDatabases (recovers store) → KeepsEveryImage desk.register answered store
  every_image numbered sound image may = ∥∥₁_map (opens_again store numbered sound image may) (λ w.
      let it = each_database w.0 w.1 in (it.0, ∣ (w.0, w.2, it.1) ∣₁, it.2))

-- ---- the start after the crash

module _ (r : Register) (answered : List (Command × Answer)) (left : Trees → Type 0) (keeps : KeepsEachDatabase r answered left) where
  restarted : (found : Register) → FindsOne left found → IsFoundAfter r answered found
  restarted found one = let it = keeps one.0 one.1 in subst (IsFoundAfter r answered) (sym (one.2 it.0 it.1)) it.2

  never_without : FindsNone left → ⊥
  never_without none = let it = keeps none.0 none.1 in none.2 it.0 it.1

  kept_same : (after : Trees → Type 0) → LeavesSame left after → KeepsEachDatabase r answered after
  kept_same after same db may = let was = same db may in let it = keeps was.0 was.1 in (it.0, was.2 it.0 it.1, it.2)

module _ {D : Type 0} {g : Ghosts D} (r : Register) (answered : List (Command × Answer)) (store : FileStore D g) (databases : IsClean (view store) → KeepsEachDatabase r answered (recovers store)) where
  pub restarts : (opened : Result (DeskState (Held (FileStore D g))) (OpenFault × FileStore D g))
      → IfOk opened (λ desk. HasCleanDisk (file_state desk.conn) → IsClean (view store) × FindsOne (recovers store) desk.register)
      → IfErr opened (λ e. IsClean (view e.1) → IsClean (view store) × LeavesSame (recovers store) (recovers e.1))
      → IfErr opened (λ e. IsClean (view e.1) → IsNoRegister e.0 → FindsNone (recovers store)) → IsRestartOf r answered opened
  restarts (Ok desk) finds left never = λ clean.
      let it = finds clean in
      restarted r answered (recovers store) (databases it.0) desk.register it.1
  restarts (Err (fault, last)) finds left never = λ clean.
      let it = left clean in (
        λ bad. never_without r answered (recovers store) (databases it.0) (never clean bad),
        kept_same r answered (recovers store) (databases it.0) (recovers last) it.1,
      )

-- where the disk is clean after the start, it was so at the crash
pub was_clean : {D : Type 0} {g : Ghosts D} (store : FileStore D g) (opened : Result (DeskState (Held (FileStore D g))) (OpenFault × FileStore D g))
    → IfOk opened (λ desk. HasCleanDisk (file_state desk.conn) → IsClean (view store) × FindsOne (recovers store) desk.register)
    → IfErr opened (λ e. IsClean (view e.1) → IsClean (view store) × LeavesSame (recovers store) (recovers e.1)) → IsCleanStart opened → IsClean (view store)
was_clean store (Ok desk) finds left clean = (finds clean).0
was_clean store (Err (fault, last)) finds left clean = (left clean).0
