-- What a run finds over what the one before it may have left.
use Rattle.std.proofs.Common.{◌≤◌, IsTrue, sym, subst, arith, Option}
use Rattle.std.proofs.Math.Logic.{∥∥₁_elim, ∥∥₁_map}
use Rattle.sqlite_disk.specs.declared.Disk.{Ghosts}
use Rattle.sqlite_disk.specs.declared.Files.{Files}
use Rattle.sqlite_wal.specs.Recovery.{Image}
use Rattle.sqlite_wal.specs.Files.{outcomes}
use Rattle.sqlite_wal.proofs.LogLemmas.{SeenMayStay}
use Rattle.sqlite_trees.specs.View.{doubt, IsClean, IsQuiet}
use Rattle.sqlite_store.specs.declared.store.FileStore.{FileStore}
use Rattle.sqlite_store.specs.FileStore.{state, view, faults, recovers, is_shielded}
use Rattle.sqlite_store.specs.Laws.{stays_at}
use Rattle.sqlite.specs.Closing.{IsCopied}
use Rattle.sqlite.specs.Files.{file_state}
use Rattle.sqlite.specs.Held.{Held, AreDatabases}
use Rattle.sqlite.specs.Start.{FindsIn}
use Rattle.sqlite.specs.State.{State, HasCleanDisk}
use Rattle.sqlite.specs.Tree.{Trees}
use Rattle.sqlite.proofs.Theorems.{next_run}
use Rattle.adm_types.specs.declared.commands.Command.{Command}
use Rattle.adm_register.specs.State.{State as Register}
use Rattle.adm_rows.specs.Represents.{RepresentsNow, OneRegister}
use Rattle.adm_desk.specs.Acknowledged.{FindsAgain, LeavesAcknowledged}
use Rattle.adm_desk.proofs.CrashLemmas.{each_again, opens_it, never_none}
use Rattle.adm_program_laws.specs.NextRun.{GoesOn}

-- the trees represent the register of the acknowledged commands, or also one that the command in flight leaves
abbrev pub StandsAgain : Register → Option Command → Trees → Type 0
StandsAgain r work db = (found : Register) × FindsAgain r work found × RepresentsNow db found

clean_before : (old new : State) → doubt old.is_clean ≤ doubt new.is_clean → HasCleanDisk new → HasCleanDisk old
clean_before old new falls clean = omega arith

-- what an open finds over this image represents it so
abbrev pub Finds : Image → Register → Option Command → Type 1
Finds image r work = (s : State) → FindsIn image s → ∥ StandsAgain r work s.committed.trees ∥₁

-- ---- what the run before it leaves

module _ {D : Type 0} {g : Ghosts D} (c : Held (FileStore D g)) (r : Register) (work : Option Command) (leaves : LeavesAcknowledged r work (file_state c)) where
  pub after_stop : (last : FileStore D g) → IsQuiet view faults recovers is_shielded c.store last → (IsClean (view last) → IsTrue (view last).is_numbered) → (IsClean (view last) → AreDatabases (recovers last))
      → IsClean (view last) → (image : Image) → (state last).may_leave image → Finds image r work
  after_stop last quiet numbered sound clean image may = λ s finds.
      ∥∥₁_map (next_run last (numbered clean) (sound clean) image may s finds) (λ it.
      each_again r work (file_state c) leaves (omega (arith, quiet.clean, clean)) s.committed.trees (quiet.outcomes s.committed.trees it))

  pub after_close : SeenMayStay g → (files : Files D) → IsCopied c files → (image : Image) → outcomes g files.log files.db image → Finds image r work
  after_close seen files copied image out = λ s finds.
      ∥∥₁_map (copied.left image out).both (λ it. subst (λ (db : Trees). StandsAgain r work db) (sym (finds.holds (file_state c).committed.trees it))
      (each_again r work (file_state c) leaves copied.was_clean (file_state c).committed.trees (stays_at c.store seen copied.was_open)))

-- ---- what the next run finds

module _ {E : Type 0} {h : Ghosts E} (seen : SeenMayStay h) (one : OneRegister) (image : Image) (r : Register) (work : Option Command) (finds : Finds image r work) where
  pub goes_on : GoesOn h image r work
  goes_on = record {
    opened = λ desk it clean.
        let was = it.is_found (clean_before (file_state it.found) (file_state desk.conn) it.kept.clean clean) in
        ∥∥₁_map (finds (file_state it.found) was.1) (λ again. subst (λ (found : Register). FindsAgain r work found)
        (sym (opens_it {g = h} seen again.0 it.found was.0 ∣ again.2 ∣₁ desk.conn it.kept clean one desk.register it.leaves)) again.1);
    never = λ e closed it clean bad.
        let was = it.is_found (clean_before (file_state it.found) (file_state it.left) it.kept.clean clean) in
        ∥∥₁_elim (finds (file_state it.found) was.1) (λ x y. absurd x) (λ again. never_none {g = h} seen again.0 it.found was.0 ∣ again.2 ∣₁ it.left it.kept clean (it.none bad));
  }
