-- What a start over two disks of a register finds, what it leaves where it fails, and what a close leaves.
use Rattle.std.proofs.Common.{Option, inl, inr, sym, subst}
use Rattle.std.proofs.Math.Logic.{∥∥₁_elim, ∥∥₁_map}
use Rattle.sqlite_disk.specs.declared.Disk.{Ghosts}
use Rattle.sqlite_disk.specs.declared.Files.{Files}
use Rattle.sqlite_wal.proofs.LogLemmas.{SeenMayStay}
use Rattle.sqlite_store.specs.declared.store.FileStore.{FileStore}
use Rattle.sqlite_store.specs.Laws.{stays_at}
use Rattle.sqlite.specs.declared.file.Leftover.{Leftover}
use Rattle.sqlite.specs.declared.file.Leftover.TheVariants as left
use Rattle.sqlite.specs.Closing.{IsCopied}
use Rattle.sqlite.specs.Files.{image_of, file_state, Finds, LeavesFiles}
use Rattle.sqlite.specs.Held.{Held}
use Rattle.sqlite.specs.Tree.{Trees}
use Rattle.sqlite.proofs.FileLemmas.{is_something}
use Rattle.adm_types.specs.declared.commands.Command.{Command}
use Rattle.adm_register.specs.State.{State as Register}
use Rattle.adm_rows.specs.Represents.{Represents}
use Rattle.adm_store.proofs.MigrationLemmas.{represents_register}
use Rattle.adm_desk.specs.Acknowledged.{LeavesAcknowledged}
use Rattle.adm_desk.specs.Files.{IsFileOf}
use Rattle.adm_desk.proofs.CrashLemmas.{each_again}
use Rattle.adm_crashes.specs.Crashes.{AreDisksOf, AreDisksAfter, StillRepresents}

-- ---- the start of a store

-- what reads of the disks of a register return is a file of it
pub seen_is : {D : Type 0} (g : Ghosts D) (r : Register) (disks : Files D) → SeenMayStay g → AreDisksOf g r disks.log disks.db → IsFileOf r (image_of g disks)
seen_is g r disks seen are = are (image_of g disks) (seen disks.log, seen disks.db)

module _ {D : Type 0} {g : Ghosts D} (r : Register) (disks : Files D) where
  -- what it finds represents the register
  pub found_stands : IsFileOf r (image_of g disks) → (c : Held (FileStore D g)) → Finds disks c → ∥ Represents (file_state c).committed.trees r ∥₁
  found_stands file c finds = ∥∥₁_map file (λ w. subst (λ (t : Trees). Represents t r) (sym (finds.holds w.0 w.1)) w.2)

  -- and what it leaves where it fails
  pub left_stands : SeenMayStay g → AreDisksOf g r disks.log disks.db → (it : Leftover D g) → LeavesFiles disks it → StillRepresents r it
  left_stands seen are (left.Files now) leaves = λ image may. are image (leaves image may)
  left_stands seen are (left.Unopened now) leaves = λ image may. elim leaves [
    | inl nothing ↦ absurd (∥∥₁_elim (seen_is g r disks seen are) (λ x y. absurd x) (λ w. is_something (image_of g disks) w.0 w.1 nothing.0))
    | inr kept ↦ elim (kept.4 image may).same [ inl was ↦ inl (are image was) | inr stands ↦ inr (image_of g disks, seen_is g r disks seen are, stands) ]
  ]
  left_stands seen are (left.Store now) leaves = λ db may. ∥∥₁_map (seen_is g r disks seen are) (λ w. subst (λ (t : Trees). Represents t r) (sym ((leaves db may).1 w.0 w.1)) w.2)

-- ---- the close of the files

module _ {D : Type 0} {g : Ghosts D} (seen : SeenMayStay g) (r : Register) (work : Option Command) (c : Held (FileStore D g)) (leaves : LeavesAcknowledged r work (file_state c)) where
  -- the files that were closed are those of the register, or of one that the command in flight leaves
  pub closed_files : (files : Files D) → IsCopied c files → AreDisksAfter g r work files.log files.db
  closed_files files copied =
      let again = each_again r work (file_state c) leaves copied.was_clean (file_state c).committed.trees (stays_at c.store seen copied.was_open) in
      (again.0, again.1, λ image out. ∥∥₁_map (copied.left image out).both (λ holds. ((file_state c).committed.trees, holds, represents_register _ _ again.2)))
