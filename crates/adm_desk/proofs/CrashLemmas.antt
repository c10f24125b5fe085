-- What an open over two disks of a register finds, and what a crash leaves of them.
use Rattle.std.proofs.Common.{◌≡◌, IsTrue, Option, Some, None, inl, inr, refl, sym, subst}
use Rattle.std.proofs.Math.Logic.{∥∥₁_elim, ∥∥₁_map}
use base.Stored.{Coded-set}
use Rattle.sqlite_disk.specs.declared.Disk.{Ghosts}
use Rattle.sqlite_wal.proofs.LogLemmas.{SeenMayStay}
use Rattle.sqlite_store.specs.declared.store.FileStore.{FileStore}
use Rattle.sqlite_store.specs.FileStore.{view, recovers}
use Rattle.sqlite_store.specs.Laws.{settled_at, stays_at, survives_at}
use Rattle.sqlite.specs.Files.{file_state}
use Rattle.sqlite.specs.Held.{Held}
use Rattle.sqlite.specs.State.{State as Disk, HasCleanDisk, Survives}
use Rattle.sqlite.specs.Tree.{Trees}
use Rattle.adm_types.specs.declared.commands.Command.{Command}
use Rattle.adm_register.specs.State.{State as Register}
use Rattle.adm_register.specs.CodedState.{coded_state}
use Rattle.adm_rows.specs.Represents.{RepresentsNow, Represents, OneRegister, LeavesOnly, LeavesNone}
use Rattle.adm_store.specs.Migration.{IsMigrated}
use Rattle.adm_store.proofs.MigrationLemmas.{not_migrated, represents_register}
use Rattle.adm_desk.specs.Acknowledged.{FindsAgain, LeavesAcknowledged}
use Rattle.adm_desk.proofs.OpenLemmas.{each_represents, finds_it, holds_none}

-- each thing that a crash may leave represents the register of the acknowledged commands, or also one that the command in flight leaves
pub each_again : (r : Register) (work : Option Command) (s : Disk) → LeavesAcknowledged r work s → HasCleanDisk s → (db : Trees) → s.may_leave db
    → (found : Register) × FindsAgain r work found × RepresentsNow db found
each_again r None s leaves clean db may = (r, refl, leaves clean db may)
each_again r (Some command) s work clean db may = elim (work.leaves clean db may) [ inl old ↦ (r, inl refl, old) | inr new ↦ (work.next, inr work.accepted, new) ]

-- ---- the open of the register

module _ {D : Type 0} {g : Ghosts D} (seen : SeenMayStay g) (one : OneRegister) (r : Register) (c : Held (FileStore D g)) (is_open : IsTrue (view c.store).is_open)
    (stands : ∥ Represents (file_state c).committed.trees r ∥₁) (after : Held (FileStore D g)) (kept : Survives (file_state c) (file_state after) (IsMigrated (file_state c)))
    (clean : HasCleanDisk (file_state after)) where
  only : (db : Trees) → recovers c.store db → db ≡ (file_state c).committed.trees
  only db may = settled_at c.store seen db is_open may

  pub opens_one : (found : Register) → LeavesOnly found (file_state after) → found ≡ r
  opens_one found leaves = ∥∥₁_elim stands (Coded-set coded_state found r) (λ was.
      finds_it one (file_state c) (file_state after) kept clean only (stays_at c.store seen is_open) (survives_at after.store seen clean) found leaves r was)

  pub is_not_none : LeavesNone (file_state after) → ⊥
  is_not_none none = ∥∥₁_elim stands (λ x y. absurd x) (λ was.
      holds_none one (file_state c) (file_state after) kept clean only (stays_at c.store seen is_open) (survives_at after.store seen clean) none r was)

  pub still_represents : (last : FileStore D g) → ((db : Trees) → recovers last db → recovers after.store db) → (db : Trees) → recovers last db → ∥ Represents db r ∥₁
  still_represents last fewer = λ db may. ∥∥₁_map stands (λ was.
      each_represents one (file_state c) (file_state after) kept clean only (stays_at c.store seen is_open) (survives_at after.store seen clean) r was db (fewer db may))

-- ---- for the law of two runs of the program

-- a file of the second version is not migrated, so each thing that remains represents the same register
module _ (before after : Disk) (r : Register) (kept : Survives before after (IsMigrated before)) (clean : HasCleanDisk after) where
  each_stands : ((db : Trees) → before.may_leave db → db ≡ before.committed.trees) → before.may_leave before.committed.trees → RepresentsNow before.committed.trees r
      → (db : Trees) → after.may_leave db → RepresentsNow db r
  each_stands settled stays stands db may = elim (kept.crash clean db may) [
    | inl was ↦ subst (λ (t : Trees). RepresentsNow t r) (sym (settled db was)) stands
    | inr it ↦ absurd (not_migrated before db before.committed.trees r it stays stands)
  ]

module _ {D : Type 0} {g : Ghosts D} (seen : SeenMayStay g) (r : Register) (c : Held (FileStore D g)) (is_open : IsTrue (view c.store).is_open)
    (stands : ∥ RepresentsNow (file_state c).committed.trees r ∥₁) (after : Held (FileStore D g)) (kept : Survives (file_state c) (file_state after) (IsMigrated (file_state c)))
    (clean : HasCleanDisk (file_state after)) where
  each : RepresentsNow (file_state c).committed.trees r → (db : Trees) → recovers after.store db → RepresentsNow db r
  each now = each_stands (file_state c) (file_state after) r kept clean (λ db may. settled_at c.store seen db is_open may) (stays_at c.store seen is_open) now

  some : ∥ ((db : Trees) × recovers after.store db) ∥₁
  some = survives_at after.store seen clean

  pub opens_it : OneRegister → (found : Register) → LeavesOnly found (file_state after) → found ≡ r
  opens_it one found leaves = ∥∥₁_elim stands (Coded-set coded_state found r) (λ now. ∥∥₁_elim some (Coded-set coded_state found r)
      (λ it. one it.0 found r (represents_register _ _ (leaves clean it.0 it.1)) (represents_register _ _ (each now it.0 it.1))))

  pub never_none : LeavesNone (file_state after) → ⊥
  never_none none = ∥∥₁_elim stands (λ x y. absurd x) (λ now. ∥∥₁_elim some (λ x y. absurd x) (λ it. none clean it.0 it.1 r (represents_register _ _ (each now it.0 it.1))))
