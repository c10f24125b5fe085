-- What an open of a register finds over the databases that a start found.
use Rattle.std.proofs.Common.{◌≡◌, inl, inr, sym, subst}
use Rattle.std.proofs.Math.Logic.{∥∥₁_elim}
use base.Stored.{Coded-set}
use Rattle.sqlite.specs.State.{State as Disk, HasCleanDisk, Survives}
use Rattle.sqlite.specs.Tree.{Trees}
use Rattle.adm_register.specs.State.{State as Register}
use Rattle.adm_register.specs.CodedState.{coded_state}
use Rattle.adm_rows.specs.Represents.{RepresentsNow, Represents, OneRegister, RepresentsNone, LeavesOnly, LeavesNone}
use Rattle.adm_store.specs.Migration.{IsMigrated}
use Rattle.adm_store.proofs.MigrationLemmas.{represents_register}

-- a start left one database, and the open leaves that one, or the same register in the second version
module _ (one : OneRegister) (started opened : Disk) (kept : Survives started opened (IsMigrated started)) (clean : HasCleanDisk opened)
    (only : (db : Trees) → started.may_leave db → db ≡ started.committed.trees) (stays : started.may_leave started.committed.trees) (some : ∥ ((db : Trees) × opened.may_leave db) ∥₁) where
  pub each_represents : (r : Register) → Represents started.committed.trees r → (db : Trees) → opened.may_leave db → Represents db r
  each_represents r was db may = elim (kept.crash clean db may) [
    | inl same ↦ subst (λ (t : Trees). Represents t r) (sym (only db same)) was
    | inr it ↦
        let first : Represents started.committed.trees it.register = record { version = _; stands = it.was started.committed.trees stays } in
        represents_register db r (subst (λ (x : Register). RepresentsNow db x) (one started.committed.trees it.register r first was) it.is)
  ]

  pub finds_it : (found : Register) → LeavesOnly found opened → (r : Register) → Represents started.committed.trees r → found ≡ r
  finds_it found leaves r was = ∥∥₁_elim some (Coded-set coded_state found r) (λ it.
      one it.0 found r (represents_register it.0 found (leaves clean it.0 it.1)) (each_represents r was it.0 it.1))

  pub holds_none : LeavesNone opened → RepresentsNone started.committed.trees
  holds_none none r was = ∥∥₁_elim some (λ x y. absurd x) (λ it. none clean it.0 it.1 r (each_represents r was it.0 it.1))
