-- Why it is reported that the store failed.
use Rattle.std.proofs.Common.{◌≡◌, ◌∙◌, refl, ℕ, List, [], Option, Some, None, ap, inl, inr, ◌⊎◌, arith, IsTrue, true, false, sym}
use Rattle.std.specs.Prelude.{IsSome, IfSome, is_some}
use Rattle.sqlite_disk.specs.Disk.{MoreFaults}
use Rattle.sqlite_trees.specs.declared.error.StoreError.{StoreError}
use Rattle.sqlite_trees.specs.declared.error.StoreError.TheVariants as stored
use Rattle.sqlite.specs.declared.error.ErrorCode.TheVariants.{OutOfMemory}
use Rattle.sqlite.specs.declared.error.Error.{Error}
use Rattle.sqlite.specs.declared.error.Error.TheVariants.{SqliteFailure, SqlInputError}
use Rattle.sqlite.specs.Effect.{Database, RefusesToRead}
use Rattle.sqlite.specs.Clock.{timed}
use Rattle.sqlite.specs.Listing.{reads_listing, IsSourceOf}
use Rattle.sqlite_schema.specs.declared.command.Returning.{Returning}
use Rattle.sqlite_resolve.specs.declared.error.CompileError.{CompileError}
use Rattle.sqlite.specs.State.{State, HasCleanDisk, Survives, Fails, HasCause, FailsToQuery, FailsToShow, IsNotRun, IsTooLate, store_error}
use Rattle.adm_register.specs.declared.rows_fault.RowsFault.{RowsFault}
use Rattle.adm_register.specs.declared.rows_fault.RowsFault.TheVariants as rows
use Rattle.adm_rows.specs.declared.fault.OpenFault.TheVariants.{BadRow, Disk}
use Rattle.adm_rows.specs.Faults.{IsNoRegister, of_rows}
use Rattle.adm_rows.specs.Causes.{DiskFailedIn, DiskFailed, DiskFailedOr, HasDiskCause, IsUnanswered}
use Rattle.adm_rows.specs.Reads.{SeesTheSameIn, SeesTheSame}
use Rattle.adm_schema.specs.declared.version.Version.{Version}
use Rattle.adm_schema.specs.Schema.{schema_of}
use Rattle.adm_schema.specs.Texts.{select_meta}

-- where the connection was open, and nothing was too big, a failure for another cause than memory is one of the disk
pub disk_cause : (old new : State) (e : Error) → IsTrue old.is_open → (e ≡ SqliteFailure OutOfMemory → ⊥) → Fails old new ⊥ e → MoreFaults old.faults new.faults
disk_cause old new e live other fails = go fails.0 fails.1 fails.2
  where
    go : (cause : StoreError) → e ≡ store_error cause → HasCause old new ⊥ cause → MoreFaults old.faults new.faults
    go stored.OutOfMemory is h = absurd (other is)
    go stored.Io is h = h
    go stored.Corrupt is h = h
    go stored.Full is h = h
    go stored.Broken is h = absurd (let wrong : true ≡ false = sym live ∙ h in cc)
    go stored.Unstorable is h = absurd h

-- a query that fails for another cause than memory and its text
pub disk_or_unanswered : (sql : List ℕ) (old new : State) (e : Error) → IsTrue old.is_open → (e ≡ SqliteFailure OutOfMemory → ⊥)
    → ((why : CompileError) → e ≡ SqlInputError why → ⊥) → FailsToQuery sql [] old new e ⊎ IsTooLate sql [] old new e
    → MoreFaults old.faults new.faults ⊎ IsUnanswered sql old
unfolding FailsToQuery IsNotRun
disk_or_unanswered sql old new e live memory text (inl (inl (inl h))) = inr (e, text, inl h.0)
disk_or_unanswered sql old new e live memory text (inl (inl (inr h))) = inl (disk_cause old new e live memory h)
disk_or_unanswered sql old new e live memory text (inl (inr h)) = inr (e, text, inr (h.0, h.1.is, go h.0.returning refl h.2))
  where
    go : (what : Option Returning) → h.0.returning ≡ what → FailsToShow old new sql h.0 (timed [] h.0.formats h.1.now) e what
        → IsSome h.0.returning ⊎ ((db : Database) × (now : ℕ) × IsSourceOf (reads_listing old.now.schema sql) old.now db × RefusesToRead old.step_limit h.0.command db (timed [] h.0.formats now) e)
    go None is it = inr (it.0, h.1.now, it.1, it.2)
    go (Some what) is it = inl (ap is_some is)
disk_or_unanswered sql old new e live memory text (inr h) = inr (e, text, inr (h.0, h.1.is, inl h.2))

-- under a register's tables, and under others
pub cause_of_season : (old new : State) (version : Option Version) → IfSome version (λ v. old.now.schema ≡ schema_of v)
    → (version ≡ None → (v : Version) → old.now.schema ≡ schema_of v → ⊥) → DiskFailed old new → DiskFailedOr select_meta old new → HasDiskCause old new
cause_of_season old new (Some v) has none here there clean live unlimited = inl (here v clean live unlimited has)
cause_of_season old new None has none here there clean live unlimited = elim (there clean live) [
  | inl more ↦ inl more
  | inr unanswered ↦ inr (none refl, unanswered)
]

pub cause_here : (v : Version) (old new : State) → DiskFailedIn v old new → old.now.schema ≡ schema_of v → HasDiskCause old new
cause_here v old new failed has clean live unlimited = inl (failed clean live unlimited has)

module _ (old mid new : State) where
  -- no error is forgotten
  pub cause_before : Survives mid new (λ _. ⊥) → HasDiskCause old mid → HasDiskCause old new
  cause_before later cause clean live unlimited =
      let early : HasCleanDisk mid = omega (arith, later.clean, clean) in
      elim (cause early live unlimited) [ inl more ↦ inl (omega (arith, more, later.counts)) | inr other ↦ inr other ]

  pub failed_in : (v : Version) → Survives old mid (λ _. ⊥) → Survives mid new (λ _. ⊥) → SeesTheSameIn v old mid → DiskFailedIn v mid new → DiskFailedIn v old new
  failed_in v first later same failed clean live unlimited has =
      let early : HasCleanDisk mid = omega (arith, later.clean, clean) in
      elim (first.closes early live) [
        | inl still ↦ omega (arith, failed clean still (first.limit ∙ unlimited) (ap (λ (d : Database). d.schema) (same early has) ∙ has), first.counts)
        | inr more ↦ omega (arith, more, later.counts)
      ]

  pub failed_after : Survives old mid (λ _. ⊥) → Survives mid new (λ _. ⊥) → SeesTheSame old mid → DiskFailed mid new → DiskFailed old new
  failed_after first later same failed v = failed_in v first later (same v) (failed v)

-- ---- the error of rows

pub bad_rows : (fault : RowsFault) → IsNoRegister (of_rows fault) → fault ≡ rows.BadRow
bad_rows rows.BadRow structural = refl
bad_rows rows.Memory structural = absurd structural

pub rows_never_disk : (fault : RowsFault) → of_rows fault ≡ Disk → ⊥
rows_never_disk rows.BadRow is = cc
rows_never_disk rows.Memory is = cc

pub only_bad : (fault : RowsFault) → IsNoRegister (of_rows fault) → of_rows fault ≡ BadRow
only_bad fault structural = ap of_rows (bad_rows fault structural)
