-- When it may be reported that the store failed.
use Rattle.std.specs.Prelude.{◌≡◌, ◌≢◌, ◌⊎◌, List, [], ℕ, None, Ok, IsSome, IsTrue}
use Rattle.sqlite.specs.Clock.{timed}
use Rattle.sqlite.specs.Effect.{Database, RefusesToRead}
use Rattle.sqlite.specs.Listing.{understood, reads_listing, IsSourceOf}
use Rattle.sqlite.specs.State.{State, HasCleanDisk, IsNoStatement}
use Rattle.sqlite.specs.declared.error.Error.{Error}
use Rattle.sqlite.specs.declared.error.Error.TheVariants.{SqlInputError}
use Rattle.sqlite_disk.specs.Disk.{MoreFaults}
use Rattle.sqlite_resolve.specs.declared.compiled.Compiled.{Compiled}
use Rattle.sqlite_resolve.specs.declared.error.CompileError.{CompileError}
use Rattle.adm_schema.specs.declared.version.Version.{Version}
use Rattle.adm_schema.specs.Schema.{schema_of}
use Rattle.adm_schema.specs.Texts.{select_meta}

-- `sqlite` understands the text and does not answer it, as where it reads a view whose sum overflows
abbrev pub IsUnanswered : List ℕ → State → Type 0
IsUnanswered sql s =
    (e : Error) × ((why : CompileError) → e ≡ SqlInputError why → ⊥)
    × (IsNoStatement s sql [] e ⊎ ((c : Compiled) × (understood s.now.schema sql ≡ Ok c) × (IsSome c.returning
    ⊎ ((db : Database) × (now : ℕ) × IsSourceOf (reads_listing s.now.schema sql) s.now db × RefusesToRead s.step_limit c.command db (timed [] c.formats now) e))))

-- on a clean disk, over a connection that was open, this holds
abbrev pub OnCleanDisk : State → State → Type 0 → Type 0
OnCleanDisk old new P = HasCleanDisk new → IsTrue old.is_open → P

-- the disk failed or refused since
abbrev pub FailedSince : State → State → Type 0
FailedSince old new = MoreFaults old.faults new.faults

-- the tables are those of no version
abbrev pub HasOtherTables : State → Type 0
HasOtherTables s = (v : Version) → s.now.schema ≢ schema_of v

-- where no limit was set on the steps of a query and the tables are those of this version, the disk failed or refused since
abbrev pub DiskFailedIn : Version → State → State → Type 0
DiskFailedIn v old new = OnCleanDisk old new (old.step_limit ≡ None → old.now.schema ≡ schema_of v → FailedSince old new)

-- the same of each version
abbrev pub DiskFailed : State → State → Type 0
DiskFailed old new = (v : Version) → DiskFailedIn v old new

-- the disk failed or refused since, or the text is not answered
abbrev pub DiskFailedOr : List ℕ → State → State → Type 0
DiskFailedOr sql old new = OnCleanDisk old new (FailedSince old new ⊎ IsUnanswered sql old)

-- Where no limit was set on the steps of a query, the disk failed or refused since. Under other tables than a register's it may be that the row of its table `meta` is not answered.
abbrev pub HasDiskCause : State → State → Type 0
HasDiskCause old new = OnCleanDisk old new (old.step_limit ≡ None → FailedSince old new ⊎ (HasOtherTables old × IsUnanswered select_meta old))
