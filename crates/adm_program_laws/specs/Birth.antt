-- The birth of a register: `init` over files that hold none, also of one that was killed.
use Rattle.std.specs.Prelude.{◌≡◌, ◌≢◌, ◌⊎◌, ℕ, List, Result, Ok, Err}
use Rattle.std.specs.Borrow.{Bor}
use Rattle.sqlite_disk.specs.declared.Disk as disk
use Rattle.sqlite_disk.specs.declared.Files.{Files}
use Rattle.sqlite_wal.specs.Recovery.{Image}
use Rattle.sqlite_store.specs.declared.store.FileStore.{FileStore}
use Rattle.sqlite.specs.declared.error.Error.{Error}
use Rattle.sqlite.specs.Files.{HoldsDatabase, IsEmpty, IsNothing}
use Rattle.sqlite.specs.Tree.{Trees}
use Rattle.adm_types.specs.Seasons.{SeasonFacts, IsRising}
use Rattle.adm_types.specs.declared.seasons.Phase.{Phase}
use Rattle.adm_types.specs.declared.seasons.Size.{Size}
use Rattle.adm_register.specs.State.{only_season}
use Rattle.adm_words.specs.declared.actions.Action.TheVariants as action
use Rattle.adm_desk.specs.Files.{IsFileOf}
use Rattle.adm_host.specs.Creation.{Creates}
use Rattle.adm_host.specs.declared.exit.Exit.{Exit}
use Rattle.adm_host.specs.declared.fault.Fault.{Fault}
use Rattle.adm_host.specs.declared.fault.Fault.TheVariants.{InUse}
use Rattle.adm_program_laws.specs.SuccessiveRuns.{MayClose, ProgramRun, RunsOver}

-- The files hold no database, or an empty one: as before `init`, or where it was killed before the register was in them.
abbrev pub HoldsNone : Image → Type 0
HoldsNone image = IsNothing image ⊎ ∥ ((db : Trees) × HoldsDatabase image db × IsEmpty db) ∥₁

-- the files hold the register of a season of these values, and no other row
pub record HoldsSeason (phase : Phase) (year : ℕ) (days : List ℕ) (size : Size) (image : Image) : Type 0 where
  pub season : SeasonFacts
  pub of_phase : season.phase ≡ phase
  pub of_year : season.year ≡ year
  pub holidays : IsRising days season.holidays
  pub of_size : season.size ≡ size
  pub file : IsFileOf (only_season season) image

module _ {D : Type 0} (g : disk.Ghosts D) where
  -- A run of `init` over such files, to its end or to a crash, leaves files of the register of its season, or such files again.
  abbrev pub InitLeaves : Type 0
  InitLeaves =
      (before after : Image) (run : ProgramRun g) (file : Bor (List ℕ)) (phase : Phase) (year : ℕ) (days : List ℕ) (size : Size) → HoldsNone before → RunsOver g before run after
      → run.read ≡ Ok (action.Init file phase year days size) → ∥ HoldsSeason phase year days size after ⊎ HoldsNone after ∥₁

  -- Over such files, also ones that a killed `init` left, `init` never ends with InUse.
  abbrev pub InitAgain : Type 0
  InitAgain =
      (before after : Image) (season : SeasonFacts) (e : Result Exit Fault) (closed : Result (Files D) (Error × FileStore D g)) → HoldsNone before → Creates before season e closed
      → MayClose closed after → e ≢ Err InUse
