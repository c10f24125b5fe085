-- What `serve` answered with the status 200 is found again: after its end, and after a crash.
use Rattle.std.specs.Prelude.{◌≡◌, ◌≤◌, ◌⊎◌, ℕ, List, [], length, Ok}
use Rattle.std.specs.Borrow.{Bor}
use Rattle.std.specs.List.{AllByRecursion}
use Rattle.sqlite_disk.specs.declared.Disk as disk
use Rattle.sqlite_wal.specs.Recovery.{Image}
use Rattle.sqlite_store.specs.declared.store.FileStore.{FileStore}
use Rattle.sqlite.specs.State.{HasCleanDisk}
use Rattle.sqlite.specs.Held.{Held}
use Rattle.sqlite.specs.Files.{file_state}
use Rattle.adm_register.specs.State.{State as Register}
use Rattle.adm_words.specs.declared.actions.Action.TheVariants as action
use Rattle.adm_desk.specs.Files.{IsFileOf}
use Rattle.adm_desk.specs.DeskState.{DeskState}
use Rattle.adm_files.specs.Opened.{IsOpened}
use Rattle.adm_program.specs.Served.{AreUntaken, Visits}
use Rattle.adm_program_laws.specs.Exchanges.{AreExchanged, Exchange, IsAnswered, IsFoundServed}
use Rattle.adm_program_laws.specs.SuccessiveRuns.{ProgramRun, RunsOver}

-- The exchanges of a run of `serve`: one for each connection to the port that was taken, in order, and at most so many, each with its request, its command and its response; or none, where
-- the run ended before it took one.
pub record AreServed (port count : ℕ) (visits : Visits) (served : List Exchange) : Type 0 where
  pub few : length served ≤ count
  pub exchanged : AreExchanged (visits.coming port) visits.new served ⊎ ((served ≡ []) × AreUntaken visits)
  pub each : AllByRecursion IsAnswered served

module _ {D : Type 0} (g : disk.Ghosts D) where
  -- The files hold a register that has each command to which the status 200 was written, and whoever opens them finds such a register.
  pub record HoldsServed (first : Register) (served : List Exchange) (image : Image) : Type 0 where
    pub holds : ∥ ((found : Register) × IsFoundServed first served found × IsFileOf found image) ∥₁
    pub finds : (desk : DeskState (Held (FileStore D g))) → IsOpened image desk → HasCleanDisk (file_state desk.conn) → ∥ IsFoundServed first served desk.register ∥₁

  -- What was answered with the status 200 is found again: a run of `serve` over files that held a register, to its end or to a crash, leaves files of the register after the commands to
  -- which the status 200 was written, in their order, with or without the one in flight.
  abbrev pub AnsweredIsFound : Type 0
  AnsweredIsFound =
      (first : Register) (before after : Image) (run : ProgramRun g) (file : Bor (List ℕ)) (port count : ℕ) → IsFileOf first before → RunsOver g before run after
      → run.read ≡ Ok (action.Serve file port count) → (served : List Exchange) × AreServed port count run.around.given.visits served × HoldsServed first served after
