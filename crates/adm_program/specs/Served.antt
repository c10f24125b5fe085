-- How serving connections to a port ends.
use Rattle.std.specs.Prelude.{◌≡◌, ◌⊎◌, ◌++◌, ℕ, Bool, List, codes, decimal, IsTrue, Option, Result, Ok, Err, if◌then◌else◌}
use Rattle.std.specs.Io.KnownBytes.{Appends}
use Rattle.sqlite_disk.specs.declared.Disk as disk
use Rattle.sqlite_disk.specs.declared.Files.{Files}
use Rattle.sqlite_wal.specs.Recovery.{Image}
use Rattle.sqlite_store.specs.declared.store.FileStore.{FileStore}
use Rattle.sqlite.specs.declared.error.Error.{Error}
use Rattle.sqlite.specs.Held.{Held}
use Rattle.sqlite.specs.Files.{file_state}
use Rattle.adm_http.specs.Purposes.{RunsBody}
use Rattle.adm_desk.specs.DeskState.{DeskState}
use Rattle.adm_http.specs.Connections.{Errors, ServesEach, Traffic}
use Rattle.adm_http.specs.Shows.{Shows}
use Rattle.adm_wire.specs.Streams.{Stream}
use Rattle.adm_host.specs.Found.{Closes}
use Rattle.adm_files.specs.Opened.{Opens}
use Rattle.adm_host.specs.Texts.{Puts}
use Rattle.adm_host.specs.declared.exit.Exit.{Exit}
use Rattle.adm_host.specs.declared.exit.Exit.TheVariants as exit
use Rattle.adm_host.specs.declared.fault.Fault.{Fault}
use Rattle.adm_host.specs.declared.fault.Fault.TheVariants as fault

-- what is printed before the first connection
abbrev pub serving_text : ℕ → List ℕ
serving_text port = codes "serving on 127.0.0.1:" ++ (decimal port ++ codes "\n")

-- The connections of a run, where they are known: what comes before a port is taken, what comes to each port, which port may be refused, and after the run what still comes and those
-- that were ended. And the log, to which the errors of connections are printed: what it holds before the run and after it, where that is known, and whether it has failed.
pub record Visits : Type 0 where
  pub old : Option Traffic
  pub coming : ℕ → Option Traffic
  pub may_refuse : ℕ → Bool
  pub new : Option Traffic
  pub log_before : Errors
  pub log_after : Errors

-- no connection was taken
abbrev pub AreUntaken : Visits → Type 0
AreUntaken visits = visits.new ≡ visits.old

-- nothing was logged
abbrev pub IsUnlogged : Visits → Type 0
IsUnlogged visits = visits.log_after ≡ visits.log_before

module _ {D : Type 0} {g : disk.Ghosts D} where
  -- So many turns over the connections to a port, one after another, lead from a desk to a desk, and from the log before to the log after: what is logged is what these turns print.
  abbrev pub TakesTurns : ℕ → DeskState (Held (FileStore D g)) → DeskState (Held (FileStore D g)) → ℕ → Visits → Type 0
  TakesTurns count old new port visits =
      ServesEach (RunsBody file_state) Shows count (record { desk = old; traffic = visits.coming port; errors = visits.log_before })
      (record { desk = new; traffic = visits.new; errors = visits.log_after })

  -- How serving ended, from the desk as it was to the desk as it is: the line was printed and each turn served the next connection to the port or none, and a
  -- store that failed makes the exit; or the port, which may be refused, could not be taken, the line not printed or memory ran out, and no connection was taken and nothing logged.
  abbrev pub ServesAs : DeskState (Held (FileStore D g)) → DeskState (Held (FileStore D g)) → ℕ → ℕ → Visits → Stream → Result Exit Fault → Type 0
  ServesAs old new port count visits output (Ok e) = Appends output.old output.new (serving_text port)
      × TakesTurns count old new port visits × (e ≡ (if new.failed then exit.Failed else exit.Done))
  ServesAs old new port count visits output (Err fault.Listen) = (new ≡ old) × (output.new ≡ output.old) × AreUntaken visits × IsUnlogged visits × IsTrue (visits.may_refuse port)
  ServesAs old new port count visits output (Err f) = (new ≡ old) × Puts {A = Exit} (serving_text port) output (Err f) × (AreUntaken visits ⊎ (visits.new ≡ visits.coming port)) × IsUnlogged visits

  -- connections to the port are served over the desk, and then its own connection is closed
  pub record Serves (desk : DeskState (Held (FileStore D g))) (port count : ℕ) (visits : Visits) (output : Stream) (e : Result Exit Fault) (closed : Result (Files D) (Error × FileStore D g)) : Type 0 where
    pub after : DeskState (Held (FileStore D g))
    pub ends : ServesAs desk after port count visits output e
    pub closes : Closes after.conn closed

  -- Connections to the port are served over a desk that files which held this are opened as. Where they are not opened, no connection is taken and nothing logged.
  abbrev pub ServesOver : Image → ℕ → ℕ → Visits → Stream → Result Exit Fault → Result (Files D) (Error × FileStore D g) → Type 0
  ServesOver image port count visits output e closed =
      Opens image ((output.new ≡ output.old) × AreUntaken visits × IsUnlogged visits) e closed (λ desk. Serves desk port count visits output e closed)

-- ---- for a private clause

-- why no connection could be waited for, by whether the port may be refused
abbrev pub IsListenFault : Bool → Fault → Type 0
IsListenFault may fault.Listen = IsTrue may
IsListenFault may fault.Memory = Unit {0}
IsListenFault may f = ⊥
