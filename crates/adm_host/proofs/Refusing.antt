-- A file that is refused: no register is created where there are tables, and a connection with which nothing was done leaves what it left.
use Rattle.std.proofs.Common.{◌≡◌, ◌≢◌, Result, Ok, Err, inl, refl, sym, subst, arith}
use Rattle.std.specs.Result.{IsErr}
use Rattle.sqlite_disk.specs.declared.Disk as disk
use Rattle.sqlite_wal.specs.Recovery.{Image}
use Rattle.sqlite_store.specs.declared.store.FileStore.{FileStore}
use Rattle.sqlite.specs.Files.{file_state}
use Rattle.sqlite.specs.Held.{Held}
use Rattle.sqlite.specs.State.{State, Survives}
use Rattle.sqlite.specs.Tree.{Trees}
use Rattle.adm_types.specs.Seasons.{SeasonFacts}
use Rattle.adm_schema.specs.Schema.{no_schema}
use Rattle.adm_store.specs.Migration.{IsMigrated}
use Rattle.adm_host.specs.Found.{IsFound, LeavesAsFound}
use Rattle.adm_host.specs.Creation.{CreatesAs}
use Rattle.adm_host.specs.declared.connecting.OpenError.{OpenError}
use Rattle.adm_host.specs.declared.connecting.Remainder.TheVariants.{Connection}
use Rattle.adm_host.specs.declared.exit.Exit.{Exit}
use Rattle.adm_host.specs.declared.fault.Fault.{Fault}

pub survives_same : (s : State) (P : Trees → Type 0) → Survives s s P
survives_same s P = record {
  clean = omega arith;
  shield = λ shielded. shielded;
  counts = omega arith;
  limit = refl;
  closes = λ clean is_open. inl is_open;
  crash = λ clean db may. inl may;
}

module _ {D : Type 0} {g : disk.Ghosts D} where
  pub none_made : (season : SeasonFacts) (found left : Held (FileStore D g)) (e : Result Exit Fault) → CreatesAs season found left e → found.schema ≢ no_schema → IsErr e
  none_made season found left (Ok x) made used = absurd (used made.1)
  none_made season found left (Err f) made used = refl

  -- the error hands back this connection
  pub left_found : (image : Image) (c : Held (FileStore D g)) (e : OpenError D g) (cause : Fault) → e ≡ record { fault = cause; remains = Connection c }
      → (found : Held (FileStore D g)) → IsFound image found → Survives (file_state found) (file_state c) (IsMigrated (file_state found)) → LeavesAsFound image e.remains
  left_found image c e cause is found was kept = subst (λ (it : OpenError D g). LeavesAsFound image it.remains) (sym is) (found, was, kept)
