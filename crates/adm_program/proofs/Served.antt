-- The result of serving connections over a desk, from the clauses of what it calls.
use Rattle.std.proofs.Common.{◌≡◌, ℕ, Bool, true, false, if◌then◌else◌, inl, inr, refl, Option, Err, subst}
use Rattle.sqlite_disk.specs.declared.Disk as disk
use Rattle.sqlite_store.specs.declared.store.FileStore.{FileStore}
use Rattle.sqlite.specs.Files.{file_state}
use Rattle.sqlite.specs.Held.{Held}
use Rattle.adm_desk.specs.DeskState.{DeskState}
use Rattle.adm_http.specs.Connections.{ServesEach, Traffic}
use Rattle.adm_http.specs.Purposes.{RunsBody}
use Rattle.adm_http.specs.Shows.{Shows}
use Rattle.adm_host.specs.Exits.{exit_of_status}
use Rattle.adm_wire.specs.Streams.{Stream}
use Rattle.adm_program.specs.Served.{AreUntaken, IsListenFault, IsUnlogged, ServesAs, TakesTurns, Visits, serving_text}
use Rattle.adm_host.specs.Texts.{Puts}
use Rattle.adm_host.specs.declared.exit.Exit.{Exit}
use Rattle.adm_host.specs.declared.exit.Exit.TheVariants as exit
use Rattle.adm_host.specs.declared.fault.Fault.{Fault}
use Rattle.adm_host.specs.declared.fault.Fault.TheVariants as fault

-- the exit says whether the store failed
pub exit_served : (failed : Bool) (status : ℕ) (e : Exit) → status ≡ (if failed then 4 else 0) → e ≡ exit_of_status status → e ≡ (if failed then exit.Failed else exit.Done)
exit_served true status e is reported = subst (λ (n : ℕ). e ≡ exit_of_status n) is reported
exit_served false status e is reported = subst (λ (n : ℕ). e ≡ exit_of_status n) is reported

module _ {D : Type 0} {g : disk.Ghosts D} where
  -- turns over the connections that a port was taken for
  pub takes_turns : (count port : ℕ) (old new : DeskState (Held (FileStore D g))) (taken : Option Traffic) (visits : Visits) → taken ≡ visits.coming port
      → ServesEach (RunsBody file_state) Shows count (record { desk = old; traffic = taken; errors = visits.log_before }) (record { desk = new; traffic = visits.new; errors = visits.log_after })
      → TakesTurns count old new port visits
  takes_turns count port old new taken visits is it =
      subst (λ (t : Option Traffic). ServesEach (RunsBody file_state) Shows count (record { desk = old; traffic = t; errors = visits.log_before }) (record { desk = new; traffic = visits.new; errors = visits.log_after })) is it

  -- no connection could be waited for
  pub not_ready : (desk : DeskState (Held (FileStore D g))) (port count : ℕ) (visits : Visits) (output : Stream) (f : Fault) → IsListenFault (visits.may_refuse port) f → output.new ≡ output.old → AreUntaken visits → IsUnlogged visits
      → ServesAs desk desk port count visits output (Err f)
  not_ready desk port count visits output fault.Listen is same untaken unlogged = (refl, same, untaken, unlogged, is)
  not_ready desk port count visits output fault.Memory is same untaken unlogged = (refl, same, inl untaken, unlogged)
  not_ready desk port count visits output f is same untaken unlogged = absurd is

  -- the line was not printed
  pub not_printed : (A : Type 0) (desk : DeskState (Held (FileStore D g))) (port count : ℕ) (visits : Visits) (output : Stream) (f : Fault) → Puts {A = A} (serving_text port) output (Err f) → visits.new ≡ visits.coming port → IsUnlogged visits
      → ServesAs desk desk port count visits output (Err f)
  not_printed A desk port count visits output fault.Listen puts untaken unlogged = absurd puts
  not_printed A desk port count visits output f puts untaken unlogged = (refl, puts, inr untaken, unlogged)
