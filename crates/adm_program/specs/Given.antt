-- What a run reads, writes and serves.
use Rattle.std.specs.Prelude.{ℕ, Bool, List, Option}
use Rattle.adm_wire.specs.Streams.{Stream, reader, writer}
use Rattle.adm_wire.specs.declared.streams.Input as input
use Rattle.adm_wire.specs.declared.streams.Output as output
use Rattle.adm_http.specs.Connections.{Errors, Traffic, errors_of}
use Rattle.adm_files.specs.Imports.{files}
use Rattle.adm_program.specs.Served.{Visits}

-- what a run is given: the files of rows by their paths, the connections to ports with their log, the input and the output, before the run and after it
pub record Given : Type 0 where
  pub rows : List ℕ → Stream
  pub visits : Visits
  pub input : Stream
  pub output : Stream

-- what a run is given, and what its own error is printed to
pub record Around : Type 0 where
  pub given : Given
  pub errors : Stream

-- the ghosts of what opens a file of rows: what a read of it gives, whether one has failed, and the bytes of the file at each path
abbrev pub RowFiles : Type 0 → Type 0
RowFiles S = record { remaining : S → Option (List ℕ); has_failed : S → Bool; bytes_at : S → List ℕ → Option (List ℕ) }

-- the ghosts of what takes a port: the connections that come, those that come to each port once it is taken, and whether a port may be refused
abbrev pub Ports : Type 0 → Type 0
Ports S = record { traffic : S → Option Traffic; traffic_at : S → ℕ → Option Traffic; may_refuse : S → ℕ → Bool }

-- the connections to ports, and the log of what goes wrong with them, of a run
abbrev pub visits : {S L : Type 0} → Ports S → S → S → output.Ghosts L → L → L → Visits
visits g old new l log log_new =
    record { old = g.traffic old; coming = g.traffic_at old; may_refuse = g.may_refuse old; new = g.traffic new; log_before = errors_of l log; log_after = errors_of l log_new }

-- what a run is given, by the files of rows, the ports with the log, the input and the output, each before the run and after it
abbrev pub given : {F P L I O : Type 0} → RowFiles F → F → F → Ports P → P → P → output.Ghosts L → L → L → input.Ghosts I → I → I → output.Ghosts O → O → O → Given
given f rows rows_new p ports ports_new l log log_new i input input_new o output output_new =
    record { rows = files f rows rows_new; visits = visits p ports ports_new l log log_new; input = reader i input input_new; output = writer o output output_new }

-- What a run is given and prints its error to, by the files of rows, the ports, the input, the output and the writer of errors, each before the run and after it. The log is named apart,
-- as it was before and as it is after.
abbrev pub around : {F P I O E : Type 0} → RowFiles F → F → F → Ports P → P → P → input.Ghosts I → I → I → output.Ghosts O → O → O → output.Ghosts E → E → E → Errors → Errors → Around
around f rows rows_new p ports ports_new i input input_new o output output_new e errors errors_new log log_new = record {
  given = record {
    rows = files f rows rows_new;
    visits = record { old = p.traffic ports; coming = p.traffic_at ports; may_refuse = p.may_refuse ports; new = p.traffic ports_new; log_before = log; log_after = log_new };
    input = reader i input input_new;
    output = writer o output output_new;
  };
  errors = writer e errors errors_new;
}
