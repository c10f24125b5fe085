-- What is printed of single connections while a port is served.
use Rattle.std.specs.Prelude.{◌≡◌, ◌⊎◌, ℕ, List, codes, Result, Ok}
use Rattle.std.specs.List.{flat_map, AllByRecursion}
use Rattle.adm_http.specs.Connections.{Errors, PrintsExactly, connection_fault_line}
use Rattle.adm_http.specs.declared.serve.ServeFault.{ServeFault}
use Rattle.adm_words.specs.Lines.{ReadsArguments}
use Rattle.adm_words.specs.declared.actions.Action.{Action}
use Rattle.adm_words.specs.declared.actions.Action.TheVariants as action
use Rattle.adm_words.specs.declared.faults.WordsFault.{WordsFault}

-- a line that is logged: that a connection could not be accepted, or the error of one
abbrev pub IsConnectionLine : List ℕ → Type 0
IsConnectionLine line = (line ≡ codes "fault: Accept\n") ⊎ ((fault : ServeFault) × (line ≡ connection_fault_line fault))

-- unless the log has failed, such lines were printed to it, and nothing else
abbrev pub PrintsConnections : Errors → Errors → Type 0
PrintsConnections old new = (lines : List (List ℕ)) × AllByRecursion IsConnectionLine lines × PrintsExactly old new (flat_map (λ line. line) lines)

-- what is logged by what the arguments were read as: `serve` logs lines of connections, and every other action and a usage error nothing
abbrev pub LogsBy : Result Action WordsFault → Errors → Errors → Type 0
LogsBy (Ok (action.Serve file port count)) old new = PrintsConnections old new
LogsBy read old new = new ≡ old

-- what is logged by the arguments: they are read as an action or a usage error, and that one logs so
abbrev pub Logs : List (List ℕ) → Errors → Errors → Type 0
Logs given old new = (read : Result Action WordsFault) × ReadsArguments given read × LogsBy read old new
