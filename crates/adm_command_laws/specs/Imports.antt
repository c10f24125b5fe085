-- What imports leave: rows that were imported are known from then on.
use Rattle.std.specs.Prelude.{◌≡◌, List, length, Ok}
use Rattle.adm_types.specs.declared.rows.Row.{Row as ImportRow}
use Rattle.adm_types.specs.declared.commands.Command.{Command}
use Rattle.adm_types.specs.declared.commands.Command.TheVariants.{Import}
use Rattle.adm_types.specs.declared.commands.Reply.{Reply}
use Rattle.adm_types.specs.declared.commands.Reply.TheVariants.{Imported}
use Rattle.adm_register.specs.State.{State}
use Rattle.adm_register.specs.WellFormed.{WellFormed}
use Rattle.adm_commands.specs.Imports.{Reaches}
use Rattle.adm_commands.specs.Steps.{Accepts, Step}

-- the import is accepted, leaves the register as it is and counts each row as known; and it has no other result
abbrev pub AddsNothing : State → List ImportRow → Type 0
AddsNothing s rows =
    Step s (Import rows) (Ok (Imported 0 (length rows))) s
    × ((reply : Reply) (new : State) → Step s (Import rows) (Ok reply) new → (reply ≡ Imported 0 (length rows)) × (new ≡ s))

-- so it is after the import was accepted once, whatever accepted commands came since
abbrev pub ImportOnce : Type 0
ImportOnce =
    (old mid new : State) (rows : List ImportRow) (commands : List Command) → WellFormed old → Accepts old (Import rows) mid → Reaches mid commands new
    → AddsNothing new rows
