-- Why a command was not done.
use Rattle.std.specs.Prelude.{◌≡◌, ⊤, Option, Some}
use Rattle.adm_commands.specs.declared.command_result.RowRefusal.{RowRefusal}
use Rattle.adm_commands.specs.declared.not_done.NotDone.{NotDone}
use Rattle.adm_commands.specs.declared.not_done.NotDone.TheVariants.{Refused, Memory}

-- ---- for private clauses

-- it is this refusal, or memory ran out
abbrev pub Explains : Option RowRefusal → NotDone → Type 0
Explains why (Refused refusal row) = why ≡ Some (record { refusal = refusal; row = row })
Explains why Memory = ⊤
