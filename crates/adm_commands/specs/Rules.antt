-- What a command is: one value for each.
use Rattle.std.specs.Prelude.{◌≡◌, Bool, List, Option, Some, None, Result, Ok, Err}
use Rattle.adm_types.specs.declared.commands.Refusal.{Refusal}
use Rattle.adm_types.specs.declared.commands.Reply.{Reply}
use Rattle.adm_types.specs.declared.commands.Reply.TheVariants.{Done}
use Rattle.adm_register.specs.declared.difference.Difference.{Difference}
use Rattle.adm_register.specs.State.{State}
use Rattle.adm_commands.specs.declared.command_result.RowRefusal.{RowRefusal}
use Rattle.adm_commands.specs.Tests.{first_failing}

-- what the types of a command's values keep; why it is refused; and what it changes and answers where it is not
pub record Rules : Type 1 where
  pub kept : Type 0
  pub refused : State → Option RowRefusal
  pub changes : State → Difference → Reply → Type 0

-- a refusal that names no row
abbrev pub without_row : Option Refusal → Option RowRefusal
without_row None = None
without_row (Some refusal) = Some (record { refusal = refusal; row = 0 })

-- the refusal of the first of these tests that fails
abbrev pub by_tests : List (Bool × Refusal) → Option RowRefusal
by_tests tests = without_row (first_failing tests)

-- just this is changed, and the reply is Done
abbrev pub ChangesJust : Difference → Difference → Reply → Type 0
ChangesJust only change reply = (change ≡ only) × (reply ≡ Done)

-- a command that is refused by the first of its tests that fails, and else changes just this and is answered by Done
abbrev pub changes_just : Type 0 → (State → List (Bool × Refusal)) → (State → Difference) → Rules
changes_just kept tests only = record { kept = kept; refused = λ old. by_tests (tests old); changes = λ old. ChangesJust (only old) }

-- what results from a command that is refused so, or changes this where it is not
abbrev pub ResultsIn : Option RowRefusal → (Difference → Reply → Type 0) → Result (Difference × Reply) RowRefusal → Type 0
ResultsIn why changes (Ok made) = (why ≡ None) × changes made.0 made.1
ResultsIn why changes (Err reason) = why ≡ Some reason

-- what results from a command of these rules
abbrev pub Follows : Rules → State → Result (Difference × Reply) RowRefusal → Type 0
Follows rules old made = ResultsIn (rules.refused old) (rules.changes old) made
