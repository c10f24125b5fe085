-- What serving requests does to a desk, as commands that bodies are.
use Rattle.std.specs.Prelude.{◌≡◌, ℕ, ◌≤◌, ◌⊎◌, List, [], ◌∷◌, length, Ok}
use Rattle.std.specs.List.{AllByRecursion}
use Rattle.sqlite.specs.State.{State as Disk}
use Rattle.adm_types.specs.declared.commands.Command.{Command}
use Rattle.adm_types.specs.declared.commands.Command.TheVariants.{Import}
use Rattle.adm_types.specs.declared.rows.Row.{Row as ImportRow}
use Rattle.adm_wire.specs.Commands.{command_of}
use Rattle.adm_desk.specs.DeskState.{DeskState, Handles}
use Rattle.adm_desk.specs.declared.answer.Answer.{Answer}
use Rattle.adm_http.specs.Connections.{AnswersUpTo}
use Rattle.adm_http.specs.Purposes.{HasRows, RunsBody}
use Rattle.adm_http.specs.Shows.{Shows}

-- the body is this command: it is written as a line of commands is, or as the rows that it imports
abbrev pub IsCommand : List ℕ → Command → Type 0
IsCommand body command = (command_of body ≡ Ok command) ⊎ ((rows : List ImportRow) × HasRows body (Ok rows) × (command ≡ Import rows))

-- some body is the command that was answered
abbrev pub IsOfBody : Command × Answer → Type 0
IsOfBody answered = (body : List ℕ) × IsCommand body answered.0

-- the commands are answered so, one after another
abbrev pub HandlesEach : {D : Type 0} → (D → Command → Answer → D → Type 0) → D → List (Command × Answer) → D → Type 0
HandlesEach step old [] new = new ≡ old
HandlesEach {D} step old ((command, answer) ∷ more) new = (mid : D) × step old command answer mid × HandlesEach step mid more new

-- However at most so many requests were answered, at most as many commands, each of which some body is, lead from the desk before them to the one after.
abbrev pub AnswersBodies : {C : Type 0} → (C → Disk) → Type 0
AnswersBodies {C} disk =
    (count : ℕ) (old new : DeskState C) → AnswersUpTo (RunsBody disk) Shows count old new
    → (answered : List (Command × Answer)) × (length answered ≤ count) × AllByRecursion IsOfBody answered × HandlesEach (Handles disk) old answered new
