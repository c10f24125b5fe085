-- A desk handles commands one after another.
use Rattle.std.specs.Prelude.{◌≡◌, List, [], ◌∷◌}
use Rattle.adm_types.specs.declared.commands.Command.{Command}
use Rattle.adm_register.specs.State.{State as Register}
use Rattle.adm_commands.specs.Imports.{Reaches}
use Rattle.adm_desk.specs.declared.answer.Answer.{Answer}

-- accepted commands, one after another, leave one register
abbrev pub OneAfter : Type 0
OneAfter = (old a b : Register) (commands : List Command) → Reaches old commands a → Reaches old commands b → a ≡ b

-- The answers to these commands, one after another, where `step old command answer new` says what one command may be
-- answered, and what the desk then is.
abbrev pub IsRun : {D : Type 0} → (D → Command → Answer → D → Type 0) → D → List Command → List Answer → D → Type 0
IsRun step old [] [] new = new ≡ old
IsRun {D} step old (command ∷ commands) (answer ∷ answers) new = (mid : D) × step old command answer mid × IsRun step mid commands answers new
IsRun step old [] (answer ∷ answers) new = ⊥
IsRun step old (command ∷ commands) [] new = ⊥
