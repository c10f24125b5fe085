-- The commands of runs that took effect: those that were recorded, and perhaps the one in flight.
use Rattle.std.specs.Prelude.{◌≡◌, ◌⊎◌, List, [], ◌∷◌, ◌++◌, Some}
use Rattle.adm_types.specs.declared.commands.Command.{Command}
use Rattle.adm_desk.specs.Acknowledged.{in_flight}
use Rattle.adm_desk.specs.declared.answer.Answer.{Answer}
use Rattle.adm_program_laws.specs.Recorded.{recorded}

-- of one run: those that were recorded, so each that was acknowledged, and after them the one in flight or none
abbrev pub IsEffect : List (Command × Answer) → List Command → Type 0
IsEffect answered done =
    (done ≡ recorded answered) ⊎ ((command : Command) × (in_flight answered ≡ Some command) × (done ≡ recorded answered ++ command ∷ []))

-- of runs, one after another
abbrev pub AreEffects : List (List (Command × Answer)) → List Command → Type 0
AreEffects [] done = done ≡ []
AreEffects (answered ∷ runs) done = (first : List Command) × (later : List Command) × IsEffect answered first × AreEffects runs later × (done ≡ first ++ later)
