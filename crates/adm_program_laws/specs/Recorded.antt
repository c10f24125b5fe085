-- Which commands of a run the register records, and a list of two kinds in their order.
use Rattle.std.specs.Prelude.{◌≡◌, ◌⊎◌, List, [], ◌∷◌}
use Rattle.adm_types.specs.declared.commands.Command.{Command}
use Rattle.adm_desk.specs.Acknowledged.{acknowledged}
use Rattle.adm_desk.specs.declared.answer.Answer.{Answer}

-- The recorded commands: those that the desk answered Done. Such a command is acknowledged once this answer was written whole; else it was recorded, not answered.
abbrev pub recorded : List (Command × Answer) → List Command
recorded answered = acknowledged answered

-- these are the elements of the two lists after it, those of each in their order
abbrev pub IsMerged : {A : Type 0} → List A → List A → List A → Type 0
IsMerged [] xs ys = (xs ≡ []) × (ys ≡ [])
IsMerged {A} (z ∷ zs) xs ys = ((more : List A) × (xs ≡ z ∷ more) × IsMerged zs more ys) ⊎ ((more : List A) × (ys ≡ z ∷ more) × IsMerged zs xs more)
