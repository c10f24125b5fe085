-- Which registers are the same but for the lots of their draws and their imported rows, as their documents tell.
use Rattle.std.specs.Prelude.{◌≡◌, ℕ, [], option_map}
use Rattle.std.specs.FinMap.{get}
use Rattle.adm_types.specs.declared.draws.Draw.{Draw}
use Rattle.adm_register.specs.State.{State}
use Rattle.adm_register.specs.WellFormed.{WellFormed}
use Rattle.adm_view.specs.Register.{register_data}

-- the draw without its lots
abbrev pub without_lots : Draw → Draw
without_lots draw = record { number = draw.number; round = draw.round; school = draw.school; day = draw.day; outcomes = draw.outcomes; lots = [] }

-- both have the same season, schools, children, applications, places and left pairs, and at each number draws that are equal in all but their lots
pub record IsShownAlike (a b : State) : Type 0 where
  pub season : a.season ≡ b.season
  pub schools : a.schools ≡ b.schools
  pub children : a.children ≡ b.children
  pub applications : a.applications ≡ b.applications
  pub places : a.places ≡ b.places
  pub left : a.left ≡ b.left
  pub draws : (number : ℕ) → option_map without_lots (get a.draws number) ≡ option_map without_lots (get b.draws number)

-- Two well-formed registers with the same document are the same but for lots and imported rows.
abbrev pub DocumentDeterminesRegister : Type 0
DocumentDeterminesRegister = (a b : State) → WellFormed a → WellFormed b → register_data a ≡ register_data b → IsShownAlike a b
