-- To add a child.
use Rattle.std.specs.Prelude.{ℕ, Bool, not, nat_lt, List, [], ◌∷◌}
use Rattle.std.specs.FinMap.{len, contains_key}
use Rattle.adm_types.specs.declared.rows.Child.{Child}
use Rattle.adm_types.specs.declared.commands.Refusal.{Refusal}
use Rattle.adm_types.specs.declared.commands.Refusal.TheVariants.{ChildKnown, BadText, OutOfRange, UnknownSchool, RegisterFull}
use Rattle.adm_types.specs.Limits.{is_name, is_child_of_size, most_children}
use Rattle.adm_register.specs.State.{State}
use Rattle.adm_register.specs.WellFormed.{has_schools_of}
use Rattle.adm_register.specs.Change.{change_of_child}
use Rattle.adm_commands.specs.KeptByTypes.{KeptByChild}
use Rattle.adm_commands.specs.Rules.{Rules, changes_just}

-- its number is new, its name and its numbers are in the limits of the season's size, its siblings' and catchment schools are there, and there are fewer children than there is room for
abbrev pub tests_with_room : ℕ → State → Child → List (Bool × Refusal)
tests_with_room room old child =
    (not (contains_key old.children child.no), ChildKnown)
    ∷ (is_name child.name, BadText)
    ∷ (is_child_of_size old.season.size child, OutOfRange)
    ∷ (has_schools_of old.schools child, UnknownSchool)
    ∷ (nat_lt (len old.children) room, RegisterFull)
    ∷ []

-- these tests, with room for as many children as the season's size allows
unfoldable pub tests : State → Child → List (Bool × Refusal)
tests old child = tests_with_room (most_children old.season.size) old child

-- the command: the child is written
abbrev pub rules : Child → Rules
rules child = changes_just (KeptByChild child) (λ old. tests old child) (λ old. change_of_child child)
