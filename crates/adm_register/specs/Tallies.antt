-- The walk that counts who waits at several schools at once. Only private functions cite this.
use Rattle.std.specs.Prelude.{ℕ, Bool, List, map, fold, Option, Some, None, if◌then◌else◌}
use Rattle.std.specs.FinMap.{get}
use Rattle.adm_types.specs.Limits.{is_listed, is_school_in_range}
use Rattle.adm_types.specs.declared.rows.Child.{Child}
use Rattle.adm_types.specs.declared.rows.Application.{Application}
use Rattle.adm_types.specs.declared.rows.School.{School}
use Rattle.adm_waiting.specs.declared.tallies.Tally.{Tally}
use Rattle.adm_waiting.specs.Tallies.{tally_of, with_child}
use Rattle.adm_register.specs.declared.standings.Standing.{Standing}
use Rattle.adm_register.specs.State.{State}
use Rattle.adm_register.specs.Waits.{is_waiting, waiting_child}

-- a child at a school, where both are there, before anybody is counted
abbrev pub tally_among : Option School → Option Child → Option Tally
tally_among None child = None
tally_among (Some school) None = None
tally_among (Some school) (Some child) = Some (tally_of school child)

-- the child at the school, if it waits there
abbrev pub tally_at : State → ℕ → List ℕ → Option Tally
tally_at s child code = if is_waiting s child code then tally_among (get s.schools code) (get s.children child) else None

-- whether the school of a tally is in the list
abbrev pub lists_tallied : List (List ℕ) → Tally → Bool
lists_tallied list tally = is_listed list tally.school.code

-- whether its school is in range
abbrev pub has_school_in_range : Tally → Bool
has_school_in_range tally = is_school_in_range tally.school

-- a tally with a child that waits, if there is one
abbrev pub with_waiting : Tally → Option Child → Tally
with_waiting tally None = tally
with_waiting tally (Some child) = with_child tally child

-- a tally with the child of an application, if that waits at its school
abbrev pub with_application : State → Application → Tally → Tally
with_application s application tally = with_waiting tally (waiting_child s tally.school.code application)

-- tallies with the children of the applications, one after another
abbrev pub with_applications : State → List Tally → List Application → List Tally
with_applications s tallies applications = fold (λ counted application. map (with_application s application) counted) tallies applications

-- what a tally says when all have been counted, beside its school's code
abbrev pub standing_in : Tally → List ℕ × Standing
standing_in tally =
    (tally.school.code, record { entry = record { position = tally.position; child = tally.child; class = tally.class; metres = tally.metres }; many = tally.many })
