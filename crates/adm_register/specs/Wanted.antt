-- Which schools a child wants (School Admissions Code 2021, section 2: the order of preference; left schools are this profile's).
use Rattle.std.specs.Prelude.{ℕ, Bool, not, List, [], Option, Some, None, filter, if◌then◌else◌, bytes_eq}
use Rattle.std.specs.List.{take_while}
use Rattle.std.specs.FinMap.{FinMap, get, contains_key}
use Rattle.adm_types.specs.declared.rows.Application.{Application}
use Rattle.adm_types.specs.declared.rows.PlaceRow.{PlaceRow}
use Rattle.adm_types.specs.declared.rows.LeftPair.{LeftPair}
use Rattle.adm_register.specs.State.{State, left_cmp, is_plan}

-- the schools of a list above a place: all of them where there is none
abbrev pub above : Option PlaceRow → List (List ℕ) → List (List ℕ)
above None list = list
above (Some row) list = take_while (λ code. not (bytes_eq code row.place.school)) list

-- whether the child left the school
abbrev pub has_left : FinMap left_cmp LeftPair → ℕ → List ℕ → Bool
has_left left child code = contains_key left (record { child = child; school = code })

-- of an application: the schools above the child's place, in order, without those that it left
abbrev pub wanted_of : State → Application → List (List ℕ)
wanted_of s application = filter (λ code. not (has_left s.left application.child code)) (above (get s.places application.child) application.list)

-- of a child: none where it has no application
abbrev pub wanted : State → ℕ → List (List ℕ)
wanted s child = by (get s.applications child)
  where
    by : Option Application → List (List ℕ)
    by None = []
    by (Some application) = wanted_of s application

-- the school of which the child is a tenant: where it has a place that is not that of a plan
abbrev pub own_school : Option PlaceRow → Option (List ℕ)
own_school None = None
own_school (Some row) = if is_plan row.place.state then None else Some row.place.school
