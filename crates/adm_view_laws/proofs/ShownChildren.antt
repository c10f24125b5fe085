-- What the data of a child have, whatever its present school and its catchment schools.
use Rattle.std.proofs.Common.{◌≡◌, refl, ℕ, List, [], ◌∷◌, Option, Some, None, codes}
use Rattle.std.specs.FinMap as rows
use Rattle.serde_json.specs.Data.{Data, boolean, string}
use Rattle.serde_json.specs.Find.{get}
use Rattle.serde_json.proofs.OnLiterals.{serde_json_on_literals}
use Rattle.adm_types.specs.declared.rows.Child.{Child}
use Rattle.adm_register.specs.State.{State}
use Rattle.adm_register.specs.Rows.{place_of}
use Rattle.adm_view.specs.Writing.{number_data, list_data, code_or_empty, flags_data}
use Rattle.adm_view.specs.Children.{place_data, application_data, left_of, child_data}

-- what is said of catchment schools: nothing where there are none
abbrev pub said : List (List ℕ) → Option Data
said [] = None
said (school ∷ others) = Some (list_data string (school ∷ others))

-- the data have each of these of the child
pub record IsShown (s : State) (c : Child) (d : Data) : Type 0 where
  pub child : get (codes "child") d ≡ Some (number_data c.no)
  pub name : get (codes "name") d ≡ Some (string c.name)
  pub east : get (codes "east") d ≡ Some (number_data c.home.east)
  pub north : get (codes "north") d ≡ Some (number_data c.home.north)
  pub looked_after : get (codes "looked_after") d ≡ Some (boolean c.looked_after)
  pub flags : get (codes "flags") d ≡ Some (flags_data c.flags)
  pub siblings : get (codes "siblings") d ≡ Some (list_data string c.siblings)
  pub present : get (codes "present") d ≡ Some (code_or_empty c.present)
  pub catchments : get (codes "catchments") d ≡ said c.catchments
  pub place : get (codes "place") d ≡ Some (place_data (place_of s c.no))
  pub left : get (codes "left") d ≡ Some (list_data string (left_of s c.no))
  pub application : get (codes "application") d ≡ Some (application_data s c (rows.get s.applications c.no))

-- the child with these schools
abbrev having : Child → Option (List ℕ) → List (List ℕ) → Child
having c present catchments = record c { present = present; catchments = catchments }

shown_with : (s : State) (c : Child) (present : Option (List ℕ)) (catchments : List (List ℕ)) → IsShown s (having c present catchments) (child_data s (having c present catchments))
unfolding serde_json_on_literals
shown_with s c None [] = record { child = refl; name = refl; east = refl; north = refl; looked_after = refl; flags = refl; siblings = refl; present = refl; catchments = refl; place = refl; left = refl; application = refl }
shown_with s c None (school ∷ others) = record { child = refl; name = refl; east = refl; north = refl; looked_after = refl; flags = refl; siblings = refl; present = refl; catchments = refl; place = refl; left = refl; application = refl }
shown_with s c (Some code) [] = record { child = refl; name = refl; east = refl; north = refl; looked_after = refl; flags = refl; siblings = refl; present = refl; catchments = refl; place = refl; left = refl; application = refl }
shown_with s c (Some code) (school ∷ others) = record { child = refl; name = refl; east = refl; north = refl; looked_after = refl; flags = refl; siblings = refl; present = refl; catchments = refl; place = refl; left = refl; application = refl }

pub shown : (s : State) (c : Child) → IsShown s c (child_data s c)
shown s c = shown_with s c c.present c.catchments
