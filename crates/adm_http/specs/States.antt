-- The state of a child: its place, and where it waits, as JSON. This profile's own form.
use Rattle.std.specs.Prelude.{◌≡◌, ℕ, List, ◌++◌, Option, Some, None, option_map, codes, decimal, string_bytes}
use Rattle.std.specs.List.{join_by}
use Rattle.std.specs.FinMap.{get}
use Rattle.std.specs.declared.string.String.{String}
use Rattle.adm_types.specs.declared.rows.Place.{Place}
use Rattle.adm_types.specs.declared.rows.PlaceState.{PlaceState}
use Rattle.adm_types.specs.declared.rows.PlaceState.TheVariants.{Offered, Accepted, Plan}
use Rattle.adm_register.specs.State.{State}
use Rattle.adm_register.specs.Rows.{place_of}
use Rattle.adm_register.specs.declared.standings.Standing.{Standing}
use Rattle.adm_register.specs.Waits.{standings_of}

-- how a child holds its place
abbrev pub kind_of : PlaceState → List ℕ
kind_of (Offered day reminded) = codes "offered"
kind_of Accepted = codes "accepted"
kind_of Plan = codes "plan"

-- a place of this kind at a school
abbrev pub held_json : List ℕ → List ℕ → List ℕ
held_json kind school = codes "{\"kind\":\"" ++ (kind ++ (codes "\",\"school\":\"" ++ (school ++ codes "\"}")))

-- a place as JSON, or `null` for none
abbrev pub place_json : Option Place → List ℕ
place_json None = codes "null"
place_json (Some place) = held_json (kind_of place.state) place.school

-- a school at which a child waits, and its position there
abbrev pub wait_json : List ℕ × Standing → List ℕ
wait_json wait = codes "{\"position\":" ++ (decimal wait.1.entry.position ++ (codes ",\"school\":\"" ++ (wait.0 ++ codes "\"}")))

-- with a comma between each two
abbrev pub waits_json : List (List ℕ × Standing) → List ℕ
waits_json waits = join_by wait_json (codes ",") waits

-- a child's number, its place, and where it waits, in the order of its own list
abbrev pub state_json : ℕ → List ℕ → List ℕ → List ℕ
state_json child place waits = codes "{\"child\":" ++ (decimal child ++ (codes ",\"place\":" ++ (place ++ (codes ",\"waiting\":[" ++ (waits ++ codes "]}")))))

-- the state of a child of the register, as JSON
abbrev pub child_json : State → ℕ → List ℕ
child_json s child = state_json child (place_json (place_of s child)) (waits_json (standings_of s child))

-- the state of the child of a number, if there is such a child
abbrev pub child_text : State → ℕ → Option (List ℕ)
child_text s number = option_map (λ child. child_json s number) (get s.children number)

-- ---- for private clauses

-- what comes before the place of a child
abbrev pub head_json : ℕ → List ℕ
head_json child = codes "{\"child\":" ++ (decimal child ++ codes ",\"place\":")

-- a school at which a child waits, where it is not the first
abbrev pub after_comma : List ℕ × Standing → List ℕ
after_comma wait = codes "," ++ wait_json wait

-- the new text is the old one and then this
abbrev pub Adds : {A : Type 0} → String A → List ℕ → String A → Type 0
Adds old more new = string_bytes new ≡ string_bytes old ++ more
