-- The register as sets of rows: what it has at each key.
use Rattle.std.specs.Prelude.{Bool, true, false}
use Rattle.std.specs.declared.cmp.Ordering.{Ordering}
use Rattle.std.specs.Ordering.{nat_cmp, ordering_then}
use Rattle.std.specs.FinMap.{FinMap, code, empty}
use Rattle.adm_types.specs.Seasons.{SeasonFacts}
use Rattle.adm_types.specs.Limits.{code_cmp}
use Rattle.adm_types.specs.declared.rows.School.{School}
use Rattle.adm_types.specs.declared.rows.Child.{Child}
use Rattle.adm_types.specs.declared.rows.Application.{Application}
use Rattle.adm_types.specs.declared.rows.Row.{Row as ImportRow}
use Rattle.adm_types.specs.declared.rows.PlaceRow.{PlaceRow}
use Rattle.adm_types.specs.declared.rows.LeftPair.{LeftPair}
use Rattle.adm_types.specs.declared.draws.Draw.{Draw}
use Rattle.adm_types.specs.declared.rows.PlaceState.{PlaceState}
use Rattle.adm_types.specs.declared.rows.PlaceState.TheVariants.{Offered, Accepted, Plan}

-- pairs by the child's number, and then by the school's code
abbrev pub left_cmp : LeftPair → LeftPair → Ordering
left_cmp x y = ordering_then (nat_cmp x.child y.child) (code_cmp x.school y.school)

-- a season; schools by their codes; children, applications and places by the child's number; the schools that children left; draws by their numbers; imported rows by the child's number
pub record State : Type 0 where
  pub season : SeasonFacts
  pub schools : FinMap code_cmp School
  pub children : FinMap nat_cmp Child
  pub applications : FinMap nat_cmp Application
  pub places : FinMap nat_cmp PlaceRow
  pub left : FinMap left_cmp LeftPair
  pub draws : FinMap nat_cmp Draw
  pub imported : FinMap nat_cmp ImportRow

-- the season and no other row
abbrev pub only_season : SeasonFacts → State
only_season season = record { season = season; schools = empty; children = empty; applications = empty; places = empty; left = empty; draws = empty; imported = empty }

-- whether a place is that of a plan
abbrev pub is_plan : PlaceState → Bool
is_plan (Offered day reminded) = false
is_plan Accepted = false
is_plan Plan = true

-- the application of an imported row
abbrev pub application_of : ImportRow → Application
application_of row = record { child = row.child.no; day = row.day; list = row.preferences }
