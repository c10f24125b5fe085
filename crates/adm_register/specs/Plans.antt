-- Children with a plan: which rows of places are of a plan.
use Rattle.std.specs.Prelude.{ℕ, Bool, false, Option, Some, None}
use Rattle.std.specs.Ordering.{nat_cmp}
use Rattle.std.specs.FinMap.{FinMap, get}
use Rattle.adm_types.specs.declared.rows.PlaceRow.{PlaceRow}
use Rattle.adm_register.specs.State.{is_plan}

-- whether there is a place, and it is that of a plan
abbrev pub is_plan_row : Option PlaceRow → Bool
is_plan_row None = false
is_plan_row (Some row) = is_plan row.place.state

-- whether the child's place is that of a plan
abbrev pub has_plan : FinMap nat_cmp PlaceRow → ℕ → Bool
has_plan places child = is_plan_row (get places child)
