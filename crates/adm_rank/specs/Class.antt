-- The class of a child at a school (School Admissions Code 2021, section 1; the criteria are this profile's).
use Rattle.std.specs.Prelude.{ℕ, ◌+◌, Bool, List, nat_le, Some, if◌then◌else◌, bytes_eq}
use Rattle.std.specs.List.{position_or_len}
use Rattle.std.specs.Option.{option_eq}
use Rattle.adm_types.specs.declared.criteria.Criterion.{Criterion}
use Rattle.adm_types.specs.declared.criteria.Criterion.TheVariants.{Sibling, Within, Flag, Feeder, Catchment}
use Rattle.adm_types.specs.declared.rows.Point.{Point}
use Rattle.adm_types.specs.declared.rows.School.{School}
use Rattle.adm_types.specs.declared.rows.Child.{Child}
use Rattle.adm_types.specs.Flags.{has_flag}
use Rattle.adm_types.specs.Limits.{is_listed}
use Rattle.adm_rank.specs.Distance.{distance_of}

-- whether a child meets a criterion of the school of this code at this point: a sibling there, a home at most so many metres away,
-- a verified flag, a feeder school that is the child's present school, or the school among the child's catchment schools
abbrev pub meets : List ℕ → Point → Child → Criterion → Bool
meets code at child Sibling = is_listed child.siblings code
meets code at child Catchment = is_listed child.catchments code
meets code at child (Within metres) = nat_le (distance_of at child.home) metres
meets code at child (Flag flag) = has_flag child.flags flag
meets code at child (Feeder feeder) = option_eq bytes_eq child.present (Some feeder)

-- 0 for a child looked after now or before; else 1 plus the index, from 0, of the first criterion that it meets;
-- else 1 plus the number of criteria
unfoldable pub class_of : School → Child → ℕ
class_of school child = if child.looked_after then 0 else (1 + position_or_len (meets school.code school.at child) school.criteria)
