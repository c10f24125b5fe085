-- The limits of names, points, schools, children and lists of schools.
use Rattle.std.specs.Prelude.{ℕ, Bool, true, false, not, ◌&&◌, List, [], ◌∷◌, length, nat_le, nat_eq, Option, Some, None}
use Rattle.std.specs.List.{list_any, list_all}
use Rattle.std.specs.Str.{chars}
use Rattle.std.specs.Char.{is_control}
use Rattle.adm_types.specs.Code.{is_code}
use Rattle.adm_types.specs.Criteria.{is_criterion}
pub use Rattle.adm_types.specs.Numbers.{is_from, is_child_number, first_day, last_day}
use Rattle.std.specs.Cmp.Lexicographic.{pointwise, slice_cmp}
use Rattle.std.specs.Ordering.{nat_cmp}
use Rattle.std.specs.declared.cmp.Ordering.{Ordering}
use Rattle.adm_types.specs.declared.seasons.Size.{Size}
use Rattle.adm_types.specs.declared.seasons.Size.TheVariants.{Standard, Large}
use Rattle.adm_types.specs.declared.criteria.Criterion.{Criterion}
use Rattle.adm_types.specs.declared.criteria.Criterion.TheVariants.{Sibling, Within, Flag, Feeder, Catchment}
use Rattle.adm_types.specs.declared.rows.Point.{Point}
use Rattle.adm_types.specs.declared.rows.School.{School}
use Rattle.adm_types.specs.declared.rows.Child.{Child}

-- how many schools a register of a season of this size has at the most
abbrev pub most_schools : Size → ℕ
most_schools Standard = 200
most_schools Large = 1000

-- the most children that it has
abbrev pub most_children : Size → ℕ
most_children Standard = 2000
most_children Large = 40000

-- how many schools an application lists at the most
abbrev pub most_preferences : ℕ
most_preferences = 10

-- how many draws it has at the most
abbrev pub most_draws : ℕ
most_draws = 10000

-- the most lots that all draws of a register have together
abbrev pub most_lots : Size → ℕ
most_lots Standard = 1000000
most_lots Large = 20000000

-- in how many catchment areas a child lives at the most: a standard season has none
abbrev pub most_catchments : Size → ℕ
most_catchments Standard = 0
most_catchments Large = 10

-- whether a school may have this criterion
abbrev pub is_allowed : Size → Criterion → Bool
is_allowed Large criterion = true
is_allowed Standard Catchment = false
is_allowed Standard Sibling = true
is_allowed Standard (Within metres) = true
is_allowed Standard (Flag flag) = true
is_allowed Standard (Feeder school) = true

-- 1 to 80 bytes without control characters
abbrev pub is_name : List ℕ → Bool
is_name text = is_from 1 80 (length text) && not (list_any is_control (chars text))

-- each coordinate at most 1,500,000 metres
abbrev pub is_on_map : Point → Bool
is_on_map p = nat_le p.east 1500000 && nat_le p.north 1500000

-- an admission number from 1 to 500
abbrev pub is_pan : ℕ → Bool
is_pan = is_from 1 500

-- its admission number is one, its point on the map, and it has at most 8 criteria, each in its range
abbrev pub is_school_in_range : School → Bool
is_school_in_range s =
    is_pan s.pan && is_on_map s.at && nat_le (length s.criteria) 8 && list_all is_criterion s.criteria

-- codes in the order of their bytes
abbrev pub code_cmp : List ℕ → List ℕ → Ordering
code_cmp = slice_cmp nat_cmp

-- the code is one of the codes
abbrev pub is_listed : List (List ℕ) → List ℕ → Bool
is_listed codes code = list_any (λ other. pointwise nat_eq other code) codes

-- no code is repeated
abbrev pub is_without_repeat : List (List ℕ) → Bool
is_without_repeat [] = true
is_without_repeat (code ∷ codes) = not (is_listed codes code) && is_without_repeat codes

-- no school, or the code of one
abbrev pub is_code_or_none : Option (List ℕ) → Bool
is_code_or_none None = true
is_code_or_none (Some school) = is_code school

-- a home on the map, at most 6 siblings' schools without repeat, a present school that has a code, or none, and at most 10 catchment schools without repeat
abbrev pub is_child_in_range : Child → Bool
is_child_in_range c =
    is_on_map c.home && nat_le (length c.siblings) 6 && is_without_repeat c.siblings && is_code_or_none c.present
    && nat_le (length c.catchments) (most_catchments Large) && is_without_repeat c.catchments

-- and no more catchment schools than a season of this size allows
abbrev pub is_child_of_size : Size → Child → Bool
is_child_of_size size c = is_child_in_range c && nat_le (length c.catchments) (most_catchments size)

-- a school in its limits, with criteria that a season of this size allows
abbrev pub is_school_of_size : Size → School → Bool
is_school_of_size size s = is_school_in_range s && list_all (is_allowed size) s.criteria
