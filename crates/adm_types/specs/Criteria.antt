-- Oversubscription criteria (this profile's): their texts and ranges.
use Rattle.std.specs.Prelude.{ℕ, Bool, true, false, nat_le, nat_eq, List, ◌++◌, drop, length, codes, Option, Some, None, if◌then◌else◌}
use Rattle.std.specs.List.{starts_with}
use Rattle.std.specs.Option.{option_map}
use Rattle.std.specs.Fmt.{decimal}
use Rattle.std.specs.Cmp.Lexicographic.{pointwise}
use Rattle.adm_types.specs.Code.{is_code, code_of}
use Rattle.adm_types.specs.Numbers.{is_from}
use Rattle.adm_types.specs.Fields.{plain_of}
use Rattle.adm_types.specs.declared.criteria.Criterion.{Criterion}
use Rattle.adm_types.specs.declared.criteria.Criterion.TheVariants.{Sibling, Within, Flag, Feeder, Catchment}

-- what is read of all that follows the prefix, where the text begins with it
abbrev pub read_after : {X : Type 0} → (List ℕ → Option X) → List ℕ → List ℕ → Option X
read_after read prefix text = if starts_with nat_eq text prefix then read (drop (length prefix) text) else None

-- the plain number that follows the prefix
abbrev pub number_after : List ℕ → List ℕ → Option ℕ
number_after = read_after plain_of

-- the code of a school that follows the prefix
abbrev pub code_after : List ℕ → List ℕ → Option (List ℕ)
code_after = read_after code_of

-- the criterion that is the first of two, or else the second
abbrev pub first_criterion : Option Criterion → Option Criterion → Option Criterion
first_criterion (Some criterion) other = Some criterion
first_criterion None other = other

-- `sibling`, or `catchment`, or `within:` and a plain number, or `flag:` and a plain number, or `feeder:` and the code of a school
unfoldable pub criterion_of : List ℕ → Option Criterion
criterion_of text =
    if pointwise nat_eq text (codes "sibling") then Some Sibling
    else if pointwise nat_eq text (codes "catchment") then Some Catchment
    else first_criterion (option_map Within (number_after (codes "within:") text))
    (first_criterion (option_map Flag (number_after (codes "flag:") text)) (option_map Feeder (code_after (codes "feeder:") text)))

-- the text of a criterion
abbrev pub criterion_text : Criterion → List ℕ
criterion_text Sibling = codes "sibling"
criterion_text Catchment = codes "catchment"
criterion_text (Within metres) = codes "within:" ++ decimal metres
criterion_text (Flag flag) = codes "flag:" ++ decimal flag
criterion_text (Feeder school) = codes "feeder:" ++ school

-- a distance from 1 to 2,200,000 metres, a flag from 0 to 15, the code of a school
abbrev pub is_criterion : Criterion → Bool
is_criterion Sibling = true
is_criterion Catchment = true
is_criterion (Within metres) = is_from 1 2200000 metres
is_criterion (Flag flag) = nat_le flag 15
is_criterion (Feeder school) = is_code school

-- whether a criterion came with the second version of the file's tables
abbrev pub came_later : Criterion → Bool
came_later Sibling = false
came_later Catchment = true
came_later (Within metres) = false
came_later (Flag flag) = false
came_later (Feeder school) = true
