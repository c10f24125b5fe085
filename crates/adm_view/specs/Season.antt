-- A season as JSON data: its phase, its year, its days, and its size.
use Rattle.std.specs.Prelude.{ℕ, ◌-◌, List, codes}
use Rattle.serde_json.specs.Data.{Data, string, object, Members, no_members, member, put}
use Rattle.adm_types.specs.Numbers.{last_day}
use Rattle.adm_types.specs.Seasons.{SeasonFacts, closing, lists_end, national_day_of, is_working_day}
use Rattle.adm_types.specs.declared.seasons.Phase.{Phase}
use Rattle.adm_types.specs.declared.seasons.Phase.TheVariants.{Primary, Secondary}
use Rattle.adm_types.specs.declared.seasons.Size.{Size}
use Rattle.adm_types.specs.declared.seasons.Size.TheVariants.{Standard, Large}
use Rattle.adm_days.specs.Days.{first_from}
use Rattle.adm_view.specs.Writing.{number_data, list_data, day_data}

-- the name of a phase
abbrev pub phase_name : Phase → List ℕ
phase_name Primary = codes "primary"
phase_name Secondary = codes "secondary"

-- the day on which offers go out: the first working day from the national day on
unfoldable pub offer_day_of : SeasonFacts → ℕ
offer_day_of season =
    first_from (is_working_day season.holidays) (last_day - national_day_of season.phase season.year) (national_day_of season.phase season.year)

-- the members of a season but its size: the last day for applications, the holidays, the last day of lists, the offer day, the phase and the year of entry
abbrev pub season_members : SeasonFacts → Members
season_members season =
    member (codes "closing") (day_data (closing season))
    (member (codes "holidays") (list_data day_data season.holidays)
    (member (codes "last_list_day") (day_data (lists_end season))
    (member (codes "offer_day") (day_data (offer_day_of season))
    (member (codes "phase") (string (phase_name season.phase))
    (member (codes "year") (number_data season.year) no_members)))))

-- with the size, if it is large
abbrev pub size_members : Size → Members → Members
size_members Standard others = others
size_members Large others = put (codes "size") (string (codes "large")) others

-- a season
abbrev pub season_data : SeasonFacts → Data
season_data season = object (size_members season.size (season_members season))
