-- A register without rows.
use Rattle.std.proofs.Common.{ap, ◌≤◌, arith}
use Rattle.std.specs.Ordering.{nat_cmp}
use Rattle.std.specs.FinMap.{empty, len-empty}
use Rattle.adm_lists.proofs.Maps.{values-empty}
use Rattle.adm_types.specs.Seasons.{SeasonFacts, IsSeason, lists_end}
use Rattle.adm_types.specs.declared.rows.School.{School}
use Rattle.adm_types.specs.declared.rows.Child.{Child}
use Rattle.adm_types.specs.declared.draws.Draw.{Draw}
use Rattle.adm_types.specs.Limits.{code_cmp}
use Rattle.adm_register.specs.State.{left_cmp, only_season}
use Rattle.adm_register.specs.WellFormed.{WellFormed, SchoolFits, ChildFits, ApplicationFits, PlaceFits, LeftPairFits, ImportFits, has_first_round, places_outside_plans}
use Rattle.adm_register.specs.Draws.{DrawFits, are_in_order, no_draws}
use Rattle.adm_register.proofs.Maps.{AllRows-empty}

pub only_season-WellFormed : (season : SeasonFacts) → IsSeason season → WellFormed (only_season season)
only_season-WellFormed season is = record {
  base = record {
    season_is = is;
    few_schools = omega (arith, len-empty code_cmp School);
    schools_fit = AllRows-empty code_cmp (SchoolFits season.size);
    few_children = omega (arith, len-empty nat_cmp Child);
    children_fit = AllRows-empty nat_cmp (ChildFits season.size empty);
    applications_fit = AllRows-empty nat_cmp (ApplicationFits (lists_end season) empty empty);
  };
  places = record {
    each = AllRows-empty nat_cmp (PlaceFits empty empty empty (has_first_round empty));
    room = AllRows-empty code_cmp (λ code (school : School). places_outside_plans empty code ≤ school.pan);
  };
  left = AllRows-empty left_cmp (LeftPairFits empty empty empty);
  draws = record { each = AllRows-empty nat_cmp (DrawFits empty empty); in_order = ap (are_in_order season no_draws) (values-empty nat_cmp Draw) };
  imported = AllRows-empty nat_cmp (ImportFits season.size (lists_end season) empty empty);
}
