-- The register as one JSON document, which has everything but lots and imported rows.
use Rattle.std.specs.Prelude.{codes}
use Rattle.serde_json.specs.Data.{Data, object, no_members, member}
use Rattle.adm_register.specs.State.{State}
use Rattle.adm_view.specs.Children.{children_data}
use Rattle.adm_view.specs.Draws.{draws_data}
use Rattle.adm_view.specs.Schools.{schools_data}
use Rattle.adm_view.specs.Season.{season_data}

-- the register: its children, its draws without their lots, its schools and its season
abbrev pub register_data : State → Data
register_data s =
    object (member (codes "children") (children_data s)
    (member (codes "draws") (draws_data s)
    (member (codes "schools") (schools_data s)
    (member (codes "season") (season_data s.season) no_members))))
