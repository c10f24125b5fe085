-- Draws as JSON data: without their lots, and with them, their cutoffs and their refusals.
use Rattle.std.specs.Prelude.{ℕ, nat_eq, List, codes, Option, Some, None, if◌then◌else◌}
use Rattle.std.specs.FinMap.{values}
use Rattle.serde_json.specs.Data.{Data, null, boolean, string, object, Members, no_members, member, put}
use Rattle.adm_types.specs.declared.draws.Draw.{Draw}
use Rattle.adm_types.specs.declared.draws.Lot.{Lot}
use Rattle.adm_types.specs.declared.draws.Outcome.{Outcome}
use Rattle.adm_register.specs.State.{State}
use Rattle.adm_cutoffs.specs.Cutoffs.{cutoffs_of, refusals_of}
use Rattle.adm_cutoffs.specs.declared.cutoffs.Cutoff.{Cutoff}
use Rattle.adm_cutoffs.specs.declared.reasons.Reason.{Reason}
use Rattle.adm_cutoffs.specs.declared.reasons.Reason.TheVariants.{NoPlace, ByClass, ByDistance, ByLot}
use Rattle.adm_cutoffs.specs.declared.refusals.Refusal.{Refusal}
use Rattle.adm_view.specs.Writing.{number_data, list_data, day_data}

-- the code of a school, or null for none
abbrev pub code_or_null : Option (List ℕ) → Data
code_or_null None = null
code_or_null (Some code) = string code

-- the number of a round, or null for a fill, which has 0
abbrev pub round_or_null : ℕ → Data
round_or_null round = if nat_eq round 0 then null else number_data round

-- an outcome: the child, whether its school is a new one, and the school
abbrev pub outcome_data : Outcome → Data
outcome_data outcome =
    object (member (codes "child") (number_data outcome.child)
    (member (codes "fresh") (boolean outcome.fresh)
    (member (codes "school") (code_or_null outcome.school) no_members)))

-- a lot: the child, its lot, and the school
abbrev pub lot_data : Lot → Data
lot_data lot =
    object (member (codes "child") (number_data lot.child)
    (member (codes "lot") (number_data lot.lot)
    (member (codes "school") (string lot.school) no_members)))

-- the members of a draw but its lots: its day, its number, its outcomes, the round or the school of the fill
abbrev pub draw_members : Draw → Members
draw_members draw =
    member (codes "day") (day_data draw.day)
    (member (codes "draw") (number_data draw.number)
    (member (codes "outcomes") (list_data outcome_data draw.outcomes)
    (member (codes "round") (round_or_null draw.round)
    (member (codes "school") (code_or_null draw.school) no_members))))

-- a draw without its lots
abbrev pub draw_data : Draw → Data
draw_data draw = object (draw_members draw)

-- a cutoff: the class, the lot and the distance of the last child that a school took in, and the school
abbrev pub cutoff_data : Cutoff → Data
cutoff_data cutoff =
    object (member (codes "class") (number_data cutoff.key.class)
    (member (codes "lot") (number_data cutoff.key.lot)
    (member (codes "metres") (number_data cutoff.key.distance)
    (member (codes "school") (string cutoff.school) no_members))))

-- what decided a refusal
abbrev pub reason_name : Reason → List ℕ
reason_name NoPlace = codes "nobody"
reason_name ByClass = codes "class"
reason_name ByDistance = codes "distance"
reason_name ByLot = codes "lot"

-- what decided it, or null where nothing does by the data of now
abbrev pub reason_or_null : Option Reason → Data
reason_or_null None = null
reason_or_null (Some reason) = string (reason_name reason)

-- a refusal: what decided it, the child, and the school
abbrev pub refusal_data : Refusal → Data
refusal_data refusal =
    object (member (codes "by") (reason_or_null refusal.by)
    (member (codes "child") (number_data refusal.child)
    (member (codes "school") (string refusal.school) no_members)))

-- a draw with its lots, in the order in which they are stored, and its cutoffs and refusals by the data of the register
abbrev pub draw_data_with_lots : State → Draw → Data
draw_data_with_lots s draw =
    object (put (codes "refusals") (list_data refusal_data (refusals_of s draw))
    (put (codes "lots") (list_data lot_data draw.lots)
    (put (codes "cutoffs") (list_data cutoff_data (cutoffs_of s draw)) (draw_members draw))))

-- all draws without their lots, by their numbers
abbrev pub draws_data : State → Data
draws_data s = list_data draw_data (values s.draws)
