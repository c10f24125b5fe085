-- Why a child is refused at a school, by its key and that of the last child that was taken in there.
-- School Admissions Code 2021, section 1: places go by the oversubscription criteria, and a tie is broken by lot.
use Rattle.std.specs.Prelude.{nat_lt, ◌&&◌, ◌==◌, if◌then◌else◌, Option, Some, None}
use Rattle.std.specs.Option.{option_and_then}
use Rattle.adm_rank.specs.declared.keys.RankKey.{RankKey}
use Rattle.adm_cutoffs.specs.declared.reasons.Reason.{Reason}
use Rattle.adm_cutoffs.specs.declared.reasons.Reason.TheVariants.{NoPlace, ByClass, ByDistance, ByLot}

-- why a key is after the last one: none where it is not
abbrev pub reason_after : RankKey → RankKey → Option Reason
reason_after last key =
    if nat_lt last.class key.class then Some ByClass
    else (if last.class == key.class && nat_lt last.distance key.distance then Some ByDistance
    else (if last.class == key.class && (last.distance == key.distance && nat_lt last.lot key.lot) then Some ByLot else None))

-- why a child is refused at a school that took in nobody, or where this is the last key: none where its key is not after that
abbrev pub reason_beside : Option RankKey → Option RankKey → Option Reason
reason_beside None key = Some NoPlace
reason_beside (Some last) key = option_and_then (reason_after last) key
