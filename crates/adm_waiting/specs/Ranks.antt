-- What the private functions compare: ranks without a school, and keys by lot. Only they cite this.
use Rattle.std.specs.Prelude.{ℕ, ◌+◌, ◌≤◌, Bool, ◌&&◌, ◌||◌, ◌==◌, nat_lt, nat_eq, if◌then◌else◌, List, count_by, fold, Option, None, Some}
use Rattle.std.specs.List.{list_all}
use Rattle.std.specs.declared.cmp.Ordering.{Ordering}
use Rattle.std.specs.Ordering.{nat_cmp, ordering_then}
use Rattle.adm_types.specs.declared.rows.School.{School}
use Rattle.adm_types.specs.declared.rows.Child.{Child}
use Rattle.adm_rank.specs.Distance.{distance_of}
use Rattle.adm_rank.specs.Class.{class_of}
use Rattle.adm_rank.specs.Ranking.{key_of, precedes}
use Rattle.adm_waiting.specs.declared.lists.Waiting.{Waiting}
use Rattle.adm_waiting.specs.declared.ranks.Rank.{Rank}
use Rattle.adm_waiting.specs.declared.vacancies.RankedChild.{RankedChild}

-- the child by its class and distance at the school
abbrev pub rank_of : School → Child → Rank
rank_of school child = record { class = class_of school child; metres = distance_of school.at child.home; child = child.no }

-- the limits of a class and of a distance in metres
abbrev pub IsRankInRange : Rank → Type 0
IsRankInRange rank = (rank.class ≤ 9) × (rank.metres ≤ 2121320)

-- by class, then by distance, then by number
abbrev pub rank_cmp : Rank → Rank → Ordering
rank_cmp one other = ordering_then (nat_cmp one.class other.class) (ordering_then (nat_cmp one.metres other.metres) (nat_cmp one.child other.child))

abbrev pub is_rank_ahead : Rank → Rank → Bool
is_rank_ahead other one = nat_lt other.class one.class || (other.class == one.class && nat_lt other.metres one.metres)

-- the rank's child with its position among all
abbrev pub entry_among : List Rank → Rank → Waiting
entry_among all one = record { position = 1 + count_by (λ other. is_rank_ahead other one) all; child = one.child; class = one.class; metres = one.metres }

-- the child with its key by its lot
abbrev pub ranked_child_of : School → Child × ℕ → RankedChild
ranked_child_of school one = record { child = one.0.no; key = key_of school one.0 one.1 }

-- the one that ranks first, of the one so far and the next; of several
abbrev pub better : Option RankedChild → RankedChild → RankedChild
better None next = next
better (Some best) next = if precedes next.key best.key then next else best

abbrev pub best_of : List RankedChild → Option RankedChild
best_of all = fold (λ best next. Some (better best next)) None all

-- the other one is the same child, or the one ranks before it; so it is with each other one
abbrev pub is_before : RankedChild → RankedChild → Bool
is_before one other = nat_eq other.child one.child || precedes one.key other.key

abbrev pub is_before_others : List RankedChild → RankedChild → Bool
is_before_others all one = list_all (is_before one) all
