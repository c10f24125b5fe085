-- The cutoffs of a draw, and whom it refused where and why, by the data that the register has.
-- Azevedo and Leshno 2016: a cutoff is the key of the last that a school takes in; the rest is this profile's.
use Rattle.std.specs.Prelude.{ℕ, Bool, false, not, ◌&&◌, ◌==◌, if◌then◌else◌, List, Option, None, Some, option_map, find, bytes_eq}
use Rattle.std.specs.List.{filter_map, fold, take_while}
use Rattle.std.specs.Option.{option_and_then}
use Rattle.std.specs.FinMap.{get, values}
use Rattle.adm_types.specs.Code.{has}
use Rattle.adm_types.specs.Limits.{is_listed}
use Rattle.adm_types.specs.declared.rows.Application.{Application}
use Rattle.adm_types.specs.declared.rows.School.{School}
use Rattle.adm_types.specs.declared.draws.Draw.{Draw}
use Rattle.adm_types.specs.declared.draws.Lot.{Lot}
use Rattle.adm_types.specs.declared.draws.Outcome.{Outcome}
use Rattle.adm_draws.specs.Draws.{is_offered_at}
use Rattle.adm_rank.specs.declared.keys.RankKey.{RankKey}
use Rattle.adm_rank.specs.Ranking.{key_of, precedes}
use Rattle.adm_register.specs.State.{State}
use Rattle.adm_cutoffs.specs.Reasons.{reason_beside}
use Rattle.adm_cutoffs.specs.declared.cutoffs.Cutoff.{Cutoff}
use Rattle.adm_cutoffs.specs.declared.refusals.Refusal.{Refusal}

-- ---- who was taken in

-- the outcome of a child
abbrev pub outcome_for : List Outcome → ℕ → Option Outcome
outcome_for outcomes child = find (λ outcome. outcome.child == child) outcomes

-- whether an outcome is a place at the school that its child did not have before
abbrev pub is_new_place : List ℕ → Option Outcome → Bool
is_new_place school None = false
is_new_place school (Some outcome) = is_offered_at school outcome

-- whether the child of the lot was taken in at the lot's school
abbrev pub is_taken_in : List Outcome → Lot → Bool
is_taken_in outcomes lot = is_new_place lot.school (outcome_for outcomes lot.child)

-- ---- the last that was taken in

-- the key of the lot's child at its school: class and distance as the register has them, and this lot
abbrev pub key_by_lot : State → Lot → Option RankKey
key_by_lot s lot = option_and_then (λ school. option_map (λ child. key_of school child lot.lot) (get s.children lot.child)) (get s.schools lot.school)

-- the key of the lot's child, where it was taken in at this school
abbrev pub key_taken_in : State → List Outcome → List ℕ → Lot → Option RankKey
key_taken_in s outcomes school lot = if bytes_eq lot.school school && is_taken_in outcomes lot then key_by_lot s lot else None

-- the key that ranks later, of the last one so far, if any, and the next
abbrev pub later : Option RankKey → RankKey → RankKey
later None next = next
later (Some last) next = if precedes last next then next else last

-- the key after which none of these ranks
abbrev pub last_of : List RankKey → Option RankKey
last_of keys = fold (λ last next. Some (later last next)) None keys

-- the key of the last child that the school took in by these lots: none where it took in nobody
abbrev pub last_key : State → List Outcome → List Lot → List ℕ → Option RankKey
last_key s outcomes lots school = last_of (filter_map (key_taken_in s outcomes school) lots)

-- the cutoff of a school, where it took in a child
abbrev pub cutoff_at : State → Draw → School → Option Cutoff
cutoff_at s draw school = option_map (λ key. record { school = school.code; key = key }) (last_key s draw.outcomes draw.lots school.code)

-- the cutoffs of the schools that took in a child, by their codes
unfoldable pub cutoffs_of : State → Draw → List Cutoff
cutoffs_of s draw = filter_map (cutoff_at s draw) (values s.schools)

-- ---- who was refused

-- the schools of a list above what a child has: all of them where it has none
abbrev pub above : Option (List ℕ) → List (List ℕ) → List (List ℕ)
above given list = take_while (λ code. not (has given code)) list

-- whether the application, if there is one, lists the school above what the child has
abbrev pub is_above : Option Application → Option (List ℕ) → List ℕ → Bool
is_above None given school = false
is_above (Some application) given school = is_listed (above given application.list) school

-- whether a child of this outcome, if it has one, wants the school more than what it has
abbrev pub wants_more : State → Option Outcome → List ℕ → Bool
wants_more s None school = false
wants_more s (Some outcome) school = is_above (get s.applications outcome.child) outcome.school school

-- the refusal of the lot's child at its school, where it wants that more than what it has
abbrev pub refusal_by_lot : State → Draw → Lot → Option Refusal
refusal_by_lot s draw lot =
    if wants_more s (outcome_for draw.outcomes lot.child) lot.school
    then Some (record { child = lot.child; school = lot.school; by = reason_beside (last_key s draw.outcomes draw.lots lot.school) (key_by_lot s lot) })
    else None

-- whom the draw refused, in the order of its lots
unfoldable pub refusals_of : State → Draw → List Refusal
refusals_of s draw = filter_map (refusal_by_lot s draw) draw.lots
