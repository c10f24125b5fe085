-- What the maps of a draw have. Only private functions cite this.
use Rattle.std.specs.Prelude.{◌≡◌, ℕ, List, Option, Some, None, option_map, if◌then◌else◌}
use Rattle.std.specs.Ordering.{nat_cmp}
use Rattle.std.specs.BTreeMap.{BTreeMap, get}
use Rattle.adm_types.specs.Limits.{code_cmp}
use Rattle.adm_types.specs.declared.draws.Lot.{Lot}
use Rattle.adm_types.specs.declared.draws.Outcome.{Outcome}
use Rattle.adm_rank.specs.declared.keys.RankKey.{RankKey}
use Rattle.adm_register.specs.State.{State}
use Rattle.adm_cutoffs.specs.Reasons.{reason_beside}
use Rattle.adm_cutoffs.specs.Cutoffs.{outcome_for, is_new_place, key_by_lot, last_key, wants_more}
use Rattle.adm_cutoffs.specs.declared.cutoffs.Cutoff.{Cutoff}
use Rattle.adm_cutoffs.specs.declared.refusals.Refusal.{Refusal}

-- the map has the outcome of each child
abbrev pub HasOutcomes : List Outcome → BTreeMap ℕ Outcome → Type 0
HasOutcomes outcomes by_child = (child : ℕ) → get nat_cmp by_child child ≡ outcome_for outcomes child

-- the map has the key of the last child that each school took in by these lots
abbrev pub HasLastKeys : State → List Outcome → List Lot → BTreeMap (List ℕ) RankKey → Type 0
HasLastKeys s outcomes lots keys = (school : List ℕ) → get code_cmp keys school ≡ last_key s outcomes lots school

-- the key of the lot's child, where by the map it was taken in at the lot's school
abbrev pub key_in : State → BTreeMap ℕ Outcome → Lot → Option RankKey
key_in s by_child lot = if is_new_place lot.school (get nat_cmp by_child lot.child) then key_by_lot s lot else None

-- the cutoff of a school by the map
abbrev pub cutoff_in : BTreeMap (List ℕ) RankKey → List ℕ → Option Cutoff
cutoff_in keys school = option_map (λ key. record { school = school; key = key }) (get code_cmp keys school)

-- the refusal of the lot's child by the maps
abbrev pub refusal_in : State → BTreeMap ℕ Outcome → BTreeMap (List ℕ) RankKey → Lot → Option Refusal
refusal_in s by_child keys lot =
    if wants_more s (get nat_cmp by_child lot.child) lot.school
    then Some (record { child = lot.child; school = lot.school; by = reason_beside (get code_cmp keys lot.school) (key_by_lot s lot) })
    else None
