-- The ranks of those that wait at each school, in order, from which positions are read. Only private functions cite this.
use Rattle.std.specs.Prelude.{◌≡◌, ℕ, ◌+◌, ◌||◌, ◌&&◌, ◌==◌, nat_lt, Bool, true, List, map, length, count_by, Some, Vec, IsPermutation, IsSorted}
use Rattle.std.specs.declared.alloc.Global.{Global}
use Rattle.std.specs.declared.cmp.Ordering.{Ordering}
use Rattle.std.specs.Ordering.{nat_cmp, ordering_then}
use Rattle.std.specs.FinMap as rows
use Rattle.std.specs.BTreeMap.{BTreeMap, get}
use Rattle.adm_types.specs.Limits.{code_cmp}
use Rattle.adm_types.specs.declared.rows.School.{School}
use Rattle.adm_types.specs.declared.rows.Child.{Child}
use Rattle.adm_rank.specs.Class.{class_of}
use Rattle.adm_rank.specs.Distance.{distance_of}
use Rattle.adm_register.specs.State.{State}
use Rattle.adm_register.specs.Waits.{is_waiting, waiting_at}
use Rattle.adm_register.specs.declared.standings.Standing.{Standing}
use Rattle.adm_view.specs.declared.waits.Rank.{Rank}

-- the child by its class and distance at the school
abbrev pub rank_of : School → Child → Rank
rank_of school child = record { class = class_of school child; metres = distance_of school.at child.home }

-- by class, and then by distance
abbrev pub rank_cmp : Rank → Rank → Ordering
rank_cmp one other = ordering_then (nat_cmp one.class other.class) (nat_cmp one.metres other.metres)

-- whether the other one has a smaller class, or the same class and a smaller distance
abbrev pub is_rank_ahead : Rank → Rank → Bool
is_rank_ahead other one = nat_lt other.class one.class || (other.class == one.class && nat_lt other.metres one.metres)

-- the ranks are those of the children that wait at the school, in order
pub record AreRanks (s : State) (school : School) (ranks : List Rank) : Type 0 where
  pub same : IsPermutation (map (rank_of school) (waiting_at s school.code)) ranks
  pub sorted : IsSorted rank_cmp ranks

-- the map has the ranks of the school
abbrev pub HasRanks : State → BTreeMap (List ℕ) (Vec Rank Global) → School → Type 0
HasRanks s waits school = (ranks : Vec Rank Global) × (get code_cmp waits school.code ≡ Some ranks) × AreRanks s school ranks.items

-- the map has the ranks of each school of the register
pub record HasWaits (s : State) (waits : BTreeMap (List ℕ) (Vec Rank Global)) : Type 0 where
  pub each : (school : School) → rows.get s.schools school.code ≡ Some school → HasRanks s waits school

-- the map has the ranks of the school of this code, if there is one
abbrev pub HasRanksAt : State → BTreeMap (List ℕ) (Vec Rank Global) → List ℕ → Type 0
HasRanksAt s waits code = (school : School) → rows.get s.schools code ≡ Some school → HasRanks s waits school

-- the new map has those of this code beside all that the old map had
pub record AddsRanks (s : State) (code : List ℕ) (old new : BTreeMap (List ℕ) (Vec Rank Global)) : Type 0 where
  pub here : HasRanksAt s new code
  pub kept : (other : List ℕ) → HasRanksAt s old other → HasRanksAt s new other

-- the map has the ranks of each school of the register at which the child waits
pub record HasWaitsOf (s : State) (child : ℕ) (waits : BTreeMap (List ℕ) (Vec Rank Global)) : Type 0 where
  pub each : (school : School) → rows.get s.schools school.code ≡ Some school → is_waiting s child school.code ≡ true → HasRanks s waits school

-- the child among these ranks
abbrev pub standing_among : List Rank → Child → Rank → Standing
standing_among ranks child one = record {
  entry = record { position = 1 + count_by (λ other. is_rank_ahead other one) ranks; child = child.no; class = one.class; metres = one.metres };
  many = length ranks;
}
