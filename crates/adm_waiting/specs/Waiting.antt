-- The waiting list of a school, and who of it comes first by lot.
-- School Admissions Code 2021, section 2; positions and lots are this profile's.
use Rattle.std.specs.Prelude.{◌≡◌, ℕ, ◌+◌, ◌<◌, ◌≤◌, Bool, true, false, ◌&&◌, ◌||◌, ◌==◌, nat_lt, nat_eq, if◌then◌else◌, List, [], ◌∷◌, map, length, find, count_by, Contains, Option, option_map, is_some}
use Rattle.std.specs.List.{zip, list_all, list_any}
use Rattle.adm_types.specs.declared.rows.School.{School}
use Rattle.adm_types.specs.declared.rows.Child.{Child}
use Rattle.adm_rank.specs.Distance.{distance_of}
use Rattle.adm_rank.specs.Class.{class_of}
use Rattle.adm_rank.specs.Ranking.{key_of, precedes}
use Rattle.adm_waiting.specs.declared.lists.Waiting.{Waiting}

-- the number of a child
abbrev pub number_of_child : Child → ℕ
number_of_child child = child.no

-- whether the other child has a smaller class at the school than this one, or the same class and a smaller distance
abbrev pub is_ahead : School → Child → Child → Bool
is_ahead school other child =
    nat_lt (class_of school other) (class_of school child)
    || (class_of school other == class_of school child && nat_lt (distance_of school.at other.home) (distance_of school.at child.home))

-- 1 plus the number of those waiting that are ahead of the child: neither a day nor a lot counts
abbrev pub position : School → List Child → Child → ℕ
position school waiting child = 1 + count_by (λ other. is_ahead school other child) waiting

-- the child with its position among those waiting
abbrev pub entry_of : School → List Child → Child → Waiting
entry_of school waiting child = record {
  position = position school waiting child;
  child = child.no;
  class = class_of school child;
  metres = distance_of school.at child.home;
}

-- whether an entry has a smaller position than the other one, or the same and a smaller number
abbrev pub is_listed_before : Waiting → Waiting → Bool
is_listed_before one other = nat_lt one.position other.position || (one.position == other.position && nat_lt one.child other.child)

-- an entry before the first that it comes before; entries in their order
abbrev pub put_in_order : Waiting → List Waiting → List Waiting
put_in_order one [] = one ∷ []
put_in_order one (other ∷ others) = if is_listed_before one other then one ∷ other ∷ others else other ∷ put_in_order one others

-- the entries sorted by position, and then by the child's number
abbrev pub in_order : List Waiting → List Waiting
in_order [] = []
in_order (one ∷ others) = put_in_order one (in_order others)

-- each child that waits with its position, in the order of the positions and then of the numbers
unfoldable pub waiting_list : School → List Child → List Waiting
waiting_list school waiting = in_order (map (entry_of school waiting) waiting)

-- what each entry of the list has: one of the children that wait, and numbers within their limits
pub record IsEntryFor (waiting : List Child) (entry : Waiting) : Type 0 where
  pub waits : Contains (map number_of_child waiting) entry.child
  pub position_from : 1 ≤ entry.position
  pub position_upto : entry.position ≤ length waiting
  pub class_upto : entry.class ≤ 9
  pub metres_upto : entry.metres ≤ 2121320

-- whether the first of two children, each with its lot, ranks before the second: by class, distance and lot
abbrev pub ranks_before_other : School → Child × ℕ → Child × ℕ → Bool
ranks_before_other school one other = precedes (key_of school one.0 one.1) (key_of school other.0 other.1)

-- whether the child with its lot ranks before each other one
abbrev pub is_first : School → List (Child × ℕ) → Child × ℕ → Bool
is_first school all one = list_all (λ other. nat_eq other.0.no one.0.no || ranks_before_other school one other) all

-- the number of the child that ranks before all others, where the first lot is the first child's, and so on; none where two rank
-- first with equal lots
unfoldable pub first_by_lot : School → List Child → List ℕ → Option ℕ
first_by_lot school waiting lots = option_map (λ one. one.0.no) (find (is_first school (zip waiting lots)) (zip waiting lots))

-- two of the numbers are equal
abbrev pub repeats : List ℕ → Bool
repeats [] = false
repeats (number ∷ numbers) = list_any (nat_eq number) numbers || repeats numbers

-- Where somebody waits, as many lots are drawn as children wait, and no two of them are equal, one ranks before all others.
abbrev pub OneIsFirst : Type 0
OneIsFirst =
    (school : School) (waiting : List Child) (lots : List ℕ) → 0 < length waiting → length lots ≡ length waiting → repeats lots ≡ false
    → is_some (first_by_lot school waiting lots) ≡ true
