-- A child at a school, as those that wait there are counted one after another.
use Rattle.std.specs.Prelude.{ℕ, ◌+◌, ◌-◌, ◌^◌, Bool, ◌&&◌, ◌||◌, ◌==◌, nat_lt, min, if◌then◌else◌}
use Rattle.adm_types.specs.declared.rows.School.{School}
use Rattle.adm_types.specs.declared.rows.Child.{Child}
use Rattle.adm_rank.specs.Distance.{distance_of}
use Rattle.adm_rank.specs.Class.{class_of}
use Rattle.adm_waiting.specs.declared.tallies.Tally.{Tally}

-- whether the other child has a smaller class at the school than the tally's, or the same class and a smaller distance
abbrev pub is_ahead_of : Tally → Child → Bool
is_ahead_of tally other =
    nat_lt (class_of tally.school other) tally.class
    || (class_of tally.school other == tally.class && nat_lt (distance_of tally.school.at other.home) tally.metres)

-- a child at a school, before anybody is counted
abbrev pub tally_of : School → Child → Tally
tally_of school child = record {
  school = school;
  child = child.no;
  class = class_of school child;
  metres = distance_of school.at child.home;
  position = 1;
  many = 0;
}

-- one more, up to the greatest number that a tally can hold
abbrev pub one_more : ℕ → ℕ
one_more number = min (number + 1) (2 ^ 64 - 1)

-- with one more child that waits, which may be ahead
abbrev pub with_child : Tally → Child → Tally
with_child tally other = record tally {
  position = if is_ahead_of tally other then one_more tally.position else tally.position;
  many = one_more tally.many;
}
