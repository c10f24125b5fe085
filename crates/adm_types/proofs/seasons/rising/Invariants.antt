use Rattle.std.proofs.Common.{◌≡◌, ◌≤◌, ℕ, take}
use Rattle.std.specs.Prelude.{◌==◌}
use Rattle.std.specs.List.{list_any}
use Rattle.std.specs.Ordering.{nat_cmp}
use Rattle.std.specs.BTreeSet.{contains, btree_set_len}
use Rattle.std.specs.List.{All}
use Rattle.adm_types.specs.Seasons.{IsDay}
use Rattle.adm_types.proofs.seasons.rising.Given as goal

-- the set has the days so far
abbrev pub invariant-loop-day : goal.invariant-loop-day
invariant-loop-day l = record {
  same : (day : ℕ) → contains nat_cmp l.set day ≡ list_any (λ other. other == day) (take l.day-index l.days);
  days : All IsDay l.set.keys;
  fewer : btree_set_len l.set ≤ l.day-index;
}
