-- What ranking by class, distance and lot says of the register's children.
use Rattle.std.proofs.Common.{◌≡◌, ◌∙◌, ap, sym, refl, cond, Bool, true, false, ◌&&◌, ◌||◌, ◌==◌, ℕ, ◌+◌, List, Option, Some, None, arith}
use Rattle.std.specs.Prelude.{option_map, option_and_then, unwrap_or, nat_lt}
use Rattle.std.specs.List.{position_or_len}
use Rattle.std.specs.FinMap.{get}
use Rattle.std.proofs.lemmas.Bool.{false≢true}
use Rattle.std.proofs.lemmas.Bool.Decides.{nat_tests}
use Rattle.adm_types.specs.declared.rows.School.{School}
use Rattle.adm_types.specs.declared.rows.Child.{Child}
use Rattle.adm_types.specs.declared.draws.Lot.{Lot}
use Rattle.adm_rank.specs.declared.keys.RankKey.{RankKey}
use Rattle.adm_rank.specs.Class.{class_of, meets}
use Rattle.adm_rank.specs.Ranking.{key_of, precedes}
use Rattle.adm_match.specs.Market.{Code, both_precede}
use Rattle.adm_waiting.specs.Waiting.{is_ahead}
use Rattle.adm_round.specs.Ranks.{lot_at}
use Rattle.adm_register.specs.State.{State}
use Rattle.adm_fairness.specs.Rounds.{ranks_before_in}
use Rattle.adm_fairness.specs.Code.{is_looked_after, is_ahead_by, is_ahead_at, LotsPartEquals}

-- both children and the school are there, and the one ranks before the other
pub record AreRanked (s : State) (lots : List Lot) (code : Code) (one other : ℕ) : Type 0 where
  pub school : School
  pub at_code : get s.schools code ≡ Some school
  pub first : Child
  pub first_there : get s.children one ≡ Some first
  pub second : Child
  pub second_there : get s.children other ≡ Some second
  pub before : precedes (key_of school first (lot_at lots code one)) (key_of school second (lot_at lots code other)) ≡ true

module _ (s : State) (lots : List Lot) (code : Code) (one other : ℕ) where
  abbrev key_by : Option School → Option Child → ℕ → Option RankKey
  key_by school row child = option_and_then (λ (found : School). option_map (λ (r : Child). key_of found r (lot_at lots code child)) row) school

  pub are_ranked : ranks_before_in s lots code one other ≡ true → AreRanked s lots code one other
  are_ranked before = by (get s.schools code) refl (get s.children one) refl (get s.children other) refl before
    where
      by : (school : Option School) → get s.schools code ≡ school → (x : Option Child) → get s.children one ≡ x → (y : Option Child) → get s.children other ≡ y
          → both_precede (key_by school x one) (key_by school y other) ≡ true → AreRanked s lots code one other
      by None at x xs y ys before = absurd (false≢true before)
      by (Some school) at None xs y ys before = absurd (false≢true before)
      by (Some school) at (Some first) xs None ys before = absurd (false≢true before)
      by (Some school) at (Some first) xs (Some second) ys before = record {
        school = school;
        at_code = at;
        first = first;
        first_there = xs;
        second = second;
        second_there = ys;
        before = before;
      }

-- ---- class 0

class_zero : (school : School) (child : Child) → child.looked_after ≡ true → class_of school child ≡ 0
unfolding class_of
class_zero school child after' = ap {B = ℕ} (λ b. cond b 0 (1 + position_or_len (meets school.code school.at child) school.criteria)) after'

zero_class : (school : School) (child : Child) → class_of school child ≡ 0 → child.looked_after ≡ true
unfolding class_of
zero_class school child none = by child.looked_after none
  where
    by : (b : Bool) → cond b 0 (1 + position_or_len (meets school.code school.at child) school.criteria) ≡ 0 → b ≡ true
    by true none = refl
    by false none = absurd (omega (arith, none))

least_class : (a b : RankKey) → precedes a b ≡ true → b.class ≡ 0 → a.class ≡ 0
least_class a b before none = grind (arith, nat_tests)

-- who ranks before a looked-after child is looked after
pub looked_after_before : (school : School) (first second : Child) (a b : ℕ) → precedes (key_of school first a) (key_of school second b) ≡ true → second.looked_after ≡ true
    → first.looked_after ≡ true
looked_after_before school first second a b before after' =
    zero_class school first (least_class (key_of school first a) (key_of school second b) before (class_zero school second after'))

pub looked_after_is : (s : State) (child : ℕ) (row : Child) → get s.children child ≡ Some row → is_looked_after s child ≡ row.looked_after
looked_after_is s child row there = ap (λ o. unwrap_or (option_map (λ (r : Child). r.looked_after) o) false) there

pub looked_after_ranked : (s : State) (lots : List Lot) (code : Code) (one other : ℕ) → ranks_before_in s lots code one other ≡ true → is_looked_after s other ≡ true
    → is_looked_after s one ≡ true
looked_after_ranked s lots code one other before after' =
    let it = are_ranked s lots code one other before in
    looked_after_is s one it.first it.first_there
    ∙ looked_after_before it.school it.first it.second (lot_at lots code one) (lot_at lots code other) it.before (sym (looked_after_is s other it.second it.second_there) ∙ after')

-- ---- who is ahead

abbrev ahead : RankKey → RankKey → Bool
ahead a b = nat_lt a.class b.class || (a.class == b.class && nat_lt a.distance b.distance)

ahead_first : (a b : RankKey) → ahead a b ≡ true → precedes a b ≡ true
ahead_first a b is = grind (arith, nat_tests)

first_not_behind : (a b : RankKey) → precedes a b ≡ true → ahead b a ≡ false
first_not_behind a b before = grind (arith, nat_tests)

pub ahead_ranks : (school : School) (one other : Child) (a b : ℕ) → is_ahead school one other ≡ true → precedes (key_of school one a) (key_of school other b) ≡ true
ahead_ranks school one other a b is = ahead_first (key_of school one a) (key_of school other b) is

pub ranks_not_behind : (school : School) (one other : Child) (a b : ℕ) → precedes (key_of school one a) (key_of school other b) ≡ true → is_ahead school other one ≡ false
ranks_not_behind school one other a b before = first_not_behind (key_of school one a) (key_of school other b) before

pub ahead_of_itself : (school : School) (child : Child) → is_ahead school child child ≡ false
ahead_of_itself school child = not_ahead (key_of school child 0)
  where
    not_ahead : (a : RankKey) → ahead a a ≡ false
    not_ahead a = grind (arith, nat_tests)

pub ahead_rows : (s : State) (code : Code) (one other : ℕ) (school : School) (first second : Child) → get s.schools code ≡ Some school → get s.children one ≡ Some first → get s.children other ≡ Some second
    → is_ahead_at s code one other ≡ is_ahead school first second
ahead_rows s code one other school first second at xs ys = λ i. is_ahead_by (at i) (xs i) (ys i)

ahead_case : (s : State) (lots : List Lot) (code : Code) (one other : ℕ) → is_ahead_at s code one other ≡ true → ranks_before_in s lots code one other ≡ true
ahead_case s lots code one other is = by (get s.schools code) (get s.children one) (get s.children other) is
  where
    by : (school : Option School) (x y : Option Child) → is_ahead_by school x y ≡ true → both_precede (key_by s lots code one other school x one) (key_by s lots code one other school y other) ≡ true
    by None x y is = absurd (false≢true is)
    by (Some school) None y is = absurd (false≢true is)
    by (Some school) (Some first) None is = absurd (false≢true is)
    by (Some school) (Some first) (Some second) is = ahead_ranks school first second (lot_at lots code one) (lot_at lots code other) is

pub not_behind : (s : State) (lots : List Lot) (code : Code) (one other : ℕ) → ranks_before_in s lots code one other ≡ true → is_ahead_at s code other one ≡ false
not_behind s lots code one other before =
    let it = are_ranked s lots code one other before in
    ahead_rows s code other one it.school it.second it.first it.at_code it.second_there it.first_there
    ∙ ranks_not_behind it.school it.first it.second (lot_at lots code one) (lot_at lots code other) it.before

pub lots_part_equals_law : LotsPartEquals
lots_part_equals_law = record { ahead = ahead_case; never_behind = not_behind }
