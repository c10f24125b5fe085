-- What every command leaves as it was.
use Rattle.std.specs.Prelude.{◌≡◌, ◌≤◌, ℕ, List, Some, IsTrue}
use Rattle.std.specs.FinMap.{get, contains_key}
use Rattle.adm_types.specs.declared.rows.School.{School}
use Rattle.adm_types.specs.declared.rows.Row.{Row as ImportRow}
use Rattle.adm_types.specs.declared.rows.LeftPair.{LeftPair}
use Rattle.adm_types.specs.declared.draws.Draw.{Draw}
use Rattle.adm_register.specs.State.{State}

-- the season is the same; each school, each child and each left pair of the old register is still there, and each draw and each imported row as it was
pub record Extends (old new : State) : Type 0 where
  pub season : new.season ≡ old.season
  pub schools : (code : List ℕ) → IsTrue (contains_key old.schools code) → IsTrue (contains_key new.schools code)
  pub children : (number : ℕ) → IsTrue (contains_key old.children number) → IsTrue (contains_key new.children number)
  pub left : (pair : LeftPair) → IsTrue (contains_key old.left pair) → IsTrue (contains_key new.left pair)
  pub draws : (number : ℕ) (draw : Draw) → get old.draws number ≡ Some draw → get new.draws number ≡ Some draw
  pub imported : (number : ℕ) (row : ImportRow) → get old.imported number ≡ Some row → get new.imported number ≡ Some row

-- a school then and now: its admission number is not smaller, and all else of it is as it was
pub record IsRaised (was now : School) : Type 0 where
  pub number : was.pan ≤ now.pan
  pub others : now ≡ record was { pan = now.pan }

-- each school that both registers have is kept so
abbrev pub KeepsSchools : State → State → Type 0
KeepsSchools old new = (code : List ℕ) (was now : School) → get old.schools code ≡ Some was → get new.schools code ≡ Some now → IsRaised was now
