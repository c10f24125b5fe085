-- A register as the next row of an import sees it: another one, with the rows that were new so far.
use Rattle.std.specs.Prelude.{◌≡◌, ℕ, ◌+◌, ◌||◌, List, length, is_some}
use Rattle.std.specs.Option.{option_or}
use Rattle.std.specs.Ordering.{nat_cmp}
use Rattle.std.specs.FinMap.{get, len, contains_key}
use Rattle.adm_types.specs.declared.rows.Row.{Row as ImportRow}
use Rattle.adm_table.specs.TableRows.{row_at}
use Rattle.adm_register.specs.State.{State}

-- the register has what the old one has, and each added row, by its child's number, with that child and its application
pub record IsBeside (old : State) (added : List (ℕ × ImportRow)) (seen : State) : Type 0 where
  pub season : seen.season ≡ old.season
  pub schools : seen.schools ≡ old.schools
  pub places : seen.places ≡ old.places
  pub count : len seen.children ≡ len old.children + length added
  pub children : (number : ℕ) → contains_key seen.children number ≡ (is_some (row_at nat_cmp added number) || contains_key old.children number)
  pub applications : (number : ℕ) → contains_key seen.applications number ≡ (is_some (row_at nat_cmp added number) || contains_key old.applications number)
  pub imported : (number : ℕ) → get seen.imported number ≡ option_or (row_at nat_cmp added number) (get old.imported number)
