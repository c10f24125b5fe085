-- What the types of a command's values keep.
use Rattle.std.specs.Prelude.{ℕ, List, IsTrue, nat_le, nat_lt}
use Rattle.std.specs.List.{list_all}
use Rattle.std.specs.Str.{is_utf8}
use Rattle.adm_types.specs.Code.{is_code}
use Rattle.adm_types.specs.Limits.{is_from, is_child_number, first_day, last_day}
use Rattle.adm_types.specs.declared.rows.School.{School}
use Rattle.adm_types.specs.declared.rows.Child.{Child}
use Rattle.adm_types.specs.declared.rows.Row.{Row as ImportRow}

-- a school's code is one, and its name is a text
pub record KeptBySchool (school : School) : Type 0 where
  pub code_form : IsTrue (is_code school.code)
  pub text : IsTrue (is_utf8 school.name)

-- a child's number is one of a child, its name is a text, and its flags are 16
pub record KeptByChild (child : Child) : Type 0 where
  pub number_form : IsTrue (is_child_number child.no)
  pub text : IsTrue (is_utf8 child.name)
  pub flags : IsTrue (nat_lt child.flags 65536)

-- a day is one, and lots are less than 2^32
pub record KeptByRound (day : ℕ) (numbers : List ℕ) : Type 0 where
  pub is_day : IsTrue (is_from first_day last_day day)
  pub lots : IsTrue (list_all (λ number. nat_lt number 4294967296) numbers)

-- what a child's values keep, and a day
pub record KeptByImportRow (row : ImportRow) : Type 0 where
  pub child : KeptByChild row.child
  pub day : IsTrue (nat_le first_day row.day)
