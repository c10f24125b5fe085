-- The tests that compare two rows are equality.
use Rattle.std.specs.Prelude.{◌≡◌, ◌↔◌, Bool, true}
use Rattle.adm_table.specs.Same.{is_same_school, is_same_child, is_same_application, is_same_place, is_same_left, is_same_draw, is_same_import}

-- the test is true of two values exactly where they are equal
abbrev pub IsEquality : {A : Type 0} → (A → A → Bool) → Type 0
IsEquality {A} test = (x y : A) → (test x y ≡ true) ↔ (x ≡ y)

-- Two rows of a kind are the same by its test exactly where they are equal in all their values.
pub record SameIsEqual : Type 0 where
  pub schools : IsEquality is_same_school
  pub children : IsEquality is_same_child
  pub applications : IsEquality is_same_application
  pub places : IsEquality is_same_place
  pub left : IsEquality is_same_left
  pub draws : IsEquality is_same_draw
  pub imported : IsEquality is_same_import
