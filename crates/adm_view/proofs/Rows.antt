-- Rows of a register: each value of a map is at its own key, and is in its limits.
use Rattle.std.proofs.Common.{◌≡◌, List, Some, ℕ}
use Rattle.std.specs.Prelude.{All, IsTrue}
use Rattle.std.specs.Cmp.{nat_cmp_total}
use Rattle.std.specs.Cmp.Lexicographic.{nat_list_cmp_total}
use Rattle.std.specs.FinMap.{get, values, nat_cmp-IsAntisymmetric}
use Rattle.adm_lists.proofs.Members.{In, in_All}
use Rattle.adm_types.specs.Limits.{is_school_in_range, is_child_in_range}
use Rattle.adm_types.specs.declared.rows.School.{School}
use Rattle.adm_types.specs.declared.rows.Child.{Child}
use Rattle.adm_register.specs.State.{State}
use Rattle.adm_register.specs.WellFormed.{WellFormed}
use Rattle.adm_register.proofs.Maps.{code_cmp-IsAntisymmetric}
use Rattle.adm_register.proofs.RoundKeys.{from_values}

module _ (s : State) (well : WellFormed s) where
  -- the children of the register are at their own numbers
  pub children_at_own : All (λ (child : Child). get s.children child.no ≡ Some child) (values s.children)
  children_at_own =
      in_All (λ (child : Child). get s.children child.no ≡ Some child) (values s.children) (λ child there.
      from_values nat_cmp_total nat_cmp-IsAntisymmetric s.children (λ (c : Child). c.no) (λ number c here. (well.base.children_fit number c here).own_number) child there)

  -- a school of the register is at its own code
  pub school_at_own : (school : School) → In school (values s.schools) → get s.schools school.code ≡ Some school
  school_at_own school there =
      from_values nat_list_cmp_total code_cmp-IsAntisymmetric s.schools (λ (x : School). x.code) (λ code x here. (well.base.schools_fit code x here).own_code) school there

  -- and so are all
  pub schools_at_own : All (λ (school : School). get s.schools school.code ≡ Some school) (values s.schools)
  schools_at_own = in_All (λ (school : School). get s.schools school.code ≡ Some school) (values s.schools) school_at_own

  -- a child of the register is in range
  pub child_in_range : (number : ℕ) (child : Child) → get s.children number ≡ Some child → IsTrue (is_child_in_range child)
  child_in_range number child there = (well.base.children_fit number child there).in_range

  -- and so is a school
  pub school_in_range : (code : List ℕ) (school : School) → get s.schools code ≡ Some school → IsTrue (is_school_in_range school)
  school_in_range code school there = (well.base.schools_fit code school there).in_range

  -- a child is at its own number, and a school at its own code
  pub child_number : (number : ℕ) (child : Child) → get s.children number ≡ Some child → child.no ≡ number
  child_number number child there = (well.base.children_fit number child there).own_number

  pub school_code : (code : List ℕ) (school : School) → get s.schools code ≡ Some school → school.code ≡ code
  school_code code school there = (well.base.schools_fit code school there).own_code
