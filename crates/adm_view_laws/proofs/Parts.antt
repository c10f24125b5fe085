-- The entry of a child or a school is the only one of its number or code in the document.
use Rattle.std.proofs.Common.{◌≡◌, ◌∙◌, ap, sym, subst, refl, ℕ, List, map, Option, Some, None, codes}
use Rattle.std.specs.Prelude.{option_map}
use Rattle.std.specs.Cmp.{nat_cmp_total}
use Rattle.std.specs.Cmp.Lexicographic.{nat_list_cmp_total}
use Rattle.std.specs.FinMap as rows
use Rattle.std.specs.FinMap.{values, nat_cmp-IsAntisymmetric}
use Rattle.std.proofs.lemmas.Option.{none-some, same_Some}
use Rattle.serde_json.specs.Data.{Data, string}
use Rattle.serde_json.specs.Find.{get}
use Rattle.serde_json.proofs.OnLiterals.{serde_json_on_literals}
use Rattle.adm_lists.proofs.Members.{In, contains, from_contains, in_map, from_map}
use Rattle.adm_lists.proofs.Maps.{in_values}
use Rattle.adm_types.specs.declared.rows.School.{School}
use Rattle.adm_types.specs.declared.rows.Child.{Child}
use Rattle.adm_register.specs.State.{State}
use Rattle.adm_register.specs.WellFormed.{WellFormed}
use Rattle.adm_register.proofs.Maps.{code_cmp-IsAntisymmetric}
use Rattle.adm_register.proofs.RoundKeys.{from_values}
use Rattle.adm_view.specs.Writing.{number_data, list_data}
use Rattle.adm_view.specs.Children.{child_data, children_data}
use Rattle.adm_view.specs.Schools.{school_data, schools_data}
use Rattle.adm_view.specs.Register.{register_data}
use Rattle.adm_view_laws.specs.Laws.{IsOnlyEntry, ChildEntriesAreOfDocument, SchoolEntriesAreOfDocument}
use Rattle.adm_view_laws.proofs.ShownChildren.{shown}
use Rattle.adm_view_laws.proofs.Values.{same_number, same_text}

-- ---- what the document and its entries have

children_there : (s : State) → get (codes "children") (register_data s) ≡ Some (children_data s)
unfolding serde_json_on_literals
children_there s = refl

schools_there : (s : State) → get (codes "schools") (register_data s) ≡ Some (schools_data s)
unfolding serde_json_on_literals
schools_there s = refl

school_there : (s : State) (school : School) → get (codes "school") (school_data s school) ≡ Some (string school.code)
unfolding serde_json_on_literals
school_there s school = refl

-- ---- one item of a list

-- of rows, each of which has a value of its own in the member of a name, the data of one are the only item with its value
only_one : {V : Type 0} (form key : V → Data) (document : Data) (list name : List ℕ) (xs : List V) (row : V) → ((v : V) → get name (form v) ≡ Some (key v))
    → get list document ≡ Some (list_data form xs) → In row xs → ((v : V) → In v xs → key v ≡ key row → v ≡ row) → IsOnlyEntry document list name (key row) (form row)
only_one form key document list name xs row named is there alone = record {
  entries = map form xs;
  list_is = is;
  listed = contains (map form xs) (form row) (in_map form xs row there);
  named = named row;
  only = λ other there_too has.
      let found = from_map form xs other (from_contains (map form xs) other there_too) in
      let same : key found.0 ≡ key row = same_Some (key found.0) (key row) (sym (named found.0) ∙ ap (get name) found.2 ∙ has) in
      sym found.2 ∙ ap form (alone found.0 found.1 same);
}

-- ---- children and schools

module _ (s : State) (well : WellFormed s) where
  child_own : (child : Child) → In child (values s.children) → rows.get s.children child.no ≡ Some child
  child_own = from_values nat_cmp_total nat_cmp-IsAntisymmetric s.children (λ (c : Child). c.no) (λ k c there. (well.base.children_fit k c there).own_number)

  school_own : (school : School) → In school (values s.schools) → rows.get s.schools school.code ≡ Some school
  school_own = from_values nat_list_cmp_total code_cmp-IsAntisymmetric s.schools (λ (x : School). x.code) (λ k x there. (well.base.schools_fit k x there).own_code)

  only_child : (child : Child) → rows.get s.children child.no ≡ Some child
      → IsOnlyEntry (register_data s) (codes "children") (codes "child") (number_data child.no) (child_data s child)
  only_child child there =
      only_one (child_data s) (λ (c : Child). number_data c.no) (register_data s) (codes "children") (codes "child") (values s.children) child (λ c. (shown s c).child) (children_there s)
      (in_values nat_cmp_total nat_cmp-IsAntisymmetric s.children child.no child there)
      (λ c among same. same_Some c child (sym (child_own c among) ∙ ap (rows.get s.children) (same_number c.no child.no same) ∙ there))

  only_school : (school : School) → rows.get s.schools school.code ≡ Some school
      → IsOnlyEntry (register_data s) (codes "schools") (codes "school") (string school.code) (school_data s school)
  only_school school there =
      only_one (school_data s) (λ (x : School). string x.code) (register_data s) (codes "schools") (codes "school") (values s.schools) school (school_there s) (schools_there s)
      (in_values nat_list_cmp_total code_cmp-IsAntisymmetric s.schools school.code school there)
      (λ x among same. same_Some x school (sym (school_own x among) ∙ ap (rows.get s.schools) (same_text x.code school.code same) ∙ there))

pub child_only : ChildEntriesAreOfDocument
child_only s number entry well is = by (rows.get s.children number) refl is
  where
    by : (found : Option Child) → rows.get s.children number ≡ found → option_map (child_data s) found ≡ Some entry
        → IsOnlyEntry (register_data s) (codes "children") (codes "child") (number_data number) entry
    by None there e = absurd (none-some entry e)
    by (Some child) there e =
        let own : child.no ≡ number = (well.base.children_fit number child there).own_number in
        let one = only_child s well child (ap (rows.get s.children) own ∙ there) in
        subst (IsOnlyEntry (register_data s) (codes "children") (codes "child") (number_data number)) (same_Some (child_data s child) entry e)
        (subst (λ n. IsOnlyEntry (register_data s) (codes "children") (codes "child") (number_data n) (child_data s child)) own one)

pub school_only : SchoolEntriesAreOfDocument
school_only s code entry well is = by (rows.get s.schools code) refl is
  where
    by : (found : Option School) → rows.get s.schools code ≡ found → option_map (school_data s) found ≡ Some entry
        → IsOnlyEntry (register_data s) (codes "schools") (codes "school") (string code) entry
    by None there e = absurd (none-some entry e)
    by (Some school) there e =
        let own : school.code ≡ code = (well.base.schools_fit code school there).own_code in
        let one = only_school s well school (ap (rows.get s.schools) own ∙ there) in
        subst (IsOnlyEntry (register_data s) (codes "schools") (codes "school") (string code)) (same_Some (school_data s school) entry e)
        (subst (λ n. IsOnlyEntry (register_data s) (codes "schools") (codes "school") (string n) (school_data s school)) own one)
