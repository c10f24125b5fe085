-- A preference has a position exactly where its child waits, and that position is in the list.
use Rattle.std.proofs.Common.{◌≡◌, ◌∙◌, ap, sym, refl, ℕ, List, [], map, length, true, false, cond, Option, Some, None, inl, inr, codes}
use Rattle.std.specs.Prelude.{Contains}
use Rattle.std.specs.Cmp.{nat_cmp_total}
use Rattle.std.specs.FinMap as rows
use Rattle.std.specs.FinMap.{values, nat_cmp-IsAntisymmetric}
use Rattle.std.proofs.lemmas.Bool.{cases_Bool, false≢true}
use Rattle.std.proofs.lemmas.Option.{none-some}
use Rattle.std.proofs.lemmas.List.{length-map}
use Rattle.std.proofs.lemmas.List.Sorted.{length_permutation}
use Rattle.serde_json.specs.Data.{Data, string, object, put}
use Rattle.serde_json.specs.Find.{get}
use Rattle.serde_json.proofs.OnLiterals.{serde_json_on_literals}
use Rattle.serde_json.proofs.Views.{get_member-put}
use Rattle.adm_lists.proofs.Members.{In, contains, in_moved, in_map, in_filter_map}
use Rattle.adm_lists.proofs.Maps.{in_values}
use Rattle.adm_types.specs.declared.rows.School.{School}
use Rattle.adm_types.specs.declared.rows.Child.{Child}
use Rattle.adm_types.specs.declared.rows.Application.{Application}
use Rattle.adm_waiting.specs.declared.lists.Waiting.{Waiting}
use Rattle.adm_waiting.specs.Waiting.{entry_of, waiting_list, in_order}
use Rattle.adm_waiting.proofs.Sorting.{in_order_same}
use Rattle.adm_register.specs.State.{State}
use Rattle.adm_register.specs.WellFormed.{WellFormed}
use Rattle.adm_register.specs.declared.standings.Standing.{Standing}
use Rattle.adm_register.specs.Rows.{place_of}
use Rattle.adm_register.specs.Waits.{waits, is_waiting, waiting_child, waiting_at, list_of, standing_of}
use Rattle.adm_fields.specs.Lists.{child_fields}
use Rattle.adm_fields.specs.Records.{child_values}
use Rattle.adm_view.specs.Writing.{number_data, list_data, members}
use Rattle.adm_view.specs.Children.{rank_members, wait_members, preference_state, preference_data, left_of, application_data, place_data}
use Rattle.adm_view_laws.specs.Laws.{PositionsAreOfLists, VacanciesAreThose, PlacesAreThose}

-- ---- who waits is in the list

module _ (s : State) (well : WellFormed s) (school : School) (child : Child) (known : rows.get s.children child.no ≡ Some child) where
  of_application : (found : Option Application) → rows.get s.applications child.no ≡ found → is_waiting s child.no school.code ≡ true → In child (waiting_at s school.code)
  of_application None is waiting = absurd (false≢true (sym (rw is refl) ∙ waiting))
  of_application (Some application) is waiting =
      let applies : waits s application school.code ≡ true = sym (rw is refl) ∙ waiting in
      let own : application.child ≡ child.no = (well.base.applications_fit child.no application is).own_number in
      in_filter_map (waiting_child s school.code) (values s.applications) application child
      (in_values nat_cmp_total nat_cmp-IsAntisymmetric s.applications child.no application is)
      (ap (λ b. cond b (rows.get s.children application.child) None) applies ∙ ap (rows.get s.children) own ∙ known)

  is_waiter : is_waiting s child.no school.code ≡ true → In child (waiting_at s school.code)
  is_waiter = of_application (rows.get s.applications child.no) refl

abbrev entries : State → School → List Waiting
entries s school = map (entry_of school (waiting_at s school.code)) (waiting_at s school.code)

in_list : (s : State) (school : School) (child : Child) → In child (waiting_at s school.code) → Contains (list_of s school) (entry_of school (waiting_at s school.code) child)
unfolding waiting_list
in_list s school child there =
    let waiting = waiting_at s school.code in
    contains (in_order (entries s school)) (entry_of school waiting child)
    (in_moved (entries s school) (in_order (entries s school)) (entry_of school waiting child) (in_order_same (entries s school)) (in_map (entry_of school waiting) waiting child there))

list_length : (s : State) (school : School) → length (list_of s school) ≡ length (waiting_at s school.code)
unfolding waiting_list
list_length s school =
    length_permutation (entries s school) (in_order (entries s school)) (in_order_same (entries s school)) ∙ length-map (waiting_at s school.code) (entry_of school (waiting_at s school.code))

-- ---- what a preference has

-- the preference, for what is known of the standing
abbrev of_standing : State → School → Child → Option Standing → Data
of_standing s school child standing =
    object (put (codes "state") (string (preference_state s child.no school.code)) (put (codes "school") (string school.code) (wait_members standing (rank_members (Some school) child))))

no_position : (s : State) (school : School) (child : Child) → get (codes "position") (of_standing s school child None) ≡ None
unfolding serde_json_on_literals
no_position s school child = refl

position_there : (s : State) (school : School) (child : Child) (standing : Standing) → get (codes "position") (of_standing s school child (Some standing)) ≡ Some (number_data standing.entry.position)
unfolding serde_json_on_literals
position_there s school child standing = refl

class_there : (s : State) (school : School) (child : Child) (standing : Standing) → get (codes "class") (of_standing s school child (Some standing)) ≡ Some (number_data (entry_of school [] child).class)
unfolding serde_json_on_literals
class_there s school child standing = refl

metres_there : (s : State) (school : School) (child : Child) (standing : Standing) → get (codes "metres") (of_standing s school child (Some standing)) ≡ Some (number_data (entry_of school [] child).metres)
unfolding serde_json_on_literals
metres_there s school child standing = refl

of_there : (s : State) (school : School) (child : Child) (standing : Standing) → get (codes "of") (of_standing s school child (Some standing)) ≡ Some (number_data standing.many)
unfolding serde_json_on_literals
of_there s school child standing = refl

same_number : (a b : ℕ) → Some (number_data a) ≡ Some (number_data b) → a ≡ b
same_number a b e = cc

abbrev standing_at : State → School → Child → Standing
standing_at s school child = record { entry = entry_of school (waiting_at s school.code) child; many = length (waiting_at s school.code) }

module _ (s : State) (school : School) (child : Child) (there : rows.get s.schools school.code ≡ Some school) (known : rows.get s.children child.no ≡ Some child) where
  waits_there : is_waiting s child.no school.code ≡ true → standing_of s child.no school.code ≡ Some (standing_at s school child)
  waits_there waiting = rw (waiting, there, known) refl

  not_there : is_waiting s child.no school.code ≡ false → standing_of s child.no school.code ≡ None
  not_there waiting = rw waiting refl

  shown : (standing : Option Standing) → standing_of s child.no school.code ≡ standing → preference_data s child school.code ≡ of_standing s school child standing
  shown standing is = λ i. object (put (codes "state") (string (preference_state s child.no school.code)) (put (codes "school") (string school.code) (wait_members (is i) (rank_members (there i) child))))

pub positions : PositionsAreOfLists
positions s school child position well there known is = elim (cases_Bool (is_waiting s child.no school.code)) [
  | inl waiting ↦
      let same = shown s school child there known (Some (standing_at s school child)) (waits_there s school child there known waiting) in
      record {
        entry = entry_of school (waiting_at s school.code) child;
        listed = in_list s school child (is_waiter s well school child known waiting);
        child_is = refl;
        position_is = same_number _ position (sym (ap (get (codes "position")) same ∙ position_there s school child (standing_at s school child)) ∙ is);
        class_is = ap (get (codes "class")) same ∙ class_there s school child (standing_at s school child);
        metres_is = ap (get (codes "metres")) same ∙ metres_there s school child (standing_at s school child);
        length_is = ap (get (codes "of")) same ∙ of_there s school child (standing_at s school child) ∙ ap (λ n. Some (number_data n)) (sym (list_length s school));
      }
  | inr not_waiting ↦
      absurd (none-some (number_data position)
      (sym (ap (get (codes "position")) (shown s school child there known None (not_there s school child there known not_waiting)) ∙ no_position s school child) ∙ is))
]

pub vacancies_same : VacanciesAreThose
unfolding serde_json_on_literals
vacancies_same s school there = sym (rw there refl)

pub places_same : PlacesAreThose
places_same s child =
    get_member-put (codes "place") (place_data (place_of s child.no))
    (put (codes "left") (list_data string (left_of s child.no)) (put (codes "application") (application_data s child (rows.get s.applications child.no)) (child_fields members (child_values child))))
