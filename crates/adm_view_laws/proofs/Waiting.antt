-- Of a child that waits at a school the document says so, with the position that the register has.
use Rattle.std.proofs.Common.{◌≡◌, ◌∙◌, ap, sym, subst, refl, ℕ, List, [], ◌∷◌, Bool, true, false, cond, Option, Some, None, inl, inr, codes}
use Rattle.std.specs.Prelude.{not, ◌&&◌, bytes_eq, option_map}
use Rattle.std.specs.List.{take_while}
use Rattle.std.specs.FinMap as rows
use Rattle.std.proofs.lemmas.Bool.{false≢true, and_parts}
use Rattle.std.proofs.lemmas.List.Sums.{take_while-cons}
use Rattle.std.proofs.lemmas.Slice.Eq.{bytes_eq-Decides}
use Rattle.serde_json.specs.Data.{Data, string, object, put}
use Rattle.serde_json.specs.Find.{get}
use Rattle.serde_json.proofs.OnLiterals.{serde_json_on_literals}
use Rattle.adm_lists.proofs.Members.{In, from_filter}
use Rattle.adm_types.specs.Limits.{is_listed}
use Rattle.adm_types.specs.declared.rows.School.{School}
use Rattle.adm_types.specs.declared.rows.Child.{Child}
use Rattle.adm_types.specs.declared.rows.Application.{Application}
use Rattle.adm_types.specs.declared.rows.PlaceRow.{PlaceRow}
use Rattle.adm_rank.specs.Class.{class_of}
use Rattle.adm_rank.specs.Distance.{distance_of}
use Rattle.adm_register.specs.State.{State}
use Rattle.adm_register.specs.WellFormed.{WellFormed, has_first_round}
use Rattle.adm_register.specs.Wanted.{above, has_left, wanted_of}
use Rattle.adm_register.specs.Waits.{waits, is_waiting, standing_of}
use Rattle.adm_register.specs.declared.standings.Standing.{Standing}
use Rattle.adm_register.proofs.RoundLemmas.{listed_in}
use Rattle.adm_view.specs.Writing.{number_data}
use Rattle.adm_view.specs.Children.{is_place_at, preference_state, preference_data, rank_members, wait_members}
use Rattle.adm_view_laws.specs.Laws.{RanksAreThose, WaitsAreShown}

-- ---- who waits has neither its place at the school nor left it

in_take_while : {X : Type 0} (p : X → Bool) (xs : List X) (x : X) → In x (take_while p xs) → p x ≡ true
in_take_while p [] x at = absurd at
in_take_while p (y ∷ ys) x at = by (p y) refl (in_take_while p ys x) (subst (In x) (take_while-cons p y ys) at)
  where
    by : (b : Bool) → p y ≡ b → (In x (take_while p ys) → p x ≡ true) → In x (cond b (y ∷ take_while p ys) []) → p x ≡ true
    by true first later there = elim there [ inl same ↦ subst (λ z. p z ≡ true) same first | inr rest ↦ later rest ]
    by false first later there = absurd there

not_place : (place : Option PlaceRow) (list : List (List ℕ)) (code : List ℕ) → In code (above place list)
    → is_place_at (option_map (λ (row : PlaceRow). row.place) place) code ≡ false
not_place None list code there = refl
not_place (Some row) list code there = by (bytes_eq row.place.school code) refl
  where
    by : (b : Bool) → bytes_eq row.place.school code ≡ b → b ≡ false
    by false e = refl
    by true e =
        let same : row.place.school ≡ code = (bytes_eq-Decides row.place.school code).0 e in
        let equal : bytes_eq code row.place.school ≡ true = (bytes_eq-Decides code row.place.school).1 (sym same) in
        let passes = in_take_while (λ other. not (bytes_eq other row.place.school)) list code there in
        absurd (false≢true (sym (ap not equal) ∙ passes))

not_true : (b : Bool) → not b ≡ true → b ≡ false
not_true false e = refl
not_true true e = absurd (false≢true e)

module _ (s : State) (well : WellFormed s) (child : Child) (code : List ℕ) (waiting : is_waiting s child.no code ≡ true) where
  of_application : (found : Option Application) → rows.get s.applications child.no ≡ found → preference_state s child.no code ≡ codes "waits"
  of_application None is = absurd (false≢true (sym (rw is refl) ∙ waiting))
  of_application (Some application) is =
      let applies : waits s application code ≡ true = sym (rw is refl) ∙ waiting in
      let own : application.child ≡ child.no = (well.base.applications_fit child.no application is).own_number in
      let parts = and_parts (has_first_round s.draws) (is_listed (wanted_of s application) code) applies in
      let kept = from_filter (λ other. not (has_left s.left application.child other)) (above (rows.get s.places application.child) application.list) code
      (listed_in (wanted_of s application) code parts.1) in
      let left : has_left s.left child.no code ≡ false = subst (λ n. has_left s.left n code ≡ false) own (not_true (has_left s.left application.child code) kept.1) in
      let apart : is_place_at (option_map (λ (row : PlaceRow). row.place) (rows.get s.places child.no)) code ≡ false =
      subst (λ n. is_place_at (option_map (λ (row : PlaceRow). row.place) (rows.get s.places n)) code ≡ false) own
      (not_place (rows.get s.places application.child) application.list code kept.0) in
      rw (apart, left, parts.0, waiting) refl

  state_waits : preference_state s child.no code ≡ codes "waits"
  state_waits = of_application (rows.get s.applications child.no) refl

-- ---- what a preference has

-- the preference of a school, for what is known of the standing there and of the state
abbrev shown_as : School → Child → Option Standing → List ℕ → Data
shown_as school child standing state =
    object (put (codes "state") (string state) (put (codes "school") (string school.code) (wait_members standing (rank_members (Some school) child))))

module _ (school : School) (child : Child) (state : List ℕ) where
  class_there : (standing : Option Standing) → get (codes "class") (shown_as school child standing state) ≡ Some (number_data (class_of school child))
  unfolding serde_json_on_literals
  class_there None = refl
  class_there (Some standing) = refl

  metres_there : (standing : Option Standing) → get (codes "metres") (shown_as school child standing state) ≡ Some (number_data (distance_of school.at child.home))
  unfolding serde_json_on_literals
  metres_there None = refl
  metres_there (Some standing) = refl

  position_there : (standing : Standing) → get (codes "position") (shown_as school child (Some standing) state) ≡ Some (number_data standing.entry.position)
  unfolding serde_json_on_literals
  position_there standing = refl

  of_there : (standing : Standing) → get (codes "of") (shown_as school child (Some standing) state) ≡ Some (number_data standing.many)
  unfolding serde_json_on_literals
  of_there standing = refl

  state_there : (standing : Standing) → get (codes "state") (shown_as school child (Some standing) state) ≡ Some (string state)
  unfolding serde_json_on_literals
  state_there standing = refl

shown : (s : State) (school : School) (child : Child) → rows.get s.schools school.code ≡ Some school
    → preference_data s child school.code ≡ shown_as school child (standing_of s child.no school.code) (preference_state s child.no school.code)
shown s school child there =
    λ i. object (put (codes "state") (string (preference_state s child.no school.code)) (put (codes "school") (string school.code)
    (wait_members (standing_of s child.no school.code) (rank_members (there i) child))))

pub ranks_same : RanksAreThose
ranks_same s school child there =
    let state = preference_state s child.no school.code in
    let standing = standing_of s child.no school.code in
    let same = shown s school child there in
    (ap (get (codes "class")) same ∙ class_there school child state standing, ap (get (codes "metres")) same ∙ metres_there school child state standing)

-- a standing is that of a child that waits
waits_of_standing : (s : State) (child : ℕ) (code : List ℕ) (standing : Standing) → standing_of s child code ≡ Some standing → is_waiting s child code ≡ true
waits_of_standing s child code standing is = by (is_waiting s child code) refl
  where
    by : (b : Bool) → is_waiting s child code ≡ b → b ≡ true
    by true e = refl
    by false e = absurd (none_some (sym (rw e refl) ∙ is))
      where
        none_some : None ≡ Some standing → ⊥
        none_some e = cc e

pub waits_same : WaitsAreShown
waits_same s school child standing well there is =
    let waiting = waits_of_standing s child.no school.code standing is in
    let state : preference_state s child.no school.code ≡ codes "waits" = state_waits s well child school.code waiting in
    let same : preference_data s child school.code ≡ shown_as school child (Some standing) (codes "waits") =
    shown s school child there ∙ (λ i. shown_as school child (is i) (state i)) in
    record {
      state_is = ap (get (codes "state")) same ∙ state_there school child (codes "waits") standing;
      position_is = ap (get (codes "position")) same ∙ position_there school child (codes "waits") standing;
      length_is = ap (get (codes "of")) same ∙ of_there school child (codes "waits") standing;
    }
