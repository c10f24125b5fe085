-- A child, its application, its place and the schools that it left are determined by its data.
use Rattle.std.proofs.Common.{◌≡◌, ◌∙◌, ap, sym, refl, ℕ, ◌+◌, ◌≤◌, true, List, [], ◌∷◌, length, Option, Some, None, arith, codes}
use Rattle.std.specs.Prelude.{option_map, ◌&&◌, nat_lt, nat_le}
use Rattle.std.proofs.lemmas.Bool.{and_parts}
use Rattle.std.proofs.lemmas.Bool.Decides.{nat_tests}
use Rattle.std.proofs.lemmas.Option.{none-some, same_Some}
use Rattle.std.specs.FinMap as rows
use Rattle.serde_json.specs.Data.{Data, string, object, put}
use Rattle.serde_json.specs.Find.{get}
use Rattle.serde_json.proofs.OnLiterals.{serde_json_on_literals}
use Rattle.adm_types.specs.Numbers.{first_day, last_day}
use Rattle.adm_types.specs.Limits.{is_from, is_on_map, is_without_repeat, is_child_in_range, is_code_or_none, most_catchments}
use Rattle.adm_types.specs.declared.seasons.Size.TheVariants.{Large}
use Rattle.adm_types.specs.declared.rows.School.{School}
use Rattle.adm_types.specs.declared.rows.Child.{Child}
use Rattle.adm_types.specs.declared.rows.Application.{Application}
use Rattle.adm_types.specs.declared.rows.Place.{Place}
use Rattle.adm_types.specs.declared.rows.PlaceRow.{PlaceRow}
use Rattle.adm_types.specs.declared.rows.PlaceState.{PlaceState}
use Rattle.adm_types.specs.declared.rows.PlaceState.TheVariants.{Offered, Accepted, Plan}
use Rattle.adm_register.specs.State.{State}
use Rattle.adm_register.specs.Waits.{standing_of}
use Rattle.adm_register.specs.WellFormed.{has_days_in_order}
use Rattle.adm_register.specs.declared.standings.Standing.{Standing}
use Rattle.adm_view.specs.Writing.{list_data, day_data}
use Rattle.adm_view.specs.Children.{kind_of, offered_data, reminded_data, day_or_null, place_data, rank_members, wait_members, preference_state, preference_data, application_data, child_data}
use Rattle.adm_view_laws.proofs.ShownChildren.{said, shown}
use Rattle.adm_view_laws.proofs.Values.{same_items, same_number, same_text, other_length, same_truth, same_present, same_day, same_flags}

-- ---- fields

same_said : (xs ys : List (List ℕ)) → said xs ≡ said ys → xs ≡ ys
same_said [] [] e = refl
same_said [] (y ∷ ys) e = absurd (none-some (list_data string (y ∷ ys)) e)
same_said (x ∷ xs) [] e = absurd (none-some (list_data string (x ∷ xs)) (sym e))
same_said (x ∷ xs) (y ∷ ys) e = same_items string string (x ∷ xs) (y ∷ ys) (λ v w i j. same_text v w) (same_Some (list_data string (x ∷ xs)) (list_data string (y ∷ ys)) e)

present_fits : (c : Child) → is_child_in_range c ≡ true → is_code_or_none c.present ≡ true
present_fits c p =
    let home = is_on_map c.home && nat_le (length c.siblings) 6 && is_without_repeat c.siblings in
    let few = home && is_code_or_none c.present && nat_le (length c.catchments) (most_catchments Large) in
    let first = (and_parts few (is_without_repeat c.catchments) p).0 in
    (and_parts home (is_code_or_none c.present) (and_parts (home && is_code_or_none c.present) (nat_le (length c.catchments) (most_catchments Large)) first).0).1

-- the name, home, flags, siblings, present school and catchment schools of a child that is in its limits
pub same_child : (a b : State) (c d : Child) → is_child_in_range c ≡ true → is_child_in_range d ≡ true → nat_lt c.flags 65536 ≡ true → nat_lt d.flags 65536 ≡ true → child_data a c ≡ child_data b d → c ≡ d
same_child a b c d p q few too e =
    let m = shown a c in
    let n = shown b d in
    let no : c.no ≡ d.no = same_number c.no d.no (same_Some _ _ (sym m.child ∙ ap (get (codes "child")) e ∙ n.child)) in
    let name : c.name ≡ d.name = same_text c.name d.name (same_Some _ _ (sym m.name ∙ ap (get (codes "name")) e ∙ n.name)) in
    let east : c.home.east ≡ d.home.east = same_number c.home.east d.home.east (same_Some _ _ (sym m.east ∙ ap (get (codes "east")) e ∙ n.east)) in
    let north : c.home.north ≡ d.home.north = same_number c.home.north d.home.north (same_Some _ _ (sym m.north ∙ ap (get (codes "north")) e ∙ n.north)) in
    let looked_after : c.looked_after ≡ d.looked_after = same_truth c.looked_after d.looked_after (same_Some _ _ (sym m.looked_after ∙ ap (get (codes "looked_after")) e ∙ n.looked_after)) in
    let flags : c.flags ≡ d.flags =
    same_flags c.flags d.flags (grind (arith, nat_tests)) (grind (arith, nat_tests)) (same_Some _ _ (sym m.flags ∙ ap (get (codes "flags")) e ∙ n.flags)) in
    let siblings : c.siblings ≡ d.siblings =
    same_items string string c.siblings d.siblings (λ x y i j. same_text x y) (same_Some _ _ (sym m.siblings ∙ ap (get (codes "siblings")) e ∙ n.siblings)) in
    let present : c.present ≡ d.present =
    same_present c.present d.present (present_fits c p) (present_fits d q) (same_Some _ _ (sym m.present ∙ ap (get (codes "present")) e ∙ n.present)) in
    let catchments : c.catchments ≡ d.catchments = same_said c.catchments d.catchments (sym m.catchments ∙ ap (get (codes "catchments")) e ∙ n.catchments) in
    λ i.
    record { no = no i; name = name i; home = record { east = east i; north = north i }; looked_after = looked_after i; flags = flags i; siblings = siblings i; present = present i; catchments = catchments i }

-- ---- the application

school_in : (state code : Data) (standing : Option Standing) (school : Option School) (c : Child)
    → get (codes "school") (object (put (codes "state") state (put (codes "school") code (wait_members standing (rank_members school c))))) ≡ Some code
unfolding serde_json_on_literals
school_in state code None None c = refl
school_in state code None (Some school) c = refl
school_in state code (Some standing) None c = refl
school_in state code (Some standing) (Some school) c = refl

school_there : (s : State) (c : Child) (code : List ℕ) → get (codes "school") (preference_data s c code) ≡ Some (string code)
school_there s c code = school_in (string (preference_state s c.no code)) (string code) (standing_of s c.no code) (rows.get s.schools code) c

same_preference : (s t : State) (c : Child) (code other : List ℕ) → preference_data s c code ≡ preference_data t c other → code ≡ other
same_preference s t c code other e = same_text code other (same_Some (string code) (string other) (sym (school_there s c code) ∙ ap (get (codes "school")) e ∙ school_there t c other))

-- it is the child's, and its day is one
abbrev pub IsApplicationOf : ℕ → Option Application → Type 0
IsApplicationOf child o = (application : Application) → o ≡ Some application → (application.child ≡ child) × (first_day ≤ application.day)

some_application : (s t : State) (c : Child) (x y : Application) → x.child ≡ c.no → y.child ≡ c.no → first_day ≤ x.day → first_day ≤ y.day
    → application_data s c (Some x) ≡ application_data t c (Some y) → x ≡ y
unfolding serde_json_on_literals
some_application s t c x y own other from too e =
    let child : x.child ≡ y.child = own ∙ sym other in
    let day : x.day ≡ y.day = same_day x.day y.day from too (same_Some (day_data x.day) (day_data y.day) (ap (get (codes "day")) e)) in
    let lists : x.list ≡ y.list =
    same_items (preference_data s c) (preference_data t c) x.list y.list (λ code other i j. same_preference s t c code other)
    (same_Some (list_data (preference_data s c) x.list) (list_data (preference_data t c) y.list) (ap (get (codes "preferences")) e)) in
    λ i. record { child = child i; day = day i; list = lists i }

pub same_application : (s t : State) (c : Child) (o p : Option Application) → IsApplicationOf c.no o → IsApplicationOf c.no p → application_data s c o ≡ application_data t c p → o ≡ p
same_application s t c None None f g e = refl
same_application s t c None (Some y) f g e = cc
same_application s t c (Some x) None f g e = cc
same_application s t c (Some x) (Some y) f g e = ap Some (some_application s t c x y (f x refl).0 (g y refl).0 (f x refl).1 (g y refl).1 e)

-- ---- the place

in_order : (day reminded : ℕ) → has_days_in_order (Offered day (Some reminded)) ≡ true → (first_day ≤ day) × (first_day ≤ reminded)
in_order day reminded h =
    let both = and_parts (is_from first_day last_day day) (is_from (day + 14) last_day reminded) h in
    let start : nat_le first_day day ≡ true = (and_parts (nat_le first_day day) (nat_le day last_day) both.0).0 in
    let later : nat_le (day + 14) reminded ≡ true = (and_parts (nat_le (day + 14) reminded) (nat_le reminded last_day) both.1).0 in
    (grind (arith, nat_tests), grind (arith, nat_tests))

offered_from : (day : ℕ) (reminded : Option ℕ) → has_days_in_order (Offered day reminded) ≡ true → first_day ≤ day
offered_from day None h = let start : nat_le first_day day ≡ true = (and_parts (nat_le first_day day) (nat_le day last_day) h).0 in grind (arith, nat_tests)
offered_from day (Some reminded) h = (in_order day reminded h).0

same_reminder : (day later : ℕ) (x y : Option ℕ) → has_days_in_order (Offered day x) ≡ true → has_days_in_order (Offered later y) ≡ true → day_or_null x ≡ day_or_null y → x ≡ y
same_reminder day later None None p q e = refl
same_reminder day later None (Some y) p q e = cc
same_reminder day later (Some x) None p q e = cc
same_reminder day later (Some x) (Some y) p q e = ap Some (same_day x y (in_order day x p).1 (in_order later y q).1 e)

same_state : (x y : PlaceState) → has_days_in_order x ≡ true → has_days_in_order y ≡ true → kind_of x ≡ kind_of y → offered_data x ≡ offered_data y → reminded_data x ≡ reminded_data y → x ≡ y
same_state (Offered d r) (Offered d₂ r₂) p q kind offered reminded =
    let days : d ≡ d₂ = same_day d d₂ (offered_from d r p) (offered_from d₂ r₂ q) offered in
    let later : r ≡ r₂ = same_reminder d d₂ r r₂ p q reminded in
    λ i. Offered (days i) (later i)
same_state (Offered d r) Accepted p q kind offered reminded = cc
same_state (Offered d r) Plan p q kind offered reminded = cc
same_state Accepted (Offered d r) p q kind offered reminded = cc
same_state Accepted Accepted p q kind offered reminded = refl
same_state Accepted Plan p q kind offered reminded = absurd (other_length (kind_of Accepted) (kind_of Plan) refl kind)
same_state Plan (Offered d r) p q kind offered reminded = cc
same_state Plan Accepted p q kind offered reminded = absurd (other_length (kind_of Plan) (kind_of Accepted) refl kind)
same_state Plan Plan p q kind offered reminded = refl

-- it is the child's, and its days are days
abbrev pub IsPlaceOf : ℕ → Option PlaceRow → Type 0
IsPlaceOf child o = (row : PlaceRow) → o ≡ Some row → (row.child ≡ child) × (has_days_in_order row.place.state ≡ true)

some_place : (x y : Place) → has_days_in_order x.state ≡ true → has_days_in_order y.state ≡ true → place_data (Some x) ≡ place_data (Some y) → x ≡ y
unfolding serde_json_on_literals
some_place x y p q e =
    let school : x.school ≡ y.school = same_text x.school y.school (same_Some (string x.school) (string y.school) (ap (get (codes "school")) e)) in
    let kind : kind_of x.state ≡ kind_of y.state =
    same_text (kind_of x.state) (kind_of y.state) (same_Some (string (kind_of x.state)) (string (kind_of y.state)) (ap (get (codes "kind")) e)) in
    let offered : offered_data x.state ≡ offered_data y.state = same_Some (offered_data x.state) (offered_data y.state) (ap (get (codes "offered")) e) in
    let reminded : reminded_data x.state ≡ reminded_data y.state = same_Some (reminded_data x.state) (reminded_data y.state) (ap (get (codes "reminded")) e) in
    let states : x.state ≡ y.state = same_state x.state y.state p q kind offered reminded in
    λ i. record { school = school i; state = states i }

pub same_place : (child : ℕ) (o p : Option PlaceRow) → IsPlaceOf child o → IsPlaceOf child p → place_data (option_map (λ (row : PlaceRow). row.place) o) ≡ place_data (option_map (λ (row : PlaceRow). row.place) p) → o ≡ p
same_place child None None f g e = refl
same_place child None (Some y) f g e = cc
same_place child (Some x) None f g e = cc
same_place child (Some x) (Some y) f g e =
    let own : x.child ≡ y.child = (f x refl).0 ∙ sym (g y refl).0 in
    let place : x.place ≡ y.place = some_place x.place y.place (f x refl).1 (g y refl).1 e in
    λ i. Some (record { child = own i; place = place i })
