-- What commands of schools, children, applications and places do to envy.
use Rattle.std.proofs.Common.{◌≡◌, ◌∙◌, ap, sym, refl, cond, true, false, not, ◌&&◌, ℕ, List, [], ◌∷◌, Option, Some, None, inl, inr}
use Rattle.std.specs.Prelude.{◌⊎◌, bytes_eq, is_some}
use Rattle.std.specs.Cmp.{nat_cmp_total}
use Rattle.std.specs.Cmp.Lexicographic.{nat_list_cmp_total}
use Rattle.std.specs.FinMap.{get, insert, remove, contains_key, nat_cmp-IsAntisymmetric}
use Rattle.std.proofs.Math.Bool.{and-false}
use Rattle.std.proofs.lemmas.Bool.{cases_Bool, false≢true, and_parts, not-true}
use Rattle.std.proofs.lemmas.Option.{none-some}
use Rattle.std.proofs.lemmas.Slice.Eq.{bytes_eq-Decides}
use Rattle.adm_lists.proofs.Maps.{contains_key-insert}
use Rattle.adm_types.specs.Limits.{is_listed}
use Rattle.adm_types.specs.declared.rows.School.{School}
use Rattle.adm_types.specs.declared.rows.Child.{Child}
use Rattle.adm_types.specs.declared.rows.Application.{Application}
use Rattle.adm_types.specs.declared.rows.PlaceRow.{PlaceRow}
use Rattle.adm_types.specs.declared.rows.PlaceState.TheVariants.{Offered, Accepted, Plan}
use Rattle.adm_types.specs.declared.commands.Refusal.TheVariants as refusal
use Rattle.adm_rank.specs.Class.{class_of}
use Rattle.adm_match.specs.Market.{Code}
use Rattle.adm_register.specs.State.{State, is_plan}
use Rattle.adm_register.specs.Change.{after, no_change}
use Rattle.adm_register.specs.Wanted.{above}
use Rattle.adm_register.specs.Waits.{is_waiting}
use Rattle.adm_register.specs.WellFormed.{WellFormed, has_first_round, lists_school, is_unplanned_at}
use Rattle.adm_register.proofs.Maps.{code_cmp-IsAntisymmetric, left_cmp-total}
use Rattle.adm_commands.specs.Commands.AddSchool as add_school
use Rattle.adm_commands.specs.Commands.AddChild as add_child
use Rattle.adm_commands.specs.Commands.RaisePan as raise_pan
use Rattle.adm_commands.specs.Commands.NamePlan as name_plan
use Rattle.adm_commands.specs.Commands.Apply as apply
use Rattle.adm_commands.specs.Commands.Accept as accept
use Rattle.adm_commands.specs.Commands.Decline as decline
use Rattle.adm_commands.specs.Commands.Remind as remind
use Rattle.adm_commands.specs.Commands.LeaveList as leave_list
use Rattle.adm_commands.specs.Offered.{offer_at}
use Rattle.adm_commands.specs.Tests.{first_failing}
use Rattle.adm_commands.proofs.Passed.{passed}
use Rattle.adm_commands.proofs.PutAgain.{get-insert_same, gone}
use Rattle.adm_fairness.specs.Rounds.{has_place_at}
use Rattle.adm_fairness.specs.Code.{is_ahead_by, is_ahead_at}
use Rattle.adm_fairness.specs.Season.{Envies}
use Rattle.adm_fairness.proofs.Ranks.{ahead_of_itself}
use Rattle.adm_fairness.proofs.Waiters.{waits_by, waiter_there}
use Rattle.adm_fairness.proofs.Fills.{same_or_other, other_stays}
use Rattle.adm_fairness.proofs.Waits.{waited, other_kept, HoldsAt, holds_at, offered_at, same_above, same_held}

-- nobody is ahead of itself
pub not_itself : (s : State) (code : Code) (child : ℕ) → is_ahead_at s code child child ≡ false
not_itself s code child = by (get s.schools code) (get s.children child)
  where
    by : (school : Option School) (row : Option Child) → is_ahead_by school row row ≡ false
    by None row = refl
    by (Some school) None = refl
    by (Some school) (Some row) = ahead_of_itself school row

-- two codes are the same or not
same_code_or_other : (a b : Code) → (a ≡ b) ⊎ (a ≡ b → ⊥)
same_code_or_other a b = elim (cases_Bool (bytes_eq a b)) [
  | inl same ↦ inl ((bytes_eq-Decides a b).0 same)
  | inr differs ↦ inr (λ e. false≢true (sym differs ∙ (bytes_eq-Decides a b).1 e))
]

-- the admission number of a school does not say who is ahead
same_with_pan : (school : School) (pan : ℕ) (one other : Option Child) → is_ahead_by (Some (record school { pan = pan })) one other ≡ is_ahead_by (Some school) one other
unfolding class_of
same_with_pan school pan None other = refl
same_with_pan school pan (Some one) None = refl
same_with_pan school pan (Some one) (Some other) = refl

module _ (old : State) (well : WellFormed old) (child other : ℕ) (code : Code) where
  abbrev pub Before : State → Type 0
  Before next = Envies next child other code → Envies old child other code

  held_school : has_place_at old code other ≡ true → contains_key old.schools code ≡ true
  held_school held =
      let it = holds_at (get old.places other) code held in
      ap (contains_key old.schools) (sym it.at_code) ∙ (well.places.each other it.row it.is).school

  pub held_child : has_place_at old code other ≡ true → contains_key old.children other ≡ true
  held_child held =
      let it = holds_at (get old.places other) code held in
      let fits = well.places.each other it.row it.is in
      ap (contains_key old.children) (sym fits.own_number) ∙ fits.child

  waiting_child : is_waiting old child code ≡ true → contains_key old.children child ≡ true
  waiting_child waiting = ap is_some (waiter_there old well code child waiting).3

  -- a place outside plans is there after a round alone
  pub had_round : has_place_at old code other ≡ true → has_first_round old.draws ≡ true
  had_round held =
      let it = holds_at (get old.places other) code held in
      let fits = well.places.each other it.row it.is in
      (and_parts (has_first_round old.draws) (lists_school (get old.applications it.row.child) it.row.place.school)
      (sym (ap (λ b. cond b (not (is_some (get old.applications it.row.child))) (has_first_round old.draws && lists_school (get old.applications it.row.child) it.row.place.school)) it.unplanned)
      ∙ fits.entitled)).0

  -- ---- schools and children

  pub add_school_case : (school : School) → first_failing (add_school.tests old school) ≡ None → Before (after old (add_school.change_of school))
  unfolding add_school.tests add_school.change_of
  add_school_case school passes e =
      let new_code = passed (add_school.tests old school) passes refusal.SchoolKnown in
      let apart : code ≡ school.code → ⊥ = λ same. false≢true (sym (not-true _ new_code) ∙ (ap (contains_key old.schools) (sym same) ∙ held_school e.held)) in
      let there : get (insert old.schools school.code school) code ≡ get old.schools code = other_stays nat_list_cmp_total code_cmp-IsAntisymmetric old.schools school.code school code apart in
      record { waits = e.waits; held = e.held; ahead = (λ i. is_ahead_by (sym there i) (get old.children child) (get old.children other)) ∙ e.ahead }

  pub raise_case : (school : Code) (pan : ℕ) → first_failing (raise_pan.tests old school pan) ≡ None → Before (after old (raise_pan.change_of old school pan))
  unfolding raise_pan.tests raise_pan.change_of
  raise_case school pan passes = by (get old.schools school) refl
    where
      by : (found : Option School) → get old.schools school ≡ found → Before (after old (record no_change { schools = raise_pan.with_pan found pan }))
      by None at e = record { waits = e.waits; held = e.held; ahead = e.ahead }
      by (Some row) at e =
          let own : row.code ≡ school = (well.base.schools_fit school row at).own_code in
          let now : School = record row { pan = pan } in
          record {
            waits = e.waits;
            held = e.held;
            ahead = elim (same_code_or_other code row.code) [
              | inr apart ↦
                  let there : get (insert old.schools row.code now) code ≡ get old.schools code = other_stays nat_list_cmp_total code_cmp-IsAntisymmetric old.schools row.code now code apart in
                  (λ i. is_ahead_by (sym there i) (get old.children child) (get old.children other)) ∙ e.ahead
              | inl same ↦
                  let was : get old.schools code ≡ Some row = ap (get old.schools) (same ∙ own) ∙ at in
                  let is : get (insert old.schools row.code now) code ≡ Some now = ap (get (insert old.schools row.code now)) same ∙ get-insert_same nat_list_cmp_total old.schools row.code now in
                  (λ i. is_ahead_by (was i) (get old.children child) (get old.children other))
                  ∙ (sym (same_with_pan row pan (get old.children child) (get old.children other))
                  ∙ ((λ i. is_ahead_by (sym is i) (get old.children child) (get old.children other)) ∙ e.ahead))
            ];
          }

  -- another child's data stay
  data_stays : (row : Child) → (child ≡ row.no → ⊥) → (other ≡ row.no → ⊥)
      → is_ahead_by (get old.schools code) (get (insert old.children row.no row) child) (get (insert old.children row.no row) other) ≡ is_ahead_at old code child other
  data_stays row apart apart' = λ i. is_ahead_by (get old.schools code)
      (other_stays nat_cmp_total nat_cmp-IsAntisymmetric old.children row.no row child apart i) (other_stays nat_cmp_total nat_cmp-IsAntisymmetric old.children row.no row other apart' i)

  pub add_child_case : (row : Child) → first_failing (add_child.tests old row) ≡ None → Before (after old (record no_change { children = row ∷ [] }))
  unfolding add_child.tests
  add_child_case row passes e =
      let unknown = passed (add_child.tests old row) passes refusal.ChildKnown in
      let apart : (number : ℕ) → contains_key old.children number ≡ true → number ≡ row.no → ⊥ = λ number there same. false≢true (sym (not-true _ unknown) ∙ (ap (contains_key old.children) (sym same) ∙ there)) in
      record {
        waits = e.waits;
        held = e.held;
        ahead = sym (data_stays row (apart child (waiting_child e.waits)) (apart other (held_child e.held))) ∙ e.ahead;
      }

  pub amend_case : (row : Child) → Envies (after old (record no_change { children = row ∷ [] })) child other code → Envies old child other code ⊎ ((row.no ≡ child) ⊎ (row.no ≡ other))
  amend_case row e = elim (same_or_other child row.no) [
    | inl mine ↦ inr (inl (sym mine))
    | inr apart ↦ elim (same_or_other other row.no) [
      | inl its ↦ inr (inr (sym its))
      | inr apart' ↦ inl (record { waits = e.waits; held = e.held; ahead = sym (data_stays row apart apart') ∙ e.ahead })
    ]
  ]

  -- ---- applications

  pub apply_case : (application : Application) → Envies (after old (apply.change_of application)) child other code → Envies old child other code ⊎ (application.child ≡ child)
  unfolding apply.change_of
  apply_case application e = elim (same_or_other child application.child) [
    | inl mine ↦ inr (sym mine)
    | inr apart ↦ inl (record {
      waits = waited old (after old (apply.change_of application)) child code well (record {
        applications = other_stays nat_cmp_total nat_cmp-IsAntisymmetric old.applications application.child application child apart;
        held = λ h. h;
        left = λ h. h;
        higher = λ a at h. h;
      }) e.waits;
      held = e.held;
      ahead = e.ahead;
    })
  ]

  -- ---- places

  -- the child's other rows are as they were
  module _ (next : State) (apps : next.applications ≡ old.applications) (draws : next.draws ≡ old.draws) where
    unmoved : ((pair : _) → contains_key old.left pair ≡ true → contains_key next.left pair ≡ true) → ((list : List Code) → above (get next.places child) list ≡ above (get old.places child) list)
        → is_waiting next child code ≡ true → is_waiting old child code ≡ true
    unmoved grows same waiting = waited old next child code well (record {
      applications = ap (λ m. get m child) apps;
      held = λ h. ap has_first_round (sym draws) ∙ h;
      left = grows (record { child = child; school = code });
      higher = λ a at h. ap (λ cs. is_listed cs code) (sym (same a.list)) ∙ h;
    }) waiting

  -- a place is written at a school at which the child has one outside plans
  module _ (number : ℕ) (school : Code) (held : is_unplanned_at (get old.places number) school ≡ true) (now : PlaceRow) (at_school : now.place.school ≡ school) (unplanned : is_plan now.place.state ≡ false) where
    it : HoldsAt (get old.places number) school
    it = holds_at (get old.places number) school held

    still_above : (list : List Code) → above (get (insert old.places number now) child) list ≡ above (get old.places child) list
    still_above list = elim (same_or_other child number) [
      | inr apart ↦ ap (λ p. above p list) (other_stays nat_cmp_total nat_cmp-IsAntisymmetric old.places number now child apart)
      | inl same ↦
          ap (λ n. above (get (insert old.places number now) n) list) same
          ∙ (ap (λ p. above p list) (get-insert_same nat_cmp_total old.places number now)
          ∙ (same_above it.row now list (it.at_code ∙ sym at_school)
          ∙ (ap (λ p. above p list) (sym it.is) ∙ ap (λ n. above (get old.places n) list) (sym same))))
    ]

    pub still_held : is_unplanned_at (get (insert old.places number now) other) code ≡ is_unplanned_at (get old.places other) code
    still_held = elim (same_or_other other number) [
      | inr apart ↦ ap (λ p. is_unplanned_at p code) (other_stays nat_cmp_total nat_cmp-IsAntisymmetric old.places number now other apart)
      | inl same ↦
          ap (λ n. is_unplanned_at (get (insert old.places number now) n) code) same
          ∙ (ap (λ p. is_unplanned_at p code) (get-insert_same nat_cmp_total old.places number now)
          ∙ (same_held it.row now code (it.at_code ∙ sym at_school) it.unplanned unplanned
          ∙ (ap (λ p. is_unplanned_at p code) (sym it.is) ∙ ap (λ n. is_unplanned_at (get old.places n) code) (sym same))))
    ]

  pub accept_case : (number : ℕ) (school : Code) → first_failing (accept.tests old number school) ≡ None → Before (after old (accept.change_of number school))
  unfolding accept.tests accept.change_of
  accept_case number school passes e =
      let held = offered_at (get old.places number) school (passed (accept.tests old number school) passes refusal.NotOffered) in
      let now : PlaceRow = record { child = number; place = record { school = school; state = Accepted } } in
      record {
        waits = unmoved (after old (accept.change_of number school)) refl refl (λ pair h. h) (still_above number school held now refl refl) e.waits;
        held = sym (still_held number school held now refl refl) ∙ e.held;
        ahead = e.ahead;
      }

  pub remind_case : (number : ℕ) (school : Code) (day : ℕ) → first_failing (remind.tests old number school day) ≡ None → Before (after old (remind.change_of old number school day))
  unfolding remind.tests remind.change_of
  remind_case number school day passes = by (offer_at (get old.places number) school)
    where
      held : is_unplanned_at (get old.places number) school ≡ true
      held = offered_at (get old.places number) school (passed (remind.tests old number school day) passes refusal.NotOffered)

      by : (offer : Option (ℕ × Option ℕ)) → Before (after old (remind.reminded_on number school day offer))
      by None e = record { waits = e.waits; held = e.held; ahead = e.ahead }
      by (Some offer) e =
          let now : PlaceRow = record { child = number; place = record { school = school; state = Offered offer.0 (Some day) } } in
          record {
            waits = unmoved (after old (remind.reminded_on number school day (Some offer))) refl refl (λ pair h. h) (still_above number school held now refl refl) e.waits;
            held = sym (still_held number school held now refl refl) ∙ e.held;
            ahead = e.ahead;
          }

  -- a place ends, and its school is left
  pub end_case : (number : ℕ) (school : Code) → Envies (after old (decline.change_of number school)) child other code → Envies old child other code ⊎ (number ≡ child)
  unfolding decline.change_of
  end_case number school e = elim (same_or_other child number) [
    | inl mine ↦ inr (sym mine)
    | inr apart ↦ inl (record {
      waits = unmoved (after old (decline.change_of number school)) refl refl
          (λ pair h. contains_key-insert left_cmp-total old.left (record { child = number; school = school }) (record { child = number; school = school }) pair h)
          (λ list. ap (λ p. above p list) (other_kept nat_cmp_total nat_cmp-IsAntisymmetric old.places number child apart)) e.waits;
      held = elim (same_or_other other number) [
        | inr apart' ↦ ap (λ p. is_unplanned_at p code) (sym (other_kept nat_cmp_total nat_cmp-IsAntisymmetric old.places number other apart')) ∙ e.held
        | inl same ↦ absurd (false≢true (ap (λ p. is_unplanned_at p code) (sym (gone nat_cmp_total old.places number)) ∙ (ap (λ n. is_unplanned_at (get (remove old.places number) n) code) (sym same) ∙ e.held)))
      ];
      ahead = e.ahead;
    })
  ]

  pub leave_case : (number : ℕ) (school : Code) → Before (after old (leave_list.change_of number school))
  unfolding leave_list.change_of
  leave_case number school e = record {
    waits = unmoved (after old (leave_list.change_of number school)) refl refl
        (λ pair h. contains_key-insert left_cmp-total old.left (record { child = number; school = school }) (record { child = number; school = school }) pair h) (λ list. refl) e.waits;
    held = e.held;
    ahead = e.ahead;
  }

  pub plan_case : (number : ℕ) (school : Code) → Before (after old (name_plan.change_of number school))
  unfolding name_plan.change_of
  plan_case number school e = elim (same_or_other child number) [
    | inl same ↦ absurd (
        let it = waits_by (after old (name_plan.change_of number school)) child code e.waits in
        none-some it.application (sym (ap (get (remove old.applications number)) same ∙ gone nat_cmp_total old.applications number) ∙ it.applied))
    | inr apart ↦ record {
      waits = waited old (after old (name_plan.change_of number school)) child code well (record {
        applications = other_kept nat_cmp_total nat_cmp-IsAntisymmetric old.applications number child apart;
        held = λ h. h;
        left = λ h. h;
        higher = λ a at h. ap (λ p. is_listed (above p a.list) code) (sym (other_stays nat_cmp_total nat_cmp-IsAntisymmetric old.places number planned child apart)) ∙ h;
      }) e.waits;
      held = elim (same_or_other other number) [
        | inr apart' ↦ ap (λ p. is_unplanned_at p code) (sym (other_stays nat_cmp_total nat_cmp-IsAntisymmetric old.places number planned other apart')) ∙ e.held
        | inl same' ↦ absurd (false≢true (sym (and-false (bytes_eq school code)) ∙ (ap (λ p. is_unplanned_at p code) (sym (get-insert_same nat_cmp_total old.places number planned))
            ∙ (ap (λ n. is_unplanned_at (get (insert old.places number planned) n) code) (sym same') ∙ e.held))))
      ];
      ahead = e.ahead;
    }
  ]
    where
      planned : PlaceRow
      planned = record { child = number; place = record { school = school; state = Plan } }
