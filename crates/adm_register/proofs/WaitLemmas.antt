-- Who waits at a school, step by step, and what is known of each.
use Rattle.std.proofs.Common.{◌≡◌, ◌∙◌, ap, sym, subst, refl, cond, ℕ, Bool, true, false, List, [], ◌∷◌, map, Option, Some, None, inl, inr}
use Rattle.std.specs.Prelude.{IfSome, All, not, ◌&&◌, ◌||◌, nat_eq, filter}
use Rattle.std.specs.List.Sorted.{IsStrictlySortedBy}
use Rattle.std.specs.Ordering.{nat_cmp}
use Rattle.std.specs.Cmp.{nat_cmp_total}
use Rattle.std.specs.Cmp.Lexicographic.{pointwise, bytes_decides}
use Rattle.std.specs.List.{prefix_len}
use Rattle.std.specs.FinMap.{get, values, nat_cmp-IsAntisymmetric}
use Rattle.std.proofs.lemmas.Bool.{false≢true, cases_Bool, and_parts, not-true}
use Rattle.std.proofs.lemmas.Option.{none-some}
use Rattle.std.proofs.lemmas.List.Elements.{All-from_recursion}
use Rattle.std.proofs.Math.Bool.{and-false}
use Rattle.adm_lists.proofs.Members.{In, in_all, from_filter, from_filter_map, from_take}
use Rattle.adm_lists.proofs.Rising.{sorted_filter_map}
use Rattle.adm_lists.proofs.Maps.{entries_in_order}
use Rattle.adm_types.specs.Limits.{is_listed, is_child_in_range}
use Rattle.adm_types.specs.declared.rows.Child.{Child}
use Rattle.adm_types.specs.declared.rows.Application.{Application}
use Rattle.adm_types.specs.declared.rows.PlaceRow.{PlaceRow}
use Rattle.adm_register.specs.State.{State, is_plan}
use Rattle.adm_register.specs.WellFormed.{WellFormed, has_first_round, is_unplanned_at}
use Rattle.adm_register.specs.Wanted.{above, has_left, wanted_of}
use Rattle.adm_register.specs.Waits.{waits, waiting_child, waiting_at}
use Rattle.adm_register.proofs.SameRows.{entries_at_own_keys}
use Rattle.adm_register.proofs.ListsKept.{own_apart}
use Rattle.adm_register.proofs.RoundLemmas.{listed_in, in_listed}
use Rattle.adm_register.proofs.RoundKeys.{from_values}

-- ---- the test, one part after another

-- a code is among those that pass where it is among all, and passes
listed-filter : (p : List ℕ → Bool) (codes : List (List ℕ)) (code : List ℕ) → is_listed (filter p codes) code ≡ (is_listed codes code && p code)
listed-filter p [] code = refl
listed-filter p (other ∷ codes) code = elim (cases_Bool (pointwise nat_eq other code)) [
  | inl here ↦
      let same : other ≡ code = (bytes_decides other code).0 here in
      elim (p other) as (λ b. p other ≡ b → is_listed (cond b (other ∷ filter p codes) (filter p codes)) code ≡ ((pointwise nat_eq other code || is_listed codes code) && p code)) [
        | true ↦ λ passes. (λ i. here i || is_listed (filter p codes) code) ∙ sym (λ i. (here i || is_listed codes code) && (ap p (sym same) ∙ passes) i)
        | false ↦ λ fails.
            let out : p code ≡ false = ap p (sym same) ∙ fails in
            listed-filter p codes code ∙ ap (λ b. is_listed codes code && b) out ∙ and-false (is_listed codes code) ∙ sym (λ i. (here i || is_listed codes code) && out i)
      ] refl
  | inr apart ↦
      elim (p other) as (λ b. is_listed (cond b (other ∷ filter p codes) (filter p codes)) code ≡ ((pointwise nat_eq other code || is_listed codes code) && p code)) [
        | true ↦ (λ i. apart i || is_listed (filter p codes) code) ∙ listed-filter p codes code ∙ sym (λ i. (apart i || is_listed codes code) && p code)
        | false ↦ listed-filter p codes code ∙ sym (λ i. (apart i || is_listed codes code) && p code)
      ]
]

-- the schools above a place are on the list
pub on_list : (o : Option PlaceRow) (list : List (List ℕ)) (code : List ℕ) → In code (above o list) → In code list
on_list None list code at = at
on_list (Some row) list code at = from_take (prefix_len (λ other. not (pointwise nat_eq other row.place.school)) list) list code at

module _ (old : State) (well : WellFormed old) where
  -- a school that is wanted is on the list, and its child has not left it
  pub wants_is : (application : Application) (code : List ℕ) → is_listed (wanted_of old application) code ≡ true
      → (is_listed application.list code ≡ true) × (has_left old.left application.child code ≡ false)
  wants_is application code wanted =
      let both = from_filter (λ other. not (has_left old.left application.child other)) (above (get old.places application.child) application.list) code
      (listed_in (wanted_of old application) code wanted) in
      (in_listed application.list code (on_list (get old.places application.child) application.list code both.0), not-true (has_left old.left application.child code) both.1)

-- what is above a place is on the list
on_list_above : (place : Option PlaceRow) (list : List (List ℕ)) (code : List ℕ) → is_listed (above place list) code ≡ true → is_listed list code ≡ true
on_list_above place list code wanted = in_listed list code (on_list place list code (listed_in (above place list) code wanted))

-- what is wanted is above the place and not left
pub wanted_parts : (s : State) (application : Application) (code : List ℕ)
    → (is_listed (above (get s.places application.child) application.list) code && not (has_left s.left application.child code)) ≡ is_listed (wanted_of s application) code
wanted_parts s application code =
    sym (listed-filter (λ other. not (has_left s.left application.child other)) (above (get s.places application.child) application.list) code)

-- nobody waits at a school that is not on the list
pub unlisted : (s : State) (application : Application) (code : List ℕ) → is_listed application.list code ≡ false → false ≡ waits s application code
unlisted s application code none =
    let place = get s.places application.child in
    let apart : is_listed (above place application.list) code ≡ false = elim (cases_Bool (is_listed (above place application.list) code)) [
      | inl higher ↦ absurd (false≢true (sym none ∙ on_list_above place application.list code higher))
      | inr lower ↦ lower
    ] in
    sym (ap (λ b. has_first_round s.draws && b) (sym (wanted_parts s application code) ∙ ap (λ b. b && not (has_left s.left application.child code)) apart) ∙ and-false (has_first_round s.draws))

-- ---- what is known of who waits

-- there was a round, the school is on the list, the child has not left it, and has no place there
pub record IsWaiting (s : State) (application : Application) (code : List ℕ) : Type 0 where
  pub held : has_first_round s.draws ≡ true
  pub lists : is_listed application.list code ≡ true
  pub not_left : has_left s.left application.child code ≡ false
  pub no_place : is_unplanned_at (get s.places application.child) code ≡ false

-- who has a place at a school does not want it
apart_from : (p : List ℕ → Bool) (place : Option PlaceRow) (list : List (List ℕ)) (code : List ℕ) → is_listed (filter p (above place list)) code ≡ true → is_unplanned_at place code ≡ false
apart_from p None list code wanted = refl
apart_from p (Some row) list code wanted =
    by (pointwise nat_eq row.place.school code) (is_plan row.place.state) (own_apart p (Some row) list) refl
  where
    by : (here plan : Bool) → IfSome (cond plan None (Some row.place.school)) (λ own. is_listed (filter p (above (Some row) list)) own ≡ false)
        → pointwise nat_eq row.place.school code ≡ here → (here && not plan) ≡ false
    by false plan apart at = refl
    by true true apart at = refl
    by true false apart at = absurd (false≢true (sym apart ∙ ap (is_listed (filter p (above (Some row) list))) ((bytes_decides row.place.school code).0 at) ∙ wanted))

pub waits_is : (s : State) → WellFormed s → (application : Application) (code : List ℕ) → waits s application code ≡ true → IsWaiting s application code
waits_is s well application code waiting =
    let both = and_parts (has_first_round s.draws) (is_listed (wanted_of s application) code) waiting in
    let wants = wants_is s well application code both.1 in
    record {
      held = both.0;
      lists = wants.0;
      not_left = wants.1;
      no_place = apart_from (λ other. not (has_left s.left application.child other)) (get s.places application.child) application.list code both.1;
    }

-- ---- who waits, as a list

pub chosen : (b : Bool) (o : Option Child) (child : Child) → cond b o None ≡ Some child → (b ≡ true) × (o ≡ Some child)
chosen true o child is = (refl, is)
chosen false o child is = absurd (none-some child is)

-- a child that waits is that of an application of its number
pub record IsWaiter (s : State) (code : List ℕ) (child : Child) : Type 0 where
  pub application : Application
  pub applied : get s.applications child.no ≡ Some application
  pub numbered : application.child ≡ child.no
  pub there : get s.children child.no ≡ Some child
  pub waiting : waits s application code ≡ true

module _ (s : State) (well : WellFormed s) (code : List ℕ) where
  pub waiter_is : (child : Child) → In child (waiting_at s code) → IsWaiter s code child
  waiter_is child at =
      let found = from_filter_map (waiting_child s code) (values s.applications) child at in
      let application = found.0 in
      let parts = chosen (waits s application code) (get s.children application.child) child found.2 in
      let there = from_values nat_cmp_total nat_cmp-IsAntisymmetric s.applications (λ (a : Application). a.child)
      (λ number row here. (well.base.applications_fit number row here).own_number) application found.1 in
      let number : child.no ≡ application.child = (well.base.children_fit application.child child parts.1).own_number in
      record {
        application = application;
        applied = ap (get s.applications) number ∙ there;
        numbered = sym number;
        there = ap (get s.children) number ∙ parts.1;
        waiting = parts.0;
      }

  -- they come in the order of their numbers
  pub waiters_rise : IsStrictlySortedBy nat_cmp (map (λ (c : Child). c.no) (waiting_at s code))
  waiters_rise =
      let own = entries_at_own_keys nat_cmp_total nat_cmp-IsAntisymmetric (λ (a : Application). a.child) s.applications (λ number a there. (well.base.applications_fit number a there).own_number) in
      sorted_filter_map nat_cmp (λ (a : Application). a.child) (λ (c : Child). c.no) (waiting_child s code)
      (λ application child given. (well.base.children_fit application.child child (chosen (waits s application code) (get s.children application.child) child given).1).own_number)
      (values s.applications) (subst (IsStrictlySortedBy nat_cmp) (sym own) (entries_in_order s.applications))

  -- and are in their limits
  pub waiters_fit : (children : List Child) → children ≡ waiting_at s code → All (λ child. is_child_in_range child ≡ true) children
  waiters_fit children are =
      subst (All (λ child. is_child_in_range child ≡ true)) (sym are)
      (All-from_recursion (λ child. is_child_in_range child ≡ true) (waiting_at s code) (in_all (λ child. is_child_in_range child ≡ true) (waiting_at s code) (λ child at.
      (well.base.children_fit child.no child (waiter_is child at).there).in_range)))
