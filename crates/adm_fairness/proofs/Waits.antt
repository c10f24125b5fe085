-- When a child that waits after a command waited before it, and a place that is held was held.
use Rattle.std.proofs.Common.{◌≡◌, ◌∙◌, ap, sym, refl, cond, Bool, true, false, not, ◌&&◌, ℕ, List, Option, Some, None, inl, inr}
use Rattle.std.specs.Prelude.{bytes_eq, is_some, if◌then◌else◌}
use Rattle.std.specs.List.{take_while}
use Rattle.std.specs.declared.cmp.Ordering.{Ordering}
use Rattle.std.specs.Ordering.{eq_by_cmp}
use Rattle.std.specs.Cmp.{IsTotalOrder}
use Rattle.std.specs.FinMap.{FinMap, get, remove, get-remove, IsAntisymmetric}
use Rattle.std.proofs.lemmas.Bool.{cases_Bool, false≢true, and_parts, and_from, not-true, not_from_false}
use Rattle.std.proofs.lemmas.Slice.Eq.{bytes_eq-Decides}
use Rattle.adm_lists.proofs.Orders.{same_key}
use Rattle.adm_lists.proofs.Each.{any-take_while}
use Rattle.adm_types.specs.Limits.{is_listed}
use Rattle.adm_types.specs.declared.rows.Application.{Application}
use Rattle.adm_types.specs.declared.rows.PlaceRow.{PlaceRow}
use Rattle.adm_types.specs.declared.rows.PlaceState.{PlaceState}
use Rattle.adm_types.specs.declared.rows.PlaceState.TheVariants.{Offered, Accepted, Plan}
use Rattle.adm_match.specs.Market.{Code}
use Rattle.adm_register.specs.State.{State, is_plan}
use Rattle.adm_register.specs.Wanted.{above, has_left, wanted_of}
use Rattle.adm_register.specs.Waits.{is_waiting}
use Rattle.adm_register.specs.WellFormed.{WellFormed, has_first_round, is_unplanned_at}
use Rattle.adm_register.proofs.WaitLemmas.{wanted_parts}
use Rattle.adm_commands.specs.Offered.{offer_at, offer_days}
use Rattle.adm_fairness.proofs.Codes.{until, until_front}
use Rattle.adm_fairness.proofs.Waiters.{waits_by}

-- ---- who waits

-- what a child that waits after a change must have had before
pub record WantedBefore (old new : State) (child : ℕ) (code : Code) : Type 0 where
  pub applications : get new.applications child ≡ get old.applications child
  pub held : has_first_round new.draws ≡ true → has_first_round old.draws ≡ true
  pub left : has_left old.left child code ≡ true → has_left new.left child code ≡ true
  pub higher : (application : Application) → get old.applications child ≡ Some application
      → is_listed (above (get new.places child) application.list) code ≡ true → is_listed (above (get old.places child) application.list) code ≡ true

pub waited : (old new : State) (child : ℕ) (code : Code) → WellFormed old → WantedBefore old new child code → is_waiting new child code ≡ true → is_waiting old child code ≡ true
waited old new child code well before is =
    let it = waits_by new child code is in
    let application = it.application in
    let applied : get old.applications child ≡ Some application = sym before.applications ∙ it.applied in
    let own : application.child ≡ child = (well.base.applications_fit child application applied).own_number in
    let both = and_parts (has_first_round new.draws) (is_listed (wanted_of new application) code) it.waiting in
    let parts = and_parts (is_listed (above (get new.places application.child) application.list) code) (not (has_left new.left application.child code)) (wanted_parts new application code ∙ both.1) in
    let high = before.higher application applied (ap (λ n. is_listed (above (get new.places n) application.list) code) (sym own) ∙ parts.0) in
    let stays : has_left old.left child code ≡ false = elim (cases_Bool (has_left old.left child code)) [
      | inr free ↦ free
      | inl gone ↦ absurd (false≢true (sym (ap (λ n. has_left new.left n code) (sym own) ∙ not-true (has_left new.left application.child code) parts.1) ∙ before.left gone))
    ] in
    let wanted : is_listed (wanted_of old application) code ≡ true =
    sym (wanted_parts old application code)
    ∙ ((λ i. is_listed (above (get old.places (own i)) application.list) code && not (has_left old.left (own i) code))
    ∙ and_from (is_listed (above (get old.places child) application.list) code) (not (has_left old.left child code)) high (not_from_false (has_left old.left child code) stays)) in
    rw applied (and_from (has_first_round old.draws) (is_listed (wanted_of old application) code) (before.held both.0) wanted)

-- ---- rows that are cut

module _ {K V : Type 0} {R : K → K → Ordering} (total : IsTotalOrder R) (same : IsAntisymmetric R) where
  pub other_kept : (rows : FinMap R V) (key q : K) → (q ≡ key → ⊥) → get (remove rows key) q ≡ get rows q
  other_kept rows key q apart = elim (cases_Bool (eq_by_cmp R q key)) [
    | inl tie ↦ absurd (apart (same_key same q key tie))
    | inr miss ↦ get-remove total rows key q ∙ ap (λ b. cond b None (get rows q)) miss
  ]

-- ---- places

-- a place outside plans at a school
pub record HoldsAt (place : Option PlaceRow) (code : Code) : Type 0 where
  pub row : PlaceRow
  pub is : place ≡ Some row
  pub at_code : row.place.school ≡ code
  pub unplanned : is_plan row.place.state ≡ false

pub holds_at : (place : Option PlaceRow) (code : Code) → is_unplanned_at place code ≡ true → HoldsAt place code
holds_at None code held = absurd (false≢true held)
holds_at (Some row) code held =
    let both = and_parts (bytes_eq row.place.school code) (not (is_plan row.place.state)) held in
    record { row = row; is = refl; at_code = (bytes_eq-Decides row.place.school code).0 both.0; unplanned = not-true (is_plan row.place.state) both.1 }

-- an offer is a place outside plans at its school
pub offered_at : (place : Option PlaceRow) (code : Code) → is_some (offer_at place code) ≡ true → is_unplanned_at place code ≡ true
offered_at None code offered = absurd (false≢true offered)
offered_at (Some row) code offered = by (bytes_eq row.place.school code) row.place.state offered
  where
    by : (here : Bool) (state : PlaceState) → is_some (if here then offer_days state else None) ≡ true → (here && not (is_plan state)) ≡ true
    by false state offered = absurd (false≢true offered)
    by true (Offered day reminded) offered = refl
    by true Accepted offered = absurd (false≢true offered)
    by true Plan offered = absurd (false≢true offered)

-- a place at the same school, outside plans too
pub same_above : (row now : PlaceRow) (list : List Code) → row.place.school ≡ now.place.school → above (Some now) list ≡ above (Some row) list
same_above row now list same = ap (λ s. take_while (λ code. not (bytes_eq code s)) list) (sym same)

pub same_held : (row now : PlaceRow) (code : Code) → row.place.school ≡ now.place.school → is_plan row.place.state ≡ false → is_plan now.place.state ≡ false
    → is_unplanned_at (Some now) code ≡ is_unplanned_at (Some row) code
same_held row now code same free free' = λ i. bytes_eq (sym same i) code && not ((free' ∙ sym free) i)

-- a place at a school above the one that was had leaves fewer schools above it
pub fewer_above : (place : Option PlaceRow) (list : List Code) (school code : Code) → is_listed (above place list) school ≡ true → is_listed (until school list) code ≡ true
    → is_listed (above place list) code ≡ true
fewer_above None list school code wants before = among (λ c. not (bytes_eq c school)) list code before
  where
    among : (p : Code → Bool) (xs : List Code) (code : Code) → is_listed (take_while p xs) code ≡ true → is_listed xs code ≡ true
    among p xs code there = elim (cases_Bool (is_listed xs code)) [
      | inl hit ↦ hit
      | inr none ↦ absurd (false≢true (sym (any-take_while (λ other. bytes_eq other code) p xs none) ∙ there))
    ]
fewer_above (Some row) list school code wants before =
    let test : Code → Bool = λ c. not (bytes_eq c row.place.school) in
    let front : is_listed (until school (take_while test list)) code ≡ true = ap (λ cs. is_listed cs code) (until_front test list school wants) ∙ before in
    elim (cases_Bool (is_listed (take_while test list) code)) [
      | inl hit ↦ hit
      | inr none ↦ absurd (false≢true (sym (any-take_while (λ other. bytes_eq other code) (λ c. not (bytes_eq c school)) (take_while test list) none) ∙ front))
    ]
