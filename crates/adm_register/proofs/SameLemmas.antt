-- The tests of rows decide whether they are equal.
use Rattle.std.specs.Prelude.{◌≡◌, ◌↔◌, ◌&&◌, not, nat_eq, ℕ, Bool, true, false, List, Option, Some, None}
use Rattle.std.proofs.Common.{refl, ap, sym, subst, true≢false}
use mathlib.Core.Bool.{beq}
use Rattle.std.specs.Option.{option_eq}
use Rattle.std.specs.Cmp.{unsigned_Decides, booleans_Decides, first_so, second_so}
use Rattle.std.specs.Cmp.Lexicographic.{pointwise, pointwise_decides, bytes_decides}
use Rattle.std.proofs.lemmas.Option.{none-some, same_Some}
use Rattle.std.proofs.lemmas.Bool.{and_parts}
use Rattle.adm_fields.specs.Lists.{Format, child_fields}
use Rattle.adm_fields.specs.Records.{child_of, child_values}
use Rattle.adm_types.specs.declared.rows.Point.{Point}
use Rattle.adm_types.specs.declared.criteria.Criterion.{Criterion}
use Rattle.adm_types.specs.declared.rows.PlaceState.{PlaceState}
use Rattle.adm_types.specs.declared.rows.PlaceState.TheVariants.{Offered, Accepted, Plan}
use Rattle.adm_types.specs.declared.rows.School.{School}
use Rattle.adm_types.specs.declared.rows.Child.{Child}
use Rattle.adm_types.specs.declared.rows.Application.{Application}
use Rattle.adm_types.specs.declared.rows.Row.{Row as ImportRow}
use Rattle.adm_types.specs.declared.rows.PlaceRow.{PlaceRow}
use Rattle.adm_types.specs.declared.rows.LeftPair.{LeftPair}
use Rattle.adm_types.specs.declared.draws.Draw.{Draw}
use Rattle.adm_types.specs.declared.draws.Outcome.{Outcome}
use Rattle.adm_types.specs.declared.draws.Lot.{Lot}
use Rattle.adm_types.specs.contracts.draws.OutcomePartialEq.TheImpl.{eq-value as outcome_eq}
use Rattle.adm_types.specs.contracts.draws.LotPartialEq.TheImpl.{eq-value as lot_eq}
use Rattle.adm_types.specs.contracts.criteria.CriterionPartialEq.TheImpl.{eq-value as criterion_eq}
use Rattle.adm_types.specs.contracts.rows.PlaceStatePartialEq.TheImpl.{eq-value as state_eq}
use Rattle.adm_types.proofs.CriteriaLemmas.{same_criterion}
use Rattle.adm_table.specs.Same.{is_same_school, is_same_child, is_same_application, is_same_place, is_same_left, is_same_draw, is_same_import, is_other}

not_true : {A : Type 0} → false ≡ true → A
not_true e = absurd (true≢false (sym e))

-- a test that is true of each value and itself, and of no others
module _ {A : Type 0} (test : A → A → Bool) where
  decided : ((x y : A) → test x y ≡ true → x ≡ y) → ((x : A) → test x x ≡ true) → (x y : A) → (test x y ≡ true) ↔ (x ≡ y)
  decided equal itself x y = (equal x y, λ e. subst (λ z. test x z ≡ true) e (itself x))

same_nat : (m n : ℕ) → (nat_eq m n ≡ true) ↔ (m ≡ n)
same_nat m n = unsigned_Decides m n

same_codes : (xs ys : List (List ℕ)) → (pointwise (pointwise nat_eq) xs ys ≡ true) ↔ (xs ≡ ys)
same_codes = pointwise_decides bytes_decides

same_option : {A : Type 0} (test : A → A → Bool) → ((x y : A) → (test x y ≡ true) ↔ (x ≡ y)) → (x y : Option A) → (option_eq test x y ≡ true) ↔ (x ≡ y)
same_option test each = decided (option_eq test) equal itself
  where
    equal : (x y : Option _) → option_eq test x y ≡ true → x ≡ y
    equal None None e = refl
    equal None (Some y) e = not_true e
    equal (Some x) None e = not_true e
    equal (Some x) (Some y) e = ap Some ((each x y).0 e)

    itself : (x : Option _) → option_eq test x x ≡ true
    itself None = refl
    itself (Some x) = (each x x).1 refl

same_day : (m n : Option ℕ) → (option_eq nat_eq m n ≡ true) ↔ (m ≡ n)
same_day = same_option nat_eq same_nat

same_choice : (x y : Option (List ℕ)) → (option_eq (pointwise nat_eq) x y ≡ true) ↔ (x ≡ y)
same_choice = same_option (pointwise nat_eq) bytes_decides

same_point : (x y : Point) → ((nat_eq x.east y.east && nat_eq x.north y.north) ≡ true) ↔ (x ≡ y)
same_point = decided (λ x y. nat_eq x.east y.east && nat_eq x.north y.north)
    (λ x y e i. let parts = and_parts _ _ e in record { east = (same_nat x.east y.east).0 parts.0 i; north = (same_nat x.north y.north).0 parts.1 i })
    (λ x i. (same_nat x.east x.east).1 refl i && (same_nat x.north x.north).1 refl i)

same_state : (x y : PlaceState) → (state_eq.it x y ≡ true) ↔ (x ≡ y)
same_state = decided state_eq.it equal itself
  where
    equal : (x y : PlaceState) → state_eq.it x y ≡ true → x ≡ y
    equal (Offered a b) (Offered d e) h = λ i. Offered ((same_nat a d).0 (first_so (nat_eq a d) (option_eq nat_eq b e) h) i) ((same_day b e).0 (second_so (nat_eq a d) (option_eq nat_eq b e) h) i)
    equal (Offered a b) Accepted h = not_true h
    equal (Offered a b) Plan h = not_true h
    equal Accepted (Offered d e) h = not_true h
    equal Accepted Accepted h = refl
    equal Accepted Plan h = not_true h
    equal Plan (Offered d e) h = not_true h
    equal Plan Accepted h = not_true h
    equal Plan Plan h = refl

    itself : (x : PlaceState) → state_eq.it x x ≡ true
    itself (Offered a b) = λ i. (same_nat a a).1 refl i && (same_day b b).1 refl i
    itself Accepted = refl
    itself Plan = refl

same_criteria : (xs ys : List Criterion) → (pointwise criterion_eq.it xs ys ≡ true) ↔ (xs ≡ ys)
same_criteria = pointwise_decides same_criterion

pub same_school : (x y : School) → (is_same_school x y ≡ true) ↔ (x ≡ y)
same_school = decided is_same_school
    (λ x y e.
    let code = and_parts _ _ e in
    let name = and_parts _ _ code.1 in
    let pan = and_parts _ _ name.1 in
    let at = and_parts _ _ pan.1 in
    λ i. record {
      code = (bytes_decides x.code y.code).0 code.0 i;
      name = (bytes_decides x.name y.name).0 name.0 i;
      pan = (same_nat x.pan y.pan).0 pan.0 i;
      at = (same_point x.at y.at).0 at.0 i;
      criteria = (same_criteria x.criteria y.criteria).0 at.1 i;
    })
    (λ x i.
    (bytes_decides x.code x.code).1 refl i
    && ((bytes_decides x.name x.name).1 refl i
    && ((same_nat x.pan x.pan).1 refl i
    && ((same_point x.at x.at).1 refl i
    && (same_criteria x.criteria x.criteria).1 refl i))))

-- a test that is true of two values just where they are equal
record Decider (A : Type 0) : Type 0 where
  test : A → A → Bool
  equal : (x y : A) → test x y ≡ true → x ≡ y
  itself : (x : A) → test x x ≡ true

abbrev decider : {A : Type 0} (test : A → A → Bool) → ((x y : A) → (test x y ≡ true) ↔ (x ≡ y)) → Decider A
decider test decides = record { test = test; equal = λ x y. (decides x y).0; itself = λ x. (decides x x).1 refl }

both_true : (a b : Bool) → a ≡ true → b ≡ true → (a && b) ≡ true
both_true a b p q = λ i. p i && q i

-- two records are equal just where the values of each field are
abbrev deciding : Format Decider Decider
deciding = record {
  field = λ name otherwise kind others. record {
    test = λ x y. kind.test x.0 y.0 && others.test x.1 y.1;
    equal = λ x y e. let parts = and_parts _ _ e in λ i. (kind.equal x.0 y.0 parts.0 i, others.equal x.1 y.1 parts.1 i);
    itself = λ x. both_true _ _ (kind.itself x.0) (others.itself x.1);
  };
  no_more = record { test = λ x y. true; equal = λ x y e. refl; itself = λ x. refl };
  a_child = decider nat_eq same_nat;
  a_code_or_none = decider (option_eq (pointwise nat_eq)) same_choice;
  a_text = decider (pointwise nat_eq) bytes_decides;
  a_number = decider nat_eq same_nat;
  a_truth = decider beq booleans_Decides;
  a_day = decider nat_eq same_nat;
  some_flags = decider nat_eq same_nat;
  some_codes = decider (pointwise (pointwise nat_eq)) same_codes;
}

pub same_child : (x y : Child) → (is_same_child x y ≡ true) ↔ (x ≡ y)
same_child x y =
    let d = child_fields deciding in
    (λ e. ap child_of (d.equal (child_values x) (child_values y) e), λ e. subst (λ z. is_same_child x z ≡ true) e (d.itself (child_values x)))

pub same_application : (x y : Application) → (is_same_application x y ≡ true) ↔ (x ≡ y)
same_application = decided is_same_application
    (λ x y e.
    let child = and_parts _ _ e in
    let day = and_parts _ _ child.1 in
    λ i. record {
      child = (same_nat x.child y.child).0 child.0 i;
      day = (same_nat x.day y.day).0 day.0 i;
      list = (same_codes x.list y.list).0 day.1 i;
    })
    (λ x i. (same_nat x.child x.child).1 refl i && ((same_nat x.day x.day).1 refl i && (same_codes x.list x.list).1 refl i))

pub same_import : (x y : ImportRow) → (is_same_import x y ≡ true) ↔ (x ≡ y)
same_import = decided is_same_import
    (λ x y e.
    let child = and_parts _ _ e in
    let day = and_parts _ _ child.1 in
    λ i. record {
      child = (same_child x.child y.child).0 child.0 i;
      day = (same_nat x.day y.day).0 day.0 i;
      preferences = (same_codes x.preferences y.preferences).0 day.1 i;
    })
    (λ x i. (same_child x.child x.child).1 refl i && ((same_nat x.day x.day).1 refl i && (same_codes x.preferences x.preferences).1 refl i))

pub same_place : (x y : PlaceRow) → (is_same_place x y ≡ true) ↔ (x ≡ y)
same_place = decided is_same_place
    (λ x y e.
    let child = and_parts _ _ e in
    let school = and_parts _ _ child.1 in
    λ i. record {
      child = (same_nat x.child y.child).0 child.0 i;
      place = record { school = (bytes_decides x.place.school y.place.school).0 school.0 i; state = (same_state x.place.state y.place.state).0 school.1 i };
    })
    (λ x i. (same_nat x.child x.child).1 refl i && ((bytes_decides x.place.school x.place.school).1 refl i && (same_state x.place.state x.place.state).1 refl i))

pub same_left : (x y : LeftPair) → (is_same_left x y ≡ true) ↔ (x ≡ y)
same_left = decided is_same_left
    (λ x y e i. let parts = and_parts _ _ e in record { child = (same_nat x.child y.child).0 parts.0 i; school = (bytes_decides x.school y.school).0 parts.1 i })
    (λ x i. (same_nat x.child x.child).1 refl i && (bytes_decides x.school x.school).1 refl i)

same_outcome : (x y : Outcome) → (outcome_eq.it x y ≡ true) ↔ (x ≡ y)
same_outcome = decided outcome_eq.it
    (λ x y e.
    let child = and_parts _ _ e in
    let school = and_parts _ _ child.1 in
    λ i. record { child = (same_nat x.child y.child).0 child.0 i; school = (same_choice x.school y.school).0 school.0 i; fresh = (booleans_Decides x.fresh y.fresh).0 school.1 i })
    (λ x i. (same_nat x.child x.child).1 refl i && ((same_choice x.school x.school).1 refl i && (booleans_Decides x.fresh x.fresh).1 refl i))

same_lot : (x y : Lot) → (lot_eq.it x y ≡ true) ↔ (x ≡ y)
same_lot = decided lot_eq.it
    (λ x y e.
    let school = and_parts _ _ e in
    let child = and_parts _ _ school.1 in
    λ i. record { school = (bytes_decides x.school y.school).0 school.0 i; child = (same_nat x.child y.child).0 child.0 i; lot = (same_nat x.lot y.lot).0 child.1 i })
    (λ x i. (bytes_decides x.school x.school).1 refl i && ((same_nat x.child x.child).1 refl i && (same_nat x.lot x.lot).1 refl i))

pub same_draw : (x y : Draw) → (is_same_draw x y ≡ true) ↔ (x ≡ y)
same_draw = decided is_same_draw
    (λ x y e.
    let number = and_parts _ _ e in
    let round = and_parts _ _ number.1 in
    let school = and_parts _ _ round.1 in
    let day = and_parts _ _ school.1 in
    let outcomes = and_parts _ _ day.1 in
    λ i. record {
      number = (same_nat x.number y.number).0 number.0 i;
      round = (same_nat x.round y.round).0 round.0 i;
      school = (same_choice x.school y.school).0 school.0 i;
      day = (same_nat x.day y.day).0 day.0 i;
      outcomes = (pointwise_decides same_outcome x.outcomes y.outcomes).0 outcomes.0 i;
      lots = (pointwise_decides same_lot x.lots y.lots).0 outcomes.1 i;
    })
    (λ x i.
    (same_nat x.number x.number).1 refl i
    && ((same_nat x.round x.round).1 refl i
    && ((same_choice x.school x.school).1 refl i
    && ((same_nat x.day x.day).1 refl i
    && ((pointwise_decides same_outcome x.outcomes x.outcomes).1 refl i
    && (pointwise_decides same_lot x.lots x.lots).1 refl i)))))

not_both : (b : Bool) → not b ≡ true → b ≡ true → ⊥
not_both true one other = cc
not_both false one other = cc

-- a row is another than the one that is there just where the two are not equal
module _ {V : Type 0} (same : V → V → Bool) (decides : (x y : V) → (same x y ≡ true) ↔ (x ≡ y)) where
  pub other_row : (there : Option V) (row : V) → (is_other same there row ≡ true) ↔ (there ≡ Some row → ⊥)
  other_row None row = (λ other e. none-some row e, λ differs. refl)
  other_row (Some there) row = (
    λ other e. not_both (same there row) other ((decides there row).1 (same_Some there row e)),
    λ differs. elim (same there row) as (λ b. same there row ≡ b → not b ≡ true) [
      | true ↦ λ is. absurd (differs (ap Some ((decides there row).0 is)))
      | false ↦ λ is. refl
    ] refl,
  )
