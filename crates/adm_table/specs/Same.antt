-- Tests that decide whether two rows are the same, and which rows a table has not.
use Rattle.std.specs.Prelude.{◌&&◌, not, nat_eq, Bool, true, Option, Some, None}
use mathlib.Core.Bool.{beq}
use Rattle.std.specs.Option.{option_eq}
use Rattle.std.specs.Cmp.Lexicographic.{pointwise}
use Rattle.adm_fields.specs.Lists.{Format, child_fields}
use Rattle.adm_fields.specs.Records.{child_values}
use Rattle.adm_types.specs.declared.rows.School.{School}
use Rattle.adm_types.specs.declared.rows.Child.{Child}
use Rattle.adm_types.specs.declared.rows.Application.{Application}
use Rattle.adm_types.specs.declared.rows.Row.{Row as ImportRow}
use Rattle.adm_types.specs.declared.rows.PlaceRow.{PlaceRow}
use Rattle.adm_types.specs.declared.rows.LeftPair.{LeftPair}
use Rattle.adm_types.specs.declared.draws.Draw.{Draw}
use Rattle.adm_types.specs.contracts.draws.OutcomePartialEq.TheImpl.{eq-value as outcome_eq}
use Rattle.adm_types.specs.contracts.draws.LotPartialEq.TheImpl.{eq-value as lot_eq}
use Rattle.adm_types.specs.contracts.criteria.CriterionPartialEq.TheImpl.{eq-value as criterion_eq}
use Rattle.adm_types.specs.contracts.rows.PlaceStatePartialEq.TheImpl.{eq-value as state_eq}

-- whether two schools are equal in all their values
abbrev pub is_same_school : School → School → Bool
is_same_school x y =
    pointwise nat_eq x.code y.code && (pointwise nat_eq x.name y.name && (nat_eq x.pan y.pan && ((nat_eq x.at.east y.at.east && nat_eq x.at.north y.at.north) && pointwise criterion_eq.it x.criteria y.criteria)))

-- two records are the same where the values of each field are
abbrev pub equality : Format (λ A. A → A → Bool) (λ A. A → A → Bool)
equality = record {
  field = λ name otherwise kind others x y. kind x.0 y.0 && others x.1 y.1;
  no_more = λ x y. true;
  a_child = nat_eq;
  a_code_or_none = option_eq (pointwise nat_eq);
  a_text = pointwise nat_eq;
  a_number = nat_eq;
  a_truth = beq;
  a_day = nat_eq;
  some_flags = nat_eq;
  some_codes = pointwise (pointwise nat_eq);
}

-- whether two children are equal in all their values
abbrev pub is_same_child : Child → Child → Bool
is_same_child x y = child_fields equality (child_values x) (child_values y)

-- whether two applications are equal in all their values
abbrev pub is_same_application : Application → Application → Bool
is_same_application x y = nat_eq x.child y.child && (nat_eq x.day y.day && pointwise (pointwise nat_eq) x.list y.list)

-- whether two rows of places are equal in all their values
abbrev pub is_same_place : PlaceRow → PlaceRow → Bool
is_same_place x y = nat_eq x.child y.child && (pointwise nat_eq x.place.school y.place.school && state_eq.it x.place.state y.place.state)

-- whether two left pairs are equal in all their values
abbrev pub is_same_left : LeftPair → LeftPair → Bool
is_same_left x y = nat_eq x.child y.child && pointwise nat_eq x.school y.school

-- whether two draws are equal in all their values
abbrev pub is_same_draw : Draw → Draw → Bool
is_same_draw x y =
    nat_eq x.number y.number && (nat_eq x.round y.round && (option_eq (pointwise nat_eq) x.school y.school && (nat_eq x.day y.day && (pointwise outcome_eq.it x.outcomes y.outcomes && pointwise lot_eq.it x.lots y.lots))))

-- whether two imported rows are equal in all their values
abbrev pub is_same_import : ImportRow → ImportRow → Bool
is_same_import x y = is_same_child x.child y.child && (nat_eq x.day y.day && pointwise (pointwise nat_eq) x.preferences y.preferences)

-- whether a row is not the one that is there
abbrev pub is_other : {V : Type 0} → (V → V → Bool) → Option V → V → Bool
is_other same None row = true
is_other same (Some there) row = not (same there row)
