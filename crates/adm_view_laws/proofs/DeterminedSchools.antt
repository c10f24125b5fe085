-- A school that is in its limits is determined by its data.
use Rattle.std.proofs.Common.{◌≡◌, ap, true, length, codes}
use Rattle.std.specs.Prelude.{◌&&◌, nat_le}
use Rattle.std.specs.List.{list_all}
use Rattle.std.proofs.lemmas.Bool.{and_parts}
use Rattle.std.proofs.lemmas.Option.{same_Some}
use Rattle.serde_json.specs.Data.{string}
use Rattle.serde_json.specs.Find.{get}
use Rattle.serde_json.proofs.OnLiterals.{serde_json_on_literals}
use Rattle.adm_lists.proofs.Members.{passes_in}
use Rattle.adm_types.specs.Limits.{is_pan, is_on_map, is_school_in_range}
use Rattle.adm_types.specs.Criteria.{is_criterion}
use Rattle.adm_types.specs.declared.rows.School.{School}
use Rattle.adm_register.specs.State.{State}
use Rattle.adm_view.specs.Writing.{number_data, list_data, criterion_data}
use Rattle.adm_view.specs.Schools.{school_data}
use Rattle.adm_view_laws.proofs.Values.{same_items, same_number, same_text, same_criterion}

criteria_fit : (x : School) → is_school_in_range x ≡ true → list_all is_criterion x.criteria ≡ true
criteria_fit x p = (and_parts (is_pan x.pan && is_on_map x.at && nat_le (length x.criteria) 8) (list_all is_criterion x.criteria) p).1

pub same_school : (a b : State) (x y : School) → is_school_in_range x ≡ true → is_school_in_range y ≡ true → school_data a x ≡ school_data b y → x ≡ y
unfolding serde_json_on_literals
same_school a b x y p q e =
    let code : x.code ≡ y.code = same_text x.code y.code (same_Some (string x.code) (string y.code) (ap (get (codes "school")) e)) in
    let name : x.name ≡ y.name = same_text x.name y.name (same_Some (string x.name) (string y.name) (ap (get (codes "name")) e)) in
    let pan : x.pan ≡ y.pan = same_number x.pan y.pan (same_Some (number_data x.pan) (number_data y.pan) (ap (get (codes "pan")) e)) in
    let east : x.at.east ≡ y.at.east = same_number x.at.east y.at.east (same_Some (number_data x.at.east) (number_data y.at.east) (ap (get (codes "east")) e)) in
    let north : x.at.north ≡ y.at.north = same_number x.at.north y.at.north (same_Some (number_data x.at.north) (number_data y.at.north) (ap (get (codes "north")) e)) in
    let criteria : x.criteria ≡ y.criteria =
    same_items criterion_data criterion_data x.criteria y.criteria
    (λ c d i j. same_criterion c d (passes_in is_criterion x.criteria c (criteria_fit x p) i) (passes_in is_criterion y.criteria d (criteria_fit y q) j))
    (same_Some (list_data criterion_data x.criteria) (list_data criterion_data y.criteria) (ap (get (codes "criteria")) e)) in
    λ i. record { code = code i; name = name i; pan = pan i; at = record { east = east i; north = north i }; criteria = criteria i }
