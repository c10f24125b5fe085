-- A draw is determined by its data in all but its lots.
use Rattle.std.proofs.Common.{◌≡◌, ap, ◌≤◌, [], codes}
use Rattle.std.proofs.lemmas.Option.{same_Some}
use Rattle.serde_json.specs.Data.{boolean}
use Rattle.serde_json.specs.Find.{get}
use Rattle.serde_json.proofs.OnLiterals.{serde_json_on_literals}
use Rattle.adm_types.specs.Numbers.{first_day}
use Rattle.adm_types.specs.declared.draws.Draw.{Draw}
use Rattle.adm_types.specs.declared.draws.Outcome.{Outcome}
use Rattle.adm_view.specs.Writing.{number_data, list_data, day_data}
use Rattle.adm_view.specs.Draws.{code_or_null, round_or_null, outcome_data, draw_data}
use Rattle.adm_view_laws.specs.Alike.{without_lots}
use Rattle.adm_view_laws.proofs.Values.{same_items, same_number, same_truth, same_code, same_round, same_day}

same_outcome : (x y : Outcome) → outcome_data x ≡ outcome_data y → x ≡ y
unfolding serde_json_on_literals
same_outcome x y e =
    let child : x.child ≡ y.child = same_number x.child y.child (same_Some (number_data x.child) (number_data y.child) (ap (get (codes "child")) e)) in
    let fresh : x.fresh ≡ y.fresh = same_truth x.fresh y.fresh (same_Some (boolean x.fresh) (boolean y.fresh) (ap (get (codes "fresh")) e)) in
    let school : x.school ≡ y.school = same_code x.school y.school (same_Some (code_or_null x.school) (code_or_null y.school) (ap (get (codes "school")) e)) in
    λ i. record { child = child i; school = school i; fresh = fresh i }

pub same_draw : (x y : Draw) → first_day ≤ x.day → first_day ≤ y.day → draw_data x ≡ draw_data y → without_lots x ≡ without_lots y
unfolding serde_json_on_literals
same_draw x y from too e =
    let number : x.number ≡ y.number = same_number x.number y.number (same_Some (number_data x.number) (number_data y.number) (ap (get (codes "draw")) e)) in
    let round : x.round ≡ y.round = same_round x.round y.round (same_Some (round_or_null x.round) (round_or_null y.round) (ap (get (codes "round")) e)) in
    let school : x.school ≡ y.school = same_code x.school y.school (same_Some (code_or_null x.school) (code_or_null y.school) (ap (get (codes "school")) e)) in
    let day : x.day ≡ y.day = same_day x.day y.day from too (same_Some (day_data x.day) (day_data y.day) (ap (get (codes "day")) e)) in
    let outcomes : x.outcomes ≡ y.outcomes =
    same_items outcome_data outcome_data x.outcomes y.outcomes (λ c d i j. same_outcome c d)
    (same_Some (list_data outcome_data x.outcomes) (list_data outcome_data y.outcomes) (ap (get (codes "outcomes")) e)) in
    λ i. record { number = number i; round = round i; school = school i; day = day i; outcomes = outcomes i; lots = [] }
